use Rattle.std.proofs.Common.{◌≡◌, ◌+◌, ◌≤◌, take, count_by}
use Rattle.sd_text.specs.Lines.{is_newline}
use Rattle.sd_conf.proofs.place.line_at.Given as goal

abbrev pub invariant-loop-byte : goal.invariant-loop-byte
invariant-loop-byte l = record {
  line_is : l.line ≡ count_by is_newline (take l.byte-index l.front) + 1;
  few : l.line ≤ l.byte-index + 1;
}
