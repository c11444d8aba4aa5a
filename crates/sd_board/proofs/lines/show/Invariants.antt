use Rattle.std.proofs.Common.{◌≡◌, length, map, take, vec_len}
use Rattle.std.specs.Vec.{vec_capacity}
use Rattle.sd_board.specs.Lines.{session_line}
use Rattle.sd_board.proofs.lines.show.Given as goal

-- a line for each of them so far
abbrev pub invariant-loop-posted : goal.invariant-loop-posted
invariant-loop-posted l = record {
  told : l.lines.items ≡ map session_line (take l.posted-index l.sessions);
  long : vec_len l.lines ≡ l.posted-index;
  room : vec_capacity l.lines ≡ length l.sessions;
}
