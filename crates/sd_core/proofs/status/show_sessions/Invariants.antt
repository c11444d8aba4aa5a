use Rattle.std.proofs.Common.{◌≡◌, length, map, take, vec_len}
use Rattle.std.specs.Vec.{vec_capacity}
use Rattle.sd_core.specs.View.{session_line}
use Rattle.sd_core.proofs.status.show_sessions.Given as goal

-- a line for each session so far
abbrev pub invariant-loop-entry : goal.invariant-loop-entry
invariant-loop-entry g l = record {
  told : l.lines.items ≡ map session_line (take l.entry-index l.sessions);
  long : vec_len l.lines ≡ l.entry-index;
  room : vec_capacity l.lines ≡ length l.sessions;
}
