use Rattle.std.proofs.Common.{◌≡◌, ◌≢◌, ◌<◌, ℕ, Some, slice_get}
use Rattle.sd_line.specs.Ends.{ToldSession}
use Rattle.sd_returned.proofs.alone.has_number.Given as goal

-- none of the first has the number
abbrev pub invariant-loop-at : goal.invariant-loop-at
invariant-loop-at g l = (k : ℕ) (s : ToldSession) → k < l.at → slice_get l.sessions k ≡ Some s → s.session.key.id ≢ l.number
