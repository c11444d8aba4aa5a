use Rattle.std.proofs.Common.{◌≡◌, ◌<◌, ℕ, Some, slice_get}
use Rattle.sd_jobs.specs.Jobs.{JobEndIs}
use Rattle.sd_line.specs.Ends.{ToldSession}
use Rattle.sd_returned.proofs.alone.is_alone.Given as goal

-- of the first ends none but that at the place tells of a session of the number
abbrev pub invariant-loop-at : goal.invariant-loop-at
invariant-loop-at g l = (at : ℕ) (end : JobEndIs) (k : ℕ) (s : ToldSession) → at < l.at → slice_get l.ends at ≡ Some end
    → slice_get end.lane_end.sessions k ≡ Some s → s.session.key.id ≡ l.number → at ≡ l.place
