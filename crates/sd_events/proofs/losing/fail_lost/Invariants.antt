use Rattle.std.proofs.Common.{ℕ, ◌&&◌, take}
use Rattle.sd_world.specs.Drives.{FailExactly}
use Rattle.sd_world.specs.Rules.{NumbersRise}
use Rattle.sd_events.specs.Losing.{holds_lane, has_lost}
use Rattle.sd_events.proofs.losing.fail_lost.Given as goal

abbrev pub invariant-loop-lane : goal.invariant-loop-lane
invariant-loop-lane g l = record {
  rise : (time : ℕ) × (next : ℕ) × NumbersRise time 1 next l.sessions.items;
  fail : FailExactly (λ e. holds_lane (take l.lane-index l.lanes) e && has_lost l.drive.journal e) l.fn.sessions.items l.sessions.items;
}
