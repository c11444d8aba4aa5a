use Rattle.std.proofs.Common.{◌≡◌, ◌*◌, ◌≤◌, length}
use Rattle.sd_hub.specs.Settles.{sessions_to}
use Rattle.sd_hub.proofs.checks.count_all.Given as goal

-- those of the lanes so far are counted
abbrev pub invariant-loop-at : goal.invariant-loop-at
invariant-loop-at g l = record {
  counted : l.all ≡ length (sessions_to l.no l.at l.ends);
  few : l.all ≤ 18446744073709551616 * l.at;
}
