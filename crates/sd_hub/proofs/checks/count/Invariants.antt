use Rattle.std.proofs.Common.{◌≡◌, ◌≤◌, take}
use Rattle.sd_hub.specs.Settles.{times_of}
use Rattle.sd_hub.proofs.checks.count.Given as goal

-- those so far are counted
abbrev pub invariant-loop-told : goal.invariant-loop-told
invariant-loop-told g l = record {
  counted : l.many ≡ times_of l.key (take l.told-index l.sessions);
  few : l.many ≤ l.told-index;
}
