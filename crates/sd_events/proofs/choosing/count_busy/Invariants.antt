use Rattle.std.proofs.Common.{◌≡◌, ◌≤◌, take}
use Rattle.std.specs.Prelude.{not}
use Rattle.std.specs.List.{count_by}
use Rattle.sd_events.proofs.choosing.count_busy.Given as goal

-- those so far that aren't free are counted
abbrev pub invariant-loop-is_free : goal.invariant-loop-is_free
invariant-loop-is_free g l = record {
  told : l.busy ≡ count_by not (take l.is_free-index l.is_free-items);
  few : l.busy ≤ l.is_free-index;
}
