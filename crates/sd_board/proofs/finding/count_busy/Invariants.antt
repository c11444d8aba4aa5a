use Rattle.std.proofs.Common.{◌≡◌, ◌≤◌, count_by, take}
use Rattle.sd_board.specs.Slots.{is_busy}
use Rattle.sd_board.proofs.finding.count_busy.Given as goal

-- those so far that are busy are counted
abbrev pub invariant-loop-slot : goal.invariant-loop-slot
invariant-loop-slot g l = record {
  told : l.busy ≡ count_by is_busy (take l.slot-index l.slots);
  few : l.busy ≤ l.slot-index;
}
