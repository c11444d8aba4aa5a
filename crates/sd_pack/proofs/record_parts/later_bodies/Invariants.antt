use Rattle.std.proofs.Common.{◌-◌, ◌≤◌, length, drop}
use Rattle.sd_pack.specs.RecordParts.{LaterBodies}
use Rattle.sd_pack.specs.KeptPacker.{AreWithin}
use Rattle.sd_pack.proofs.record_parts.later_bodies.Given as goal

-- the bodies made so far have the data before `at`
abbrev pub invariant-loop-at : goal.invariant-loop-at
invariant-loop-at l =
    (l.at ≤ length l.rec.bytes)
    × LaterBodies l.room l.rec (drop l.from l.rec.bytes) (drop l.at l.rec.bytes) l.later.items
    × AreWithin l.room l.later.items

abbrev pub decreases-loop-at : goal.decreases-loop-at
decreases-loop-at l = length l.rec.bytes - l.at
