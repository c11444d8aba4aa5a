-- What was told of a closed session, and what a drive's device owes it from then on.
use Rattle.std.specs.Prelude.{◌≡◌, ℕ, ◌≤◌, All, true, List, map, Option}
use Rattle.sd_base.specs.Record.{Record}
use Rattle.sd_base.specs.declared.number.SessionKey.{SessionKey}
use Rattle.sd_drive.specs.Shelf.{Kept, block_at}
use Rattle.sd_driver.specs.Meaning.{Meaning, IsHonest}
use Rattle.sd_driver.specs.Shelf.{Shelf, AfterStop, low_mark}
use Rattle.sd_journal.specs.Journal.{Entry, placements, placed_of, synced_of}
use Rattle.sd_label.specs.Cutting.{AtEnd}
use Rattle.sd_pack.specs.Body.{PackedBody}
use Rattle.sd_pack.specs.Packing.{Packs, bytes_of}
use Rattle.sd_readback.specs.Reading.{Reads, Volumes, blocks_of, volumes_on}
use Rattle.sd_span.specs.Spans.{spans_of}
use Rattle.sd_span.specs.declared.span.Span.{Span}
use Rattle.sd_volume.specs.Volume.{VolumeView}
use Rattle.sd_world.specs.Devices.{GoesOn}
use Rattle.sd_world.specs.Lasting.{SpansLast}

-- a close that was told: the session, its spans, the bodies that it sent, in order, and the device's moment then
pub record ToldClose : Type 0 where
  pub key : SessionKey
  pub spans : List Span
  pub bodies : List PackedBody
  pub since : ℕ

-- On these volumes the told spans read to the records that the session's bodies pack. No honesty of a store is in it:
-- whoever knows what the bodies pack knows what is read.
abbrev pub ReadsTold : Volumes → ToldClose → Type 0
ReadsTold volumes c = (room : ℕ) (records : List Record) → Packs room c.bodies records AtEnd → Reads volumes c.key c.spans records true

-- What was told stands. While the device is honest, each stop since then leaves the volumes up to the ends of the spans;
-- and on the volumes as they were then the spans read to what the session sent.
pub record StandsTold (device : Meaning) (c : ToldClose) : Type 0 where
  pub past : c.since ≤ device.shelf.moment
  pub stands : IsHonest device → (volumes : Volumes) × SpansLast c.since volumes device.shelf c.spans × ReadsTold volumes c

-- It comes back after any stop since then, also one inside a call: no volume is left shorter than a span's end, and on
-- what is left the spans read to these records.
pub record ComesBackTold (device : Meaning) (c : ToldClose) (records : List Record) : Type 0 where
  pub mark : All (λ (s : Span). s.end ≤ low_mark device.shelf c.since s.volume) c.spans
  pub reads : (left : Shelf) → AfterStop c.since device.shelf left → Reads (volumes_on left) c.key c.spans records true

-- Laws.

-- what stands stands as long as the device goes on and the volumes keep their blocks
abbrev pub ToldStays : Type 0
ToldStays = (old new : Meaning) (c : ToldClose) → GoesOn (λ _. Unit {0}) old new → StandsTold old c → StandsTold new c

-- and while the device is honest it comes back: to the records that the bodies pack
abbrev pub ToldComesBack : Type 0
ToldComesBack = (device : Meaning) (c : ToldClose) (room : ℕ) (records : List Record)
    → IsHonest device
    → Packs room c.bodies records AtEnd
    → StandsTold device c
    → ComesBackTold device c records

-- If a drive has a block of the session and all of them are synced, and while its device is honest they are the bodies
-- that the session sent, then what is told of it now stands.
abbrev pub CloseStands : Type 0
CloseStands = (device : Meaning) (volumes : List VolumeView) (loaded : Option ℕ) (journal : List Entry) (c : ToldClose)
    → Kept device volumes loaded journal
    → synced_of c.key journal ≡ placed_of c.key journal
    → 1 ≤ placed_of c.key journal
    → (IsHonest device → blocks_of c.key (map (block_at device.shelf) (placements journal)) ≡ bytes_of c.bodies)
    → c.spans ≡ spans_of c.key (placements journal)
    → c.since ≡ device.shelf.moment
    → StandsTold device c
