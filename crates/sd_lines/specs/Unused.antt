-- A drive of which nothing was used yet.
use Rattle.std.specs.Prelude.{◌≡◌, ℕ, List, [], ◌∷◌, ◌++◌}
use Rattle.atomic_table.specs.Seated.{TableId}
use Rattle.sd_drive.specs.declared.adopt.Adopted.{Adopted}
use Rattle.sd_drive.specs.declared.limits.Limits.{Limits}
use Rattle.sd_driver.specs.Meaning.{Meaning, IsHonest}
use Rattle.sd_driver.specs.Shelf.{StillLastsBelow}
use Rattle.sd_line.specs.Side.{book_of}
use Rattle.sd_volume.specs.Adopt.{Adopts, status_at}
use Rattle.sd_volume.specs.Volume.{VolumeView}

-- The table of the queue before it, and that of the ledger of its closes; for how many lanes the queue is, and for how many pieces
-- it has room; the drive's media and its limits; its device, and the volumes that it adopted.
pub record UnusedIs (D : Type 0) : Type 0 where
  pub table : TableId
  pub book : TableId
  pub lanes : ℕ
  pub room : ℕ
  pub media : List ℕ
  pub limits : Limits
  pub device : D
  pub volumes : List VolumeView

-- the queue, the ledger and the time of the run are those that are named for the drive of this number
pub record IsNamed {D : Type 0} (table : ℕ → TableId) (time : ℕ → ℕ) (no : ℕ) (u : UnusedIs D) : Type 0 where
  pub queue_is : u.table ≡ table no
  pub book_is : u.book ≡ table (book_of no)
  pub time_is : u.limits.time ≡ time no

-- What an adoption adds: a volume of that name and of the drive's media, which is full if it ends at the limit or past it. With
-- an honest device: the volume was there, and was cut where its blocks end. Nothing else changes.
pub record AdoptsUnused {D : Type 0} (name : List ℕ) (answer : Adopted) (device device' : Meaning) (old new : UnusedIs D) : Type 0 where
  pub volume : VolumeView
  pub adds : new ≡ record old { device = new.device; volumes = old.volumes ++ volume ∷ [] }
  pub name_is : volume.name ≡ name
  pub media_is : volume.media ≡ old.media
  pub status_is : volume.status ≡ status_at old.limits.volume volume.end
  pub answer_is : answer ≡ record { end = volume.end; next_number = volume.next_number }
  pub below : StillLastsBelow volume.end name device.shelf device'.shelf
  pub adopts : IsHonest device → Adopts name old.media old.limits.time volume device.shelf device'.shelf
