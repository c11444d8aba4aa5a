-- What an event of the operator does to the drive of a line, if there is no desk.
use Rattle.std.specs.Prelude.{◌≡◌, ◌≢◌, ◌⊎◌, ℕ, List, map, Option, None, Some, slice_get}
use Rattle.sd_base.specs.declared.refusal.Refusal.TheVariants.{BadCommand}
use Rattle.sd_desk.specs.Desk.{DeskView, new_claim}
use Rattle.sd_desk.specs.declared.request.Request.{Request}
use Rattle.sd_driver.specs.Meaning.{Meaning}
use Rattle.sd_driver.specs.Shelf.{Shelf, Lasts}
use Rattle.sd_drive.specs.View.{DriveIs, names}
use Rattle.sd_lane.specs.Queue.{LanesView}
use Rattle.sd_machine.specs.declared.event.Event.{Event}
use Rattle.sd_machine.specs.declared.event.Event.TheVariants.{Sync, Label, Adopt, Mount, Unmount, Seek}
use Rattle.sd_machine.specs.declared.reply.Reply.{Reply}
use Rattle.sd_machine.specs.declared.reply.Reply.TheVariants.{Refused}
use Rattle.sd_volume.specs.Volume.{VolumeView}
use Rattle.sd_world.specs.DriveMoves.{DriveMoves}

-- the drive at which a line answers the event; none if it answers no such event
abbrev pub operated_at : Event → Option ℕ
operated_at (Sync drive) = Some drive
operated_at (Label drive name pool media moment) = Some drive
operated_at (Adopt drive name) = Some drive
operated_at (Mount drive name) = Some drive
operated_at (Unmount drive) = Some drive
operated_at (Seek drive) = Some drive
operated_at event = None

-- the desk of a daemon that has this drive alone: the drive's volumes are claimed for it, and no
-- other name is; these requests were asked
abbrev pub desk_of : {D : Type 0} → ℕ → DriveIs D → List Request → DeskView
desk_of own d requests = record { claims = map (λ name. (name, new_claim own)) (names d.volumes); requests = requests }

-- The event is answered as at the drive of a daemon that has this drive alone, whatever was asked
-- there, and whatever the queue before the drive holds. Of what that leaves only the drive is told.
abbrev pub AnswersAlone : {D : Type 0} → (D → Meaning) → (own : ℕ) → Event → Reply → DriveIs D → DriveIs D → Type 0
AnswersAlone meaning own event reply d after = (queue : LanesView) (requests : List Request) → (desk : DeskView) × (lost : Option (List ℕ))
    × DriveMoves meaning own event reply (record { drive = d; queue = queue; desk = desk_of own d requests })
    (record { drive = after; queue = queue; desk = desk; lost = lost })

-- An event that a line answers at this drive is answered so; any other is a bad command, and
-- nothing changes.
abbrev pub Operates : {D : Type 0} → (D → Meaning) → (own : ℕ) → Event → Reply → DriveIs D → DriveIs D → Type 0
Operates meaning own event reply d after =
    ((operated_at event ≡ Some own) × AnswersAlone meaning own event reply d after)
    ⊎ ((operated_at event ≢ Some own) × (reply ≡ Refused BadCommand) × (after ≡ d))

-- what an event may have been answered under a lock: as at some drive of this number
abbrev pub MayOperate : {D : Type 0} → (D → Meaning) → (own : ℕ) → Event → Reply → Type 0
MayOperate {D} meaning own event reply = (d : DriveIs D) × (after : DriveIs D) × Operates meaning own event reply d after

-- of each volume of the drive, what lasted still lasts
abbrev pub OwnLast : {D : Type 0} → DriveIs D → Shelf → Shelf → Type 0
OwnLast d old new = (at : ℕ) (v : VolumeView) → slice_get d.volumes at ≡ Some v
    → (since : ℕ) (bytes : List ℕ) → Lasts since v.name bytes old → Lasts since v.name bytes new
