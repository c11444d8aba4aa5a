-- What an event does at a drive, in whatever world the drive is.
use Rattle.std.specs.Prelude.{◌≡◌, ℕ, ◌≤◌, Some, Option, List, ◌∷◌, slice_get, Result, Ok, Err}
use Rattle.sd_base.specs.Limits.{most_number, most_volume}
use Rattle.sd_base.specs.declared.refusal.Refusal.{Refusal}
use Rattle.sd_desk.specs.Desk.{DeskView, claimed_by}
use Rattle.sd_drive.specs.View.{DriveIs}
use Rattle.sd_driver.specs.Meaning.{Meaning}
use Rattle.sd_lane.specs.Queue.{LanesView, queued}
use Rattle.sd_lane.specs.declared.piece.Piece.{Piece}
use Rattle.sd_lane.specs.declared.piece.Queued.{Queued}
use Rattle.sd_machine.specs.declared.event.Event.{Event}
use Rattle.sd_machine.specs.declared.reply.Reply.{Reply}
use Rattle.sd_volume.specs.Volume.{VolumeView}
use Rattle.sd_world.specs.Stations.{Station, Outcome}
use Rattle.sd_world.specs.DriveMoves.{DriveMoves}
use Rattle.sd_world.specs.Operators.{MountsAt, MountRefused}

-- the event of the drive of this number is answered so, and drive, queue and desk are others then
abbrev pub MovesHere : {D : Type 0} → (D → Meaning) → (own : ℕ) → Event → DriveIs D → LanesView → DeskView
    → Reply → DriveIs D → LanesView → DeskView → Type 0
MovesHere meaning own event d queue desk reply after queue' desk' = (lost : Option (List ℕ))
    × DriveMoves meaning own event reply (record { drive = d; queue = queue; desk = desk })
    (record { drive = after; queue = queue'; desk = desk'; lost = lost })

-- the event is answered so, and only the drive is another then, whatever its number, the queue and the desk
abbrev pub MovesAlone : {D : Type 0} → (D → Meaning) → (ℕ → Event) → DriveIs D → Reply → DriveIs D → Type 0
MovesAlone meaning event d reply after = (own : ℕ) (queue : LanesView) (desk : DeskView)
    → MovesHere meaning own (event own) d queue desk reply after queue desk

-- the event of the drive of this number is answered so, and only drive and desk are others then, whatever the queue
abbrev pub MovesAtDesk : {D : Type 0} → (D → Meaning) → (own : ℕ) → Event → DriveIs D → DeskView → Reply → DriveIs D → DeskView → Type 0
MovesAtDesk meaning own event d desk reply after desk' = (queue : LanesView)
    → MovesHere meaning own event d queue desk reply after queue desk'

-- a mount of a volume by its name is answered so
abbrev pub MountAnswers : {D T : Type 0} → (D → Meaning) → (own : ℕ) → (name : List ℕ) → Result T Refusal → Station D → Outcome D → Type 0
MountAnswers meaning own name (Ok done) s o = MountsAt meaning own name s o
MountAnswers meaning own name (Err why) s o = MountRefused meaning name why s o

-- so it is at this drive and this desk, whatever the queue
abbrev pub MountsNamed : {D T : Type 0} → (D → Meaning) → (own : ℕ) → (name : List ℕ) → DriveIs D → DeskView
    → Result T Refusal → DriveIs D → DeskView → Type 0
MountsNamed {D} {T} meaning own name d desk result after desk' = (queue : LanesView) → (lost : Option (List ℕ))
    × MountAnswers {D = D} {T = T} meaning own name result (record { drive = d; queue = queue; desk = desk })
    (record { drive = after; queue = queue; desk = desk'; lost = lost })

-- What every world keeps.

-- each of the drive's volumes is claimed for it
abbrev pub AreClaimed : {D : Type 0} → (own : ℕ) → DriveIs D → DeskView → Type 0
AreClaimed own d desk = (place : ℕ) (v : VolumeView) → slice_get d.volumes place ≡ Some v → claimed_by desk v.name ≡ Some own

-- the first piece of the queue has the number of a session
abbrev pub FirstHasTicket : List Queued → Type 0
FirstHasTicket held = (lane : ℕ) (piece : Piece) (rest : List Queued) → held ≡ queued lane piece ∷ rest
    → (1 ≤ piece.key.id) × (piece.key.id ≤ most_number)

-- what a world keeps of a drive, the queue before it and the desk
pub record IsStation {D : Type 0} (own : ℕ) (d : DriveIs D) (held : List Queued) (desk : DeskView) : Type 0 where
  pub volume_most : d.limits.volume ≤ most_volume
  pub claimed : AreClaimed own d desk
  pub first : FirstHasTicket held
