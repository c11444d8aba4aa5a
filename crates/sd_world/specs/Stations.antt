-- Where the events of a drive happen: the drive, the queue before it, and the operator's desk; and what a drive's own
-- events do there.
use Rattle.std.specs.Prelude.{◌≡◌, ℕ, ◌+◌, None, Some, Option, List, ◌∷◌, Ok}
use Rattle.sd_desk.specs.Desk.{DeskView}
use Rattle.sd_driver.specs.Meaning.{Meaning}
use Rattle.sd_driver.specs.Shelf.{StillLasts}
use Rattle.sd_drive.specs.Moves.{FailsToSync, Places}
use Rattle.sd_drive.specs.Shelf.{KeepsPieces}
use Rattle.sd_drive.specs.View.{DriveIs}
use Rattle.sd_drive.specs.declared.place.Placed.TheVariants as place
use Rattle.sd_lane.specs.declared.piece.Piece.{Piece}
use Rattle.sd_lane.specs.declared.piece.Queued.{Queued}
use Rattle.sd_lane.specs.Queue.{LanesView, queued}
use Rattle.sd_span.specs.declared.placement.Placement.{Placement}
use Rattle.sd_volume.specs.Device.{Counted}

-- a drive, the queue before it, and the desk
pub record Station (D : Type 0) : Type 0 where
  pub drive : DriveIs D
  pub queue : LanesView
  pub desk : DeskView

-- What an event leaves there; and the volume whose blocks that weren't synced are lost, if a sync failed.
pub record Outcome (D : Type 0) : Type 0 where
  pub drive : DriveIs D
  pub queue : LanesView
  pub desk : DeskView
  pub lost : Option (List ℕ)

-- nothing changes
abbrev pub stays : {D : Type 0} → Station D → Outcome D
stays s = record { drive = s.drive; queue = s.queue; desk = s.desk; lost = None }

-- What every call leaves of a drive's device: it is as honest as it was; a fault or a lack of room that is answered was counted,
-- and no other; the pieces given so far stay; what lasted lasts.
pub record Calls {D : Type 0} (meaning : D → Meaning) (fault no_room : Type 0) (old new : DriveIs D) : Type 0 where
  pub counted : Counted fault no_room (meaning old.device) (meaning new.device)
  pub keeps : KeepsPieces (meaning old.device) (meaning new.device) old.journal new.journal old.hand new.hand
  pub later : StillLasts (meaning old.device).shelf (meaning new.device).shelf

-- the drive changes so by a call of it, and nothing else
abbrev pub CallsDrive : {D : Type 0} → (D → Meaning) → (fault no_room : Type 0) → (DriveIs D → DriveIs D → Type 0) → Station D → Outcome D → Type 0
CallsDrive meaning fault no_room change s o =
    change s.drive o.drive × Calls meaning fault no_room s.drive o.drive × (o ≡ record (stays s) { drive = o.drive })

-- Taking and placing a piece.

-- the first piece of the queue comes into the drive's empty hand
pub record TakesPiece {D : Type 0} (ticket seq : ℕ) (s : Station D) (o : Outcome D) : Type 0 where
  pub hand_empty : s.drive.hand ≡ None
  pub lane : ℕ
  pub piece : Piece
  pub rest : List Queued
  pub held_is : s.queue.held ≡ queued lane piece ∷ rest
  pub ticket_is : ticket ≡ piece.key.id
  pub seq_is : seq ≡ piece.seq
  pub is : o ≡ record (stays s) { drive = record s.drive { hand = Some piece }; queue = record s.queue { held = rest } }

-- the piece in the hand is placed, where the reply says
abbrev pub PlacesAt : {D : Type 0} → (D → Meaning) → (volume : List ℕ) → (start end : ℕ) → Station D → Outcome D → Type 0
PlacesAt meaning volume start end s o = (p : Placement)
    × (volume ≡ p.volume) × (start ≡ p.start) × (end ≡ p.start + p.length)
    × CallsDrive meaning ⊥ ⊥ (Places {E = Unit {0}} (Ok (place.At p))) s o

-- Syncing.

-- a sync of the drive's loaded volume failed, and its blocks that weren't synced are lost
pub record LosesBlocks {D : Type 0} (meaning : D → Meaning) (s : Station D) (o : Outcome D) : Type 0 where
  pub fails : FailsToSync s.drive o.drive
  pub calls : Calls meaning (Unit {0}) ⊥ s.drive o.drive
  pub is : o ≡ record (stays s) { drive = o.drive; lost = Some fails.volume.name }
