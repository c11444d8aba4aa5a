-- What a world does that keeps its rules, and whose drives keep what every drive keeps: one step after another.
use Rattle.std.specs.Prelude.{◌≡◌, ℕ, Some, List, [], ◌∷◌, slice_get}
use Rattle.sd_driver.specs.Meaning.{Meaning}
use Rattle.sd_drive.specs.Shelf.{Kept}
use Rattle.sd_drive.specs.View.{DriveIs}
use Rattle.sd_machine.specs.declared.event.Event.{Event}
use Rattle.sd_machine.specs.declared.reply.Reply.{Reply}
use Rattle.sd_world.specs.Moves.{Moves}
use Rattle.sd_world.specs.Rules.{IsWorld}
use Rattle.sd_world.specs.World.{WorldView, BayView}

-- each drive that is online keeps what every drive keeps
abbrev pub DrivesKeep : {D : Type 0} → (D → Meaning) → List (BayView D) → Type 0
DrivesKeep {D} meaning bays = (at : ℕ) (bay : BayView D) (d : DriveIs D) → slice_get bays at ≡ Some bay → bay.drive ≡ Some d
    → Kept (meaning d.device) d.volumes d.loaded d.journal

-- What every world keeps: its rules; and each of its drives what every drive keeps of its volumes and its journal.
pub record IsSound {D : Type 0} (meaning : D → Meaning) (w : WorldView D) : Type 0 where
  pub rules : IsWorld w
  pub drives : DrivesKeep meaning w.bays

-- From the one world the event, answered so, leads to the other: by a move, and the other is sound.
pub record IsStep {D : Type 0} (meaning : D → Meaning) (old : WorldView D) (event : Event) (reply : Reply) (new : WorldView D) : Type 0 where
  pub moves : Moves meaning old event reply new
  pub sound : IsSound meaning new

-- from the one world the events lead to the other, each by a step, with these replies
abbrev pub StepsAlong : {D : Type 0} → (D → Meaning) → WorldView D → List Event → List Reply → WorldView D → Type 0
StepsAlong meaning old [] [] new = new ≡ old
StepsAlong {D} meaning old (event ∷ events) (reply ∷ replies) new =
    (between : WorldView D) × IsStep meaning old event reply between × StepsAlong meaning between events replies new
StepsAlong meaning old events replies new = ⊥
