-- Honest devices and stores, and that they stay so, whatever happens to a world.
use Rattle.std.specs.Prelude.{◌≡◌, ℕ, Some, Option, IfSome, IsTrue, slice_get}
use Rattle.sd_driver.specs.Meaning.{Meaning, IsHonest}
use Rattle.sd_drive.specs.View.{DriveIs}
use Rattle.sd_machine.specs.declared.event.Event.{Event}
use Rattle.sd_machine.specs.declared.reply.Reply.{Reply}
use Rattle.sd_session.specs.Session.{store_of}
use Rattle.sd_spool.specs.Job.{StoreState}
use Rattle.sd_world.specs.World.{WorldView, WorldSession, BayView, LaneView, IsOnline, session_at}
use Rattle.sd_world.specs.Moves.{Moves}
use Rattle.sd_world.specs.Rules.{IsWorld}

-- the store, if it is here, gives back what it was given
abbrev pub StoreIsTrue : Option StoreState → Type 0
StoreIsTrue store = IfSome store (λ s. IsTrue s.honest)

-- the device of each drive that is online is honest, and so is each spool's store, in a lane or at a session
pub record AreHonest {D : Type 0} (meaning : D → Meaning) (w : WorldView D) : Type 0 where
  pub devices : (drive at : ℕ) (bay : BayView D) (d : DriveIs D) → IsOnline w drive at bay d → IsHonest (meaning d.device)
  pub lanes : (at place : ℕ) (bay : BayView D) (lane : LaneView)
      → slice_get w.bays at ≡ Some bay → slice_get bay.lanes place ≡ Some lane → StoreIsTrue lane.store
  pub sessions : (ticket : ℕ) (e : WorldSession) → session_at ticket w.sessions ≡ Some e → StoreIsTrue (store_of e.session)

-- Laws.

-- a move of a world whose devices and stores are honest leaves them so
abbrev pub MovesKeepHonesty : Type 0 → Type 0
MovesKeepHonesty D = (meaning : D → Meaning) (old new : WorldView D) (event : Event) (reply : Reply)
    → IsWorld old → Moves meaning old event reply new → AreHonest meaning old → AreHonest meaning new
