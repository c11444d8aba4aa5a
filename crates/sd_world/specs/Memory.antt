-- What being out of memory leaves of a world's sessions.
use Rattle.std.specs.Prelude.{◌≡◌, ◌≢◌, ℕ, Option, Some, None, List}
use Rattle.sd_base.specs.declared.refusal.Refusal.TheVariants.{Memory}
use Rattle.sd_driver.specs.Meaning.{Meaning}
use Rattle.sd_machine.specs.declared.event.Event.{Event}
use Rattle.sd_machine.specs.declared.event.Event.TheVariants.{Cancel, Take, Sync, Unmount, Retire}
use Rattle.sd_machine.specs.declared.reply.Reply.{Reply}
use Rattle.sd_machine.specs.declared.reply.Reply.TheVariants.{Refused}
use Rattle.sd_session.specs.Session.{IsRunning}
use Rattle.sd_world.specs.World.{WorldView, WorldSession, session_at}
use Rattle.sd_world.specs.Moves.{Moves}

-- the event takes no memory
abbrev pub TakesNoMemory : Event → Type 0
TakesNoMemory (Cancel ticket) = Unit {0}
TakesNoMemory (Take drive) = Unit {0}
TakesNoMemory (Sync drive) = Unit {0}
TakesNoMemory (Unmount drive) = Unit {0}
TakesNoMemory (Retire drive) = Unit {0}
TakesNoMemory event = ⊥

-- The session is as it was; but one that goes on no more may have given its lane's store back.
pub record StaysButStore (old new : WorldSession) : Type 0 where
  pub drive_is : new.drive ≡ old.drive
  pub is : new.session ≡ record old.session { store = new.session.store; spool = new.session.spool }
  pub running : IsRunning old.session.status → new ≡ old

-- so it is if there was one, and else there is none
abbrev pub StaysIfThere : Option WorldSession → Option WorldSession → Type 0
StaysIfThere None None = Unit {0}
StaysIfThere None (Some new) = ⊥
StaysIfThere (Some old) None = ⊥
StaysIfThere (Some old) (Some new) = StaysButStore old new

-- so it is for each ticket
abbrev pub SessionsStay : List WorldSession → List WorldSession → Type 0
SessionsStay old new = (ticket : ℕ) → StaysIfThere (session_at ticket old) (session_at ticket new)

-- an event that is answered 'out of memory' changes no session
abbrev pub WantChangesNone : {D : Type 0} → WorldView D → Reply → WorldView D → Type 0
WantChangesNone old reply new = reply ≡ Refused Memory → SessionsStay old.sessions new.sessions

-- an event that takes no memory isn't answered so
abbrev pub WantsNone : Event → Reply → Type 0
WantsNone event reply = TakesNoMemory event → reply ≢ Refused Memory

-- Laws.

-- a move that is answered 'out of memory' changes no session, and is of an event that takes memory
abbrev pub MovesWantMemory : Type 0 → Type 0
MovesWantMemory D = (meaning : D → Meaning) (old new : WorldView D) (event : Event) (reply : Reply)
    → Moves meaning old event reply new → WantChangesNone old reply new × WantsNone event reply
