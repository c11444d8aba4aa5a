-- What a world keeps of every session, whatever happens to it: its key and its drive.
use Rattle.std.specs.Prelude.{◌≡◌, ℕ, Some}
use Rattle.sd_driver.specs.Meaning.{Meaning}
use Rattle.sd_machine.specs.declared.event.Event.{Event}
use Rattle.sd_machine.specs.declared.reply.Reply.{Reply}
use Rattle.sd_world.specs.World.{WorldView, WorldSession, session_at}
use Rattle.sd_world.specs.Moves.{Moves}
use Rattle.sd_world.specs.Rules.{IsWorld}

-- the session has the key and the drive that it had
pub record HasSeat (old new : WorldSession) : Type 0 where
  pub key_is : new.session.key ≡ old.session.key
  pub drive_is : new.drive ≡ old.drive

-- each session is there again, with the key and the drive that it had
abbrev pub SeatsStay : {D : Type 0} → WorldView D → WorldView D → Type 0
SeatsStay old new = (ticket : ℕ) (e : WorldSession) → session_at ticket old.sessions ≡ Some e
    → (e' : WorldSession) × (session_at ticket new.sessions ≡ Some e') × HasSeat e e'

-- Laws.

-- a move leaves each session its key and its drive
abbrev pub MovesKeepSeats : Type 0 → Type 0
MovesKeepSeats D = (meaning : D → Meaning) (old new : WorldView D) (event : Event) (reply : Reply)
    → IsWorld old → Moves meaning old event reply new → SeatsStay old new
