-- Where a session of a world is among the sessions, and a drive among the bays.
use Rattle.std.specs.Prelude.{◌≡◌, ℕ, Some, List, slice_get, slice_set}
use Rattle.sd_drive.specs.View.{DriveIs}
use Rattle.sd_world.specs.World.{WorldView, WorldSession, BayView, IsOnline, session_at, with_session}

-- the session of the ticket is at this place, and with another of its number there it is changed
pub record IsFoundAt (ticket : ℕ) (sessions : List WorldSession) (at : ℕ) : Type 0 where
  pub e : WorldSession
  pub there : slice_get sessions at ≡ Some e
  pub found : session_at ticket sessions ≡ Some e
  pub id_is : e.session.key.id ≡ ticket
  pub changes : (new : WorldSession) → new.session.key.id ≡ ticket → slice_set sessions at new ≡ with_session new sessions

-- the drive of this number is in the bay at this place, and online
abbrev pub IsOnlineAt : {D : Type 0} → WorldView D → ℕ → ℕ → Type 0
IsOnlineAt {D} w drive at = (bay : BayView D) × (d : DriveIs D) × IsOnline w drive at bay d
