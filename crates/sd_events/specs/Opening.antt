-- The opening of a session by a lane, whatever the world around it.
use Rattle.std.specs.Prelude.{◌≡◌, ◌≢◌, ◌⊎◌, ℕ, ◌-◌, Some, None, List, [], ◌∷◌, ◌++◌}
use Rattle.sd_base.specs.Limits.{block_header}
use Rattle.sd_base.specs.declared.number.SessionKey.{SessionKey}
use Rattle.sd_base.specs.declared.refusal.Refusal.{Refusal}
use Rattle.sd_base.specs.declared.refusal.Refusal.TheVariants.{SpoolFault, Memory}
use Rattle.sd_drive.specs.View.{DriveIs}
use Rattle.sd_drive.specs.declared.limits.Limits.{Limits}
use Rattle.sd_journal.specs.Journal.{with_key}
use Rattle.sd_session.specs.Session.{SessionView, StartsSession}
use Rattle.sd_session.specs.Spooling.{HasFailed}
use Rattle.sd_session.specs.declared.opening.Opening.{Opening}
use Rattle.sd_spool.specs.Job.{StoreState}
use Rattle.sd_world.specs.World.{WorldSession, LaneView}
use Rattle.sd_world.specs.Sessions.{TakesStore}

-- the lane's store can be taken
abbrev pub CanTakeStore : LaneView → List WorldSession → Type 0
CanTakeStore lane sessions = (store : StoreState) × (after : List WorldSession) × TakesStore lane sessions store after

-- a session of this ticket starts on its lane's store, which is its own from then on
pub record StartsInLane (limits : Limits) (ticket : ℕ) (opening : Opening) (lane : LaneView) (old : List WorldSession)
    (session : SessionView) (after : LaneView) (new : List WorldSession) : Type 0 where
  pub store : StoreState
  pub takes : TakesStore lane old store new
  pub starts : StartsSession opening (limits.block - block_header) limits.spool store session
  pub lane_is : after ≡ record { holder = Some ticket; store = None }

-- none starts: it was out of memory, or the lane's store could not be cleared; the store lies in the lane now
pub record StartsNot (limits : Limits) (lane : LaneView) (old : List WorldSession) (why : Refusal)
    (after : LaneView) (new : List WorldSession) : Type 0 where
  pub store : StoreState
  pub store' : StoreState
  pub takes : TakesStore lane old store new
  pub lane_is : after ≡ record lane { store = Some store' }
  pub cause : ((why ≡ Memory) × (store' ≡ store)) ⊎ ((limits.spool ≢ 0) × (why ≡ SpoolFault) × HasFailed store store')

-- it starts, comes after all other sessions, and from now on its pool is the drive's, which has room for its first
-- placement
pub record OpensAt {D : Type 0} (limits : Limits) (ticket drive : ℕ) (opening : Opening) (lane : LaneView) (old : List WorldSession) (d : DriveIs D)
    (after : LaneView) (new : List WorldSession) (d' : DriveIs D) : Type 0 where
  pub session : SessionView
  pub sessions : List WorldSession
  pub starts : StartsInLane limits ticket opening lane old session after sessions
  pub new_is : new ≡ sessions ++ record { session = session; drive = drive } ∷ []
  pub drive_is : d' ≡ record d { pool = Some opening.pool; ready = with_key opening.key d.ready }

-- it isn't opened: it was out of memory at first, or it doesn't start, for which there was room
abbrev pub OpensNotAt : {D : Type 0} → Limits → SessionKey → LaneView → List WorldSession → DriveIs D → Refusal → LaneView → List WorldSession → DriveIs D → Type 0
OpensNotAt limits key lane old d why after new d' =
    ((why ≡ Memory) × (after ≡ lane) × (new ≡ old) × (d' ≡ d))
    ⊎ (StartsNot limits lane old why after new × (d' ≡ record d { ready = with_key key d.ready }))
