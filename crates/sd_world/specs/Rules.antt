-- What every world keeps, whatever happens to it.
use Rattle.std.specs.Prelude.{◌≡◌, ◌≢◌, ℕ, ◌+◌, ◌≤◌, ◌<◌, false, Some, None, IfSome, IsSome, List, [], ◌∷◌, length, slice_get}
use Rattle.std.specs.List.{AllByRecursion}
use Rattle.sd_base.specs.Limits.{most_number, most_drives, most_lanes}
use Rattle.sd_desk.specs.Desk.{claimed_by}
use Rattle.sd_drive.specs.Limits.{AreLimits}
use Rattle.sd_drive.specs.View.{DriveIs}
use Rattle.sd_journal.specs.Journal.{Item, fails, has_purged, placed_of}
use Rattle.sd_session.specs.Session.{IsRunning, store_of}
use Rattle.sd_session.specs.declared.status.Status.TheVariants.{Closed, Purged}
use Rattle.sd_volume.specs.Volume.{VolumeView}
use Rattle.sd_world.specs.World.{WorldView, WorldSession, BayView, LaneView, session_at, items_before, items_with}

-- The numbers of the sessions rise from `least` on, and are below the next one; each is of this run.
abbrev pub NumbersRise : ℕ → ℕ → ℕ → List WorldSession → Type 0
NumbersRise time least next [] = least ≤ next
NumbersRise time least next (e ∷ es) =
    (e.session.key.time ≡ time) × (least ≤ e.session.key.id) × NumbersRise time (e.session.key.id + 1) next es

-- the item is of a session of this run that was opened
pub record IsOfOpened (time next : ℕ) (i : Item) : Type 0 where
  pub time_is : i.key.time ≡ time
  pub id_least : 1 ≤ i.key.id
  pub id_most : i.key.id < next

-- The session's drive and lane are there. If the drive is online, as many pieces were given to it or wait as the session sent. A
-- session that goes on has its lane, on an online drive that lost none of its blocks. All pieces of a closed session, one at
-- least, or of a purged one are placed. No block is gone of a session that wasn't purged.
pub record IsSeated {D : Type 0} (w : WorldView D) (e : WorldSession) : Type 0 where
  pub at : ℕ
  pub place : ℕ
  pub bay : BayView D
  pub lane : LaneView
  pub drive_is : e.drive ≡ at + 1
  pub lane_is : e.session.lane ≡ place + 1
  pub bay_there : slice_get w.bays at ≡ Some bay
  pub lane_there : slice_get bay.lanes place ≡ Some lane
  pub sent_is : (d : DriveIs D) → bay.drive ≡ Some d
      → e.session.sent ≡ length (items_with e.session.key (items_before d bay.queue))
  pub holds : IsRunning e.session.status → lane.holder ≡ Some e.session.key.id
  pub online : IsRunning e.session.status → IsSome bay.drive
  pub lost_none : IsRunning e.session.status → (d : DriveIs D) → bay.drive ≡ Some d → fails e.session.key d.journal ≡ false
  pub closed : e.session.status ≡ Closed → (d : DriveIs D) → bay.drive ≡ Some d → placed_of e.session.key d.journal ≡ e.session.sent
  pub some_sent : e.session.status ≡ Closed → 1 ≤ e.session.sent
  pub purged : e.session.status ≡ Purged → (d : DriveIs D) → bay.drive ≡ Some d → placed_of e.session.key d.journal ≡ e.session.sent
  pub none_gone : e.session.status ≢ Purged → (d : DriveIs D) → bay.drive ≡ Some d → has_purged e.session.key d.journal ≡ false

-- The lane's store lies in the lane, or the session that used the lane last has it; that session is of this lane.
pub record IsLane (sessions : List WorldSession) (drive place : ℕ) (lane : LaneView) : Type 0 where
  pub holder : IfSome lane.holder (λ ticket. (e : WorldSession) × (session_at ticket sessions ≡ Some e)
      × (e.drive ≡ drive) × (e.session.lane ≡ place + 1) × (lane.store ≡ None → IsSome (store_of e.session)))
  pub unused : lane.holder ≡ None → IsSome lane.store

-- a drive's bay: the drive is of its media and of the world's limits, its volumes are claimed for it, the pieces given to
-- it and before it are of sessions that were opened, and each lane is as it should be
pub record IsBay {D : Type 0} (w : WorldView D) (at : ℕ) (bay : BayView D) : Type 0 where
  pub lanes_most : length bay.lanes ≤ most_lanes
  pub lanes_are : bay.queue.lanes ≡ length bay.lanes
  pub capacity_is : bay.queue.capacity ≡ w.queue
  pub media_is : (d : DriveIs D) → bay.drive ≡ Some d → d.media ≡ bay.media
  pub limits_are : (d : DriveIs D) → bay.drive ≡ Some d → d.limits ≡ w.limits
  pub claimed : (d : DriveIs D) → bay.drive ≡ Some d → (place : ℕ) (v : VolumeView)
      → slice_get d.volumes place ≡ Some v → claimed_by w.desk v.name ≡ Some (at + 1)
  pub of_opened : (d : DriveIs D) → bay.drive ≡ Some d → AllByRecursion (IsOfOpened w.limits.time w.next) (items_before d bay.queue)
  pub lanes : (place : ℕ) (lane : LaneView) → slice_get bay.lanes place ≡ Some lane → IsLane w.sessions (at + 1) place lane

-- a world keeps this
pub record IsWorld {D : Type 0} (w : WorldView D) : Type 0 where
  pub limits : AreLimits w.limits
  pub next_most : w.next ≤ most_number + 1
  pub numbers : NumbersRise w.limits.time 1 w.next w.sessions
  pub bays_most : length w.bays ≤ most_drives
  pub seated : (ticket : ℕ) (e : WorldSession) → session_at ticket w.sessions ≡ Some e → IsSeated w e
  pub bays : (at : ℕ) (bay : BayView D) → slice_get w.bays at ≡ Some bay → IsBay w at bay
