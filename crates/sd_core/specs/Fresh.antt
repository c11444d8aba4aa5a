-- A world that was just made, of its configuration and of the devices, queues and stores that it was given.
use Rattle.std.specs.Prelude.{◌≡◌, ℕ, ◌≤◌, None, Some, List, [], ◌∷◌, map, length, Vec, vec_capacity}
use Rattle.sd_driver.specs.Meaning.{Meaning, IsHonest, SameCounts}
use Rattle.sd_driver.specs.Shelf.{SameShelf, StillLasts}
use Rattle.sd_drive.specs.Shelf.{LeavesStable}
use Rattle.sd_drive.specs.View.{DriveIs}
use Rattle.sd_drive.specs.declared.limits.Limits.{Limits}
use Rattle.sd_spool.specs.Job.{state_of}
use Rattle.sd_spool.specs.Meaning.{Meaning as StoreMeaning}
use Rattle.sd_desk.specs.Desk.{claimed_by}
use Rattle.sd_lane.specs.Queue.{LanesView}
use Rattle.sd_world.specs.World.{WorldView, BayView, LaneView}

-- A device is as honest as it was, its counts are as they were, and what lasted lasts; an honest one holds what it held.
pub record StaysDevice {D : Type 0} (meaning : D → Meaning) (old new : D) : Type 0 where
  pub counts : SameCounts (meaning old) (meaning new)
  pub same : IsHonest (meaning old) → SameShelf (meaning old).shelf (meaning new).shelf
  pub later : StillLasts (meaning old).shelf (meaning new).shelf

-- A drive over the device, with no volume and no session yet. If it is honest, a stop before left what was stable.
pub record IsNewDrive {D : Type 0} (meaning : D → Meaning) (limits : Limits) (media : List ℕ) (device : D) (d : DriveIs D) : Type 0 where
  pub is : d ≡ record { device = d.device; media = media; limits = limits; volumes = []; loaded = None; pool = None; hand = None; journal = []; ready = [] }
  pub stays : StaysDevice meaning device d.device
  pub stable : IsHonest (meaning device) → LeavesStable (meaning device).shelf

-- so each of them, with the media at its place
abbrev pub AreNewDrives : {D : Type 0} → (D → Meaning) → Limits → List (List ℕ × ℕ) → List D → List (DriveIs D) → Type 0
AreNewDrives meaning limits medias [] [] = Unit {0}
AreNewDrives meaning limits medias [] (d ∷ ds) = ⊥
AreNewDrives meaning limits medias (x ∷ xs) [] = ⊥
AreNewDrives meaning limits [] (x ∷ xs) (d ∷ ds) = ⊥
AreNewDrives meaning limits (m ∷ ms) (x ∷ xs) (d ∷ ds) = IsNewDrive meaning limits m.0 x d × AreNewDrives meaning limits ms xs ds

-- a lane that no session used yet, with its store
abbrev pub new_lane : StoreMeaning → LaneView
new_lane store = record { holder = None; store = Some (state_of store) }

-- the list of lanes is empty, and has room for one over each of the stores
abbrev pub HasRoom : {S L Z : Type 0} → Vec S Z → Vec L Z → Type 0
HasRoom stores lanes = (lanes.items ≡ []) × (length stores.items ≤ vec_capacity lanes)

-- the bay of a drive, with a lane over each store, and this queue
abbrev pub new_bay : {D S Z : Type 0} → (S → StoreMeaning) → DriveIs D → LanesView → Vec S Z → BayView D
new_bay store d queue stores = record {
  media = d.media;
  drive = Some d;
  lanes = map (λ s. new_lane (store s)) stores.items;
  queue = queue;
}

-- the bays of these drives, with the queues and stores at their places
abbrev pub new_bays : {D Q S Z : Type 0} → (Q → LanesView) → (S → StoreMeaning) → List (DriveIs D) → List Q → List (Vec S Z) → List (BayView D)
new_bays queue store (d ∷ ds) (q ∷ qs) (s ∷ ss) = new_bay store d (queue q) s ∷ new_bays queue store ds qs ss
new_bays queue store ds qs ss = []

-- A new world: no session, no volume that is known or asked for, and each drive is new, with its queue and stores.
pub record IsFresh {D Q S Z : Type 0} (meaning : D → Meaning) (queue : Q → LanesView) (store : S → StoreMeaning)
    (limits : Limits) (room : ℕ) (medias : List (List ℕ × ℕ)) (devices : List D) (queues : List Q) (spools : List (Vec S Z))
    (w : WorldView D) : Type 0 where
  pub limits_are : w.limits ≡ limits
  pub queue_is : w.queue ≡ room
  pub next_is : w.next ≡ 1
  pub no_session : w.sessions ≡ []
  pub no_claim : (name : List ℕ) → claimed_by w.desk name ≡ None
  pub no_request : w.desk.requests ≡ []
  pub drives : List (DriveIs D)
  pub drives_are : AreNewDrives meaning limits medias devices drives
  pub bays_are : w.bays ≡ new_bays queue store drives queues spools
