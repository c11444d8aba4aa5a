-- A world that was just made keeps its rules.
use Rattle.std.proofs.Common.{◌≡◌, ◌≤◌, ℕ, zero, suc, ◌+◌, ◌∷◌, [], List, None, Some, Vec, All, length, map, slice_get, refl, sym, ap, subst, ◌∙◌, arith}
use Rattle.std.specs.List.{AllZip, AllByRecursion}
use Rattle.std.proofs.lemmas.List.{length-map}
use Rattle.std.proofs.lemmas.Option.{get_or_from_slice_get, slice_get_within}
use Rattle.sd_base.specs.Limits.{most_lanes, most_number}
use Rattle.sd_desk.specs.Desk.{claim_of}
use Rattle.sd_desk.specs.declared.claim.Claim.{Claim}
use Rattle.std.specs.Option.{option_map}
use Rattle.sd_driver.specs.Meaning.{Meaning}
use Rattle.sd_drive.specs.Limits.{AreLimits}
use Rattle.sd_drive.specs.View.{DriveIs}
use Rattle.sd_drive.specs.declared.limits.Limits.{Limits}
use Rattle.sd_lane.specs.Queue.{LanesView}
use Rattle.sd_spool.specs.Meaning.{Meaning as StoreMeaning}
use Rattle.sd_world.specs.World.{WorldView, WorldSession, BayView, LaneView, session_at, items_before}
use Rattle.sd_world.specs.Rules.{NumbersRise, IsOfOpened, IsLane, IsBay, IsWorld}
use Rattle.sd_core.specs.Conf.{IsConf, AreQueues, AreStores, empty_queue, limits_of}
use Rattle.sd_core.specs.Fresh.{IsNewDrive, AreNewDrives, IsFresh, new_lane, new_bay, new_bays}
use Rattle.sd_core.specs.declared.conf.WorldConf.{WorldConf}

-- there are as many queues, and as many lists of stores, as drives
pub zip_long : {A B : Type 0} (R : A → B → Type 0) (xs : List A) (ys : List B) → AllZip R xs ys → length ys ≡ length xs
zip_long R [] [] h = refl
zip_long R [] (y ∷ ys) h = absurd h
zip_long R (x ∷ xs) [] h = absurd h
zip_long R (x ∷ xs) (y ∷ ys) h = ap suc (zip_long R xs ys h.1)

-- there are as many bays as drives, or fewer
bays_most : {D Q S Z : Type 0} (queue : Q → LanesView) (store : S → StoreMeaning) (medias : List (List ℕ × ℕ)) (meaning : D → Meaning) (limits : Limits)
    (devices : List D) (ds : List (DriveIs D)) (qs : List Q) (ss : List (Vec S Z)) → AreNewDrives meaning limits medias devices ds
    → length (new_bays queue store ds qs ss) ≤ length medias
bays_most queue store medias meaning limits [] [] qs ss made = omega arith
bays_most queue store medias meaning limits [] (d ∷ ds) qs ss made = absurd made
bays_most queue store medias meaning limits (x ∷ xs) [] qs ss made = absurd made
bays_most queue store [] meaning limits (x ∷ xs) (d ∷ ds) qs ss made = absurd made
bays_most queue store (m ∷ ms) meaning limits (x ∷ xs) (d ∷ ds) [] ss made = omega arith
bays_most queue store (m ∷ ms) meaning limits (x ∷ xs) (d ∷ ds) (q ∷ qs) [] made = omega arith
bays_most queue store (m ∷ ms) meaning limits (x ∷ xs) (d ∷ ds) (q ∷ qs) (s ∷ ss) made =
    omega (arith, bays_most queue store ms meaning limits xs ds qs ss made.1)

-- A bay of a new world: its drive is new, its queue empty, with a store for each of its lanes.
record IsNewBay {D S : Type 0} (Z : Type 0) (meaning : D → Meaning) (store : S → StoreMeaning) (limits : Limits) (room : ℕ) (medias : List (List ℕ × ℕ)) (at : ℕ) (bay : BayView D) : Type 0 where
  pub m : List ℕ × ℕ
  pub device : D
  pub d : DriveIs D
  pub queue : LanesView
  pub stores : Vec S Z
  pub there : slice_get medias at ≡ Some m
  pub new : IsNewDrive meaning limits m.0 device d
  pub empty : queue ≡ empty_queue m.1 room
  pub many : length stores.items ≡ m.1
  pub bay_is : bay ≡ new_bay store d queue stores

-- so each bay of a new world is
new_bay_at : {D Q S Z : Type 0} (meaning : D → Meaning) (queue : Q → LanesView) (store : S → StoreMeaning) (limits : Limits) (room : ℕ) (medias : List (List ℕ × ℕ))
    (devices : List D) (ds : List (DriveIs D)) (qs : List Q) (ss : List (Vec S Z)) (at : ℕ) (bay : BayView D)
    → AreNewDrives meaning limits medias devices ds → AreQueues queue room medias qs → AreStores medias ss
    → slice_get (new_bays queue store ds qs ss) at ≡ Some bay → IsNewBay Z meaning store limits room medias at bay
new_bay_at meaning queue store limits room medias devices [] qs ss at bay made queues stores there = absurd (cc there)
new_bay_at meaning queue store limits room medias [] (d ∷ ds) qs ss at bay made queues stores there = absurd made
new_bay_at meaning queue store limits room [] (x ∷ xs) (d ∷ ds) qs ss at bay made queues stores there = absurd made
new_bay_at meaning queue store limits room (m ∷ ms) (x ∷ xs) (d ∷ ds) [] ss at bay made queues stores there = absurd queues
new_bay_at meaning queue store limits room (m ∷ ms) (x ∷ xs) (d ∷ ds) (q ∷ qs) [] at bay made queues stores there = absurd stores
new_bay_at meaning queue store limits room (m ∷ ms) (x ∷ xs) (d ∷ ds) (q ∷ qs) (s ∷ ss) zero bay made queues stores there =
    record { m = m; device = x; d = d; queue = queue q; stores = s; there = refl; new = made.0; empty = queues.0; many = stores.0; bay_is = cc there }
new_bay_at meaning queue store limits room (m ∷ ms) (x ∷ xs) (d ∷ ds) (q ∷ qs) (s ∷ ss) (suc at) bay made queues stores there =
    let b = new_bay_at meaning queue store limits room ms xs ds qs ss at bay made.1 queues.1 stores.1 there in
    record { m = b.m; device = b.device; d = b.d; queue = b.queue; stores = b.stores; there = b.there; new = b.new; empty = b.empty; many = b.many; bay_is = b.bay_is }

-- a lane of a new bay is as it should be
new_lanes : {S : Type 0} (store : S → StoreMeaning) (stores : List S) (sessions : List WorldSession) (drive number place : ℕ) (lane : LaneView)
    → slice_get (map (λ s. new_lane (store s)) stores) place ≡ Some lane → IsLane sessions drive number lane
new_lanes store [] sessions drive number place lane there = absurd (cc there)
new_lanes store (x ∷ xs) sessions drive number zero lane there =
    let one : lane ≡ new_lane (store x) = cc there in
    subst (λ l. IsLane sessions drive number l) (sym one) (record { holder = tt; unused = λ none. refl })
new_lanes store (x ∷ xs) sessions drive number (suc place) lane there = new_lanes store xs sessions drive number place lane there

-- so is a new bay, in a world of its limits
new_bay_is : {D S Z : Type 0} (meaning : D → Meaning) (store : S → StoreMeaning) (room : ℕ) (medias : List (List ℕ × ℕ))
    (w : WorldView D) (at : ℕ) (bay : BayView D) → IsNewBay Z meaning store w.limits room medias at bay → w.queue ≡ room
    → All (λ (m : List ℕ × ℕ). m.1 ≤ most_lanes) medias → IsBay w at bay
new_bay_is {D} meaning store room medias w at bay b queue_is most =
    let few : b.m.1 ≤ most_lanes = subst (λ (m : List ℕ × ℕ). m.1 ≤ most_lanes) (get_or_from_slice_get medias at b.m b.m b.there) (most at b.m (slice_get_within medias at b.m b.there)) in
    let new : DriveIs D = record { device = b.d.device; media = b.m.0; limits = w.limits; volumes = []; loaded = None; pool = None; hand = None; journal = []; ready = [] } in
    let long : length (new_bay store b.d b.queue b.stores).lanes ≡ b.m.1 = length-map b.stores.items (λ s. new_lane (store s)) ∙ b.many in
    let one : (e : DriveIs D) → Some b.d ≡ Some e → e ≡ new = λ e is. let same : e ≡ b.d = cc is in same ∙ b.new.is in
    subst (λ x. IsBay w at x) (sym b.bay_is) (record {
      lanes_most = subst (λ n. n ≤ most_lanes) (sym long) few;
      lanes_are = ap (λ (q : LanesView). q.lanes) b.empty ∙ sym long;
      capacity_is = ap (λ (q : LanesView). q.capacity) b.empty ∙ sym queue_is;
      media_is = λ e is. ap (λ (x : DriveIs D). x.media) (one e is ∙ sym b.new.is);
      limits_are = λ e is. ap (λ (x : DriveIs D). x.limits) (one e is);
      claimed = λ e is place v there. let none : None ≡ Some v = subst (λ (x : DriveIs D). slice_get x.volumes place ≡ Some v) (one e is) there in absurd (cc none);
      of_opened = λ e is.
          subst (λ (x : DriveIs D). AllByRecursion (IsOfOpened w.limits.time w.next) (items_before x b.queue)) (sym (one e is))
          (subst (λ (q : LanesView). AllByRecursion (IsOfOpened w.limits.time w.next) (items_before new q)) (sym b.empty) tt);
      lanes = λ place lane there. new_lanes store b.stores.items w.sessions (at + 1) place place lane there;
    })

-- the queues and the stores of a new world are as many as its drives
pub as_many_queues : {Q : Type 0} (queue : Q → LanesView) (room : ℕ) (medias : List (List ℕ × ℕ)) (qs : List Q) → AreQueues queue room medias qs → length qs ≡ length medias
as_many_queues queue room medias qs h = zip_long (λ (d : List ℕ × ℕ) q. queue q ≡ empty_queue d.1 room) medias qs h

pub as_many_stores : {S Z : Type 0} (medias : List (List ℕ × ℕ)) (ss : List (Vec S Z)) → AreStores medias ss → length ss ≡ length medias
as_many_stores {S} {Z} medias ss h = zip_long (λ (d : List ℕ × ℕ) (s : Vec S Z). length s.items ≡ d.1) medias ss h

-- a world of these parts, which was just made
pub is_fresh : {D Q S Z : Type 0} (meaning : D → Meaning) (queue : Q → LanesView) (store : S → StoreMeaning) (limits : Limits) (room : ℕ)
    (medias read : List (List ℕ × ℕ)) (devices : List D) (qs : List Q) (ss : List (Vec S Z)) (drives : List (DriveIs D)) (w : WorldView D)
    → w.limits ≡ limits → w.queue ≡ room → w.next ≡ 1 → w.sessions ≡ [] → ((name : List ℕ) → claim_of w.desk name ≡ None) → w.desk.requests ≡ []
    → read ≡ medias → AreNewDrives meaning limits read devices drives → w.bays ≡ new_bays queue store drives qs ss
    → IsFresh meaning queue store limits room medias devices qs ss w
is_fresh meaning queue store limits room medias read devices qs ss drives w limits_are queue_is next_is no_session no_claim no_request same drives_are bays_are = record {
  limits_are = limits_are;
  queue_is = queue_is;
  next_is = next_is;
  no_session = no_session;
  no_claim = λ name. ap (option_map (λ (c : Claim). c.drive)) (no_claim name);
  no_request = no_request;
  drives = drives;
  drives_are = subst (λ l. AreNewDrives meaning limits l devices drives) same drives_are;
  bays_are = bays_are;
}

-- the limits of a world's settings, in a run of a session's time
pub are_limits : (conf : WorldConf) (time : ℕ) → IsConf conf → 1 ≤ time → time ≤ most_number → AreLimits (limits_of conf time)
are_limits conf time is_conf least most = record {
  block_least = is_conf.block_least;
  block_most = is_conf.block_most;
  volume_least = is_conf.volume_least;
  volume_most = is_conf.volume_most;
  spool_least = is_conf.spool_least;
  spool_most = is_conf.spool_most;
  time_least = least;
  time_most = most;
}

-- A world that was just made keeps its rules.
pub fresh_is_world : {D Q S Z : Type 0} (meaning : D → Meaning) (queue : Q → LanesView) (store : S → StoreMeaning) (conf : WorldConf) (time : ℕ)
    (devices : List D) (qs : List Q) (ss : List (Vec S Z)) (w : WorldView D) → IsConf conf → 1 ≤ time → time ≤ most_number
    → AreQueues queue conf.queue conf.drives.items qs → AreStores conf.drives.items ss
    → IsFresh meaning queue store (limits_of conf time) conf.queue conf.drives.items devices qs ss w → IsWorld w
fresh_is_world {D} {Q} {S} {Z} meaning queue store conf time devices qs ss w is_conf least most queues stores f =
    let first : 1 ≤ w.next = omega (arith, f.next_is) in
    record {
      limits = subst AreLimits (sym f.limits_are) (are_limits conf time is_conf least most);
      next_most = omega (arith, f.next_is);
      numbers = subst (λ es. NumbersRise w.limits.time 1 w.next es) (sym f.no_session) first;
      bays_most = omega (
        arith,
        ap length f.bays_are,
        is_conf.drives_most,
        bays_most queue store conf.drives.items meaning (limits_of conf time) devices f.drives qs ss f.drives_are,
      );
      seated = λ ticket e at. let none : None ≡ Some e = subst (λ es. session_at ticket es ≡ Some e) f.no_session at in absurd (cc none);
      bays = λ at bay there.
          let here = subst (λ bs. slice_get bs at ≡ Some bay) f.bays_are there in
          let b = new_bay_at meaning queue store (limits_of conf time) conf.queue conf.drives.items devices f.drives qs ss at bay f.drives_are queues stores here in
          new_bay_is meaning store conf.queue conf.drives.items w at bay
          (subst (λ l. IsNewBay Z meaning store l conf.queue conf.drives.items at bay) (sym f.limits_are) b) f.queue_is is_conf.lanes_most;
    }
