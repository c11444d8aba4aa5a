-- What a world keeps of a session, its lane and its drive's bay, when one of them changes.
use Rattle.std.proofs.Common.{◌≡◌, ◌≢◌, ◌⊎◌, ℕ, ◌+◌, ◌≤◌, refl, sym, ap, subst, ◌∙◌, arith, inl, inr, true, false, Some, IsSome, List, ◌++◌, length, slice_get, slice_set}
use Rattle.std.proofs.lemmas.Option.{IfSome_then}
use Rattle.std.specs.List.{AllByRecursion}
use Rattle.sd_base.specs.Key.{is_key}
use Rattle.sd_base.specs.Limits.{most_lanes}
use Rattle.sd_base.specs.declared.number.SessionKey.{SessionKey}
use Rattle.sd_desk.specs.Desk.{claimed_by}
use Rattle.sd_drive.specs.View.{DriveIs, items}
use Rattle.sd_drive.specs.declared.limits.Limits.{Limits}
use Rattle.sd_journal.specs.Journal.{placements, placed_of, fails, has_purged}
use Rattle.sd_lane.specs.Queue.{LanesView}
use Rattle.sd_lane.specs.declared.piece.Piece.{Piece}
use Rattle.sd_session.specs.Session.{IsRunning}
use Rattle.sd_session.specs.declared.status.Status.TheVariants.{Closed, Purged}
use Rattle.sd_span.specs.Spans.{placements_of}
use Rattle.sd_span.specs.declared.placement.Placement.{Placement}
use Rattle.sd_volume.specs.Volume.{VolumeView}
use Rattle.sd_world.specs.World.{WorldView, WorldSession, BayView, LaneView, session_at, items_before, items_with}
use Rattle.sd_world.specs.Rules.{IsSeated, IsLane, IsBay, IsOfOpened}
use Rattle.sd_world.proofs.Lookups.{one_or_two, get_set-same, get_set-other}
use Rattle.sd_world.proofs.Views.{SessionStays, StoreStays}
use Rattle.sd_world.proofs.Items.{none_in_hand, items_before-items, of_opened-more}

-- Seats.

-- what the world keeps of a session, by its bay and its lane
pub record Sits {D : Type 0} (e : WorldSession) (bay : BayView D) (lane : LaneView) : Type 0 where
  pub sent_is : (d : DriveIs D) → bay.drive ≡ Some d
      → e.session.sent ≡ length (items_with e.session.key (items_before d bay.queue))
  pub holds : IsRunning e.session.status → lane.holder ≡ Some e.session.key.id
  pub online : IsRunning e.session.status → IsSome bay.drive
  pub lost_none : IsRunning e.session.status → (d : DriveIs D) → bay.drive ≡ Some d → fails e.session.key d.journal ≡ false
  pub closed : e.session.status ≡ Closed → (d : DriveIs D) → bay.drive ≡ Some d → placed_of e.session.key d.journal ≡ e.session.sent
  pub some_sent : e.session.status ≡ Closed → 1 ≤ e.session.sent
  pub purged : e.session.status ≡ Purged → (d : DriveIs D) → bay.drive ≡ Some d → placed_of e.session.key d.journal ≡ e.session.sent
  pub none_gone : e.session.status ≢ Purged → (d : DriveIs D) → bay.drive ≡ Some d → has_purged e.session.key d.journal ≡ false

pub sits_of : {D : Type 0} (w : WorldView D) (e : WorldSession) → (h : IsSeated w e) → Sits e h.bay h.lane
sits_of w e h = record {
  sent_is = h.sent_is;
  holds = h.holds;
  online = h.online;
  lost_none = h.lost_none;
  closed = h.closed;
  some_sent = h.some_sent;
  purged = h.purged;
  none_gone = h.none_gone;
}

-- the session sits so at a bay of the world
pub seat_in : {D : Type 0} (w : WorldView D) (e : WorldSession) (at place : ℕ) (bay : BayView D) (lane : LaneView)
    → e.drive ≡ at + 1 → e.session.lane ≡ place + 1 → slice_get w.bays at ≡ Some bay → slice_get bay.lanes place ≡ Some lane
    → Sits e bay lane → IsSeated w e
seat_in w e at place bay lane drive in_lane there stands sits = record {
  at = at;
  place = place;
  bay = bay;
  lane = lane;
  drive_is = drive;
  lane_is = in_lane;
  bay_there = there;
  lane_there = stands;
  sent_is = sits.sent_is;
  holds = sits.holds;
  online = sits.online;
  lost_none = sits.lost_none;
  closed = sits.closed;
  some_sent = sits.some_sent;
  purged = sits.purged;
  none_gone = sits.none_gone;
}

-- no bay changes
pub seated_on : {D : Type 0} (w w' : WorldView D) (e e' : WorldSession) → (h : IsSeated w e) → w'.bays ≡ w.bays
    → e'.drive ≡ e.drive → e'.session.lane ≡ e.session.lane → Sits e' h.bay h.lane → IsSeated w' e'
seated_on w w' e e' h bays drive lane sits =
    seat_in w' e' h.at h.place h.bay h.lane (drive ∙ h.drive_is) (lane ∙ h.lane_is) (ap (λ bs. slice_get bs h.at) bays ∙ h.bay_there) h.lane_there sits

-- what becomes of a seat at the bay that changes
abbrev pub SitsHere : {D : Type 0} → ℕ → BayView D → BayView D → WorldSession → WorldSession → Type 0
SitsHere at bay bay' e e' = (place : ℕ) (lane : LaneView) → e.drive ≡ at + 1 → e.session.lane ≡ place + 1
    → slice_get bay.lanes place ≡ Some lane → Sits e bay lane
    → (lane' : LaneView) × (slice_get bay'.lanes place ≡ Some lane') × Sits e' bay' lane'

-- and of one elsewhere
abbrev pub SitsThere : Type 0 → ℕ → WorldSession → WorldSession → Type 0
SitsThere D at e e' = (bay : BayView D) (lane : LaneView) → e.drive ≢ at + 1 → Sits e bay lane → Sits e' bay lane

-- one bay changes
pub seated_with : {D : Type 0} (w w' : WorldView D) (at : ℕ) (bay bay' : BayView D) (e e' : WorldSession) → IsSeated w e
    → slice_get w.bays at ≡ Some bay → w'.bays ≡ slice_set w.bays at bay'
    → e'.drive ≡ e.drive → e'.session.lane ≡ e.session.lane
    → SitsHere at bay bay' e e' → SitsThere D at e e' → IsSeated w' e'
seated_with {D} w w' at bay bay' e e' h there bays drive lane here elsewhere =
    elim (one_or_two h.at at) [
      | inl same ↦
          let is : h.bay ≡ bay = cc (sym h.bay_there ∙ ap (slice_get w.bays) same ∙ there) in
          let sits : Sits e bay h.lane = subst (λ b. Sits e b h.lane) is (sits_of w e h) in
          let seat = here h.place h.lane (h.drive_is ∙ ap (λ n. n + 1) same) h.lane_is
          (subst (λ (b : BayView D). slice_get b.lanes h.place ≡ Some h.lane) is h.lane_there) sits in
          seat_in w' e' h.at h.place bay' seat.0 (drive ∙ h.drive_is) (lane ∙ h.lane_is)
          (ap (λ bs. slice_get bs h.at) bays ∙ ap (slice_get (slice_set w.bays at bay')) same ∙ get_set-same w.bays at bay' bay there) seat.1 seat.2
      | inr apart ↦
          let sits = elsewhere h.bay h.lane (λ p. apart (omega (arith, p, h.drive_is))) (sits_of w e h) in
          seat_in w' e' h.at h.place h.bay h.lane (drive ∙ h.drive_is) (lane ∙ h.lane_is)
          (ap (λ bs. slice_get bs h.at) bays ∙ get_set-other w.bays at h.at bay' apart ∙ h.bay_there) h.lane_there sits
    ]

-- the session changes, and keeps what it sits by
pub sits_session : {D : Type 0} (e e' : WorldSession) (bay : BayView D) (lane : LaneView) → SessionStays e.session e'.session → Sits e bay lane → Sits e' bay lane
sits_session e e' bay lane stays h = record {
  sent_is = λ d on. stays.sent_is ∙ h.sent_is d on ∙ ap (λ k. length (items_with k (items_before d bay.queue))) (sym stays.key_is);
  holds = λ r. h.holds (stays.running r) ∙ ap (λ (k : SessionKey). Some k.id) (sym stays.key_is);
  online = λ r. h.online (stays.running r);
  lost_none = λ r d on. ap (λ k. fails k d.journal) stays.key_is ∙ h.lost_none (stays.running r) d on;
  closed = λ c d on. ap (λ k. placed_of k d.journal) stays.key_is ∙ h.closed (stays.was_closed c) d on ∙ sym stays.sent_is;
  some_sent = λ c. subst (λ (n : ℕ). 1 ≤ n) (sym stays.sent_is) (h.some_sent (stays.was_closed c));
  purged = λ c d on. ap (λ k. placed_of k d.journal) stays.key_is ∙ h.purged (stays.was_purged c) d on ∙ sym stays.sent_is;
  none_gone = λ n d on. ap (λ k. has_purged k d.journal) stays.key_is ∙ h.none_gone (λ p. n (stays.stays_purged p)) d on;
}

-- Drives.

-- a session's placements stay, unless its piece is in the hand
abbrev pub PlacesOwn : {D : Type 0} → DriveIs D → DriveIs D → Type 0
PlacesOwn d after = (key : SessionKey) → (placements_of key (placements after.journal) ≡ placements_of key (placements d.journal))
    ⊎ ((piece : Piece) × (d.hand ≡ Some piece) × (is_key key piece.key ≡ true))

-- the drive's volumes have names that they had
abbrev pub NamesStay : {D : Type 0} → DriveIs D → DriveIs D → Type 0
NamesStay d after = (place : ℕ) (v : VolumeView) → slice_get after.volumes place ≡ Some v
    → (before : ℕ) × (u : VolumeView) × (slice_get d.volumes before ≡ Some u) × (v.name ≡ u.name)

-- the journal has the placements that it had, and then perhaps others
abbrev pub JournalGrows : {D : Type 0} → DriveIs D → DriveIs D → Type 0
JournalGrows d after = (more : List Placement) × (placements after.journal ≡ placements d.journal ++ more)

-- what every call of a drive leaves of it
pub record DriveStays {D : Type 0} (d after : DriveIs D) : Type 0 where
  pub media_is : after.media ≡ d.media
  pub limits_are : after.limits ≡ d.limits
  pub items_are : items after.journal after.hand ≡ items d.journal d.hand
  pub own : PlacesOwn d after
  pub grows : JournalGrows d after

-- a session fails by the change of the drive only if it did
abbrev pub FailsStay : {D : Type 0} → SessionKey → DriveIs D → DriveIs D → Type 0
FailsStay key d after = fails key d.journal ≡ false → fails key after.journal ≡ false

-- nor is a block of it gone by the change
abbrev pub GoneStays : {D : Type 0} → SessionKey → DriveIs D → DriveIs D → Type 0
GoneStays key d after = has_purged key d.journal ≡ false → has_purged key after.journal ≡ false

-- the drive changes, and the session sits by it
pub sits_drive : {D : Type 0} (e : WorldSession) (bay : BayView D) (d after : DriveIs D) (lane : LaneView) → bay.drive ≡ Some d
    → DriveStays d after → (IsRunning e.session.status → FailsStay e.session.key d after)
    → (e.session.status ≢ Purged → GoneStays e.session.key d after)
    → Sits e bay lane → Sits e (record bay { drive = Some after }) lane
sits_drive {D} e bay d after lane on stays fail gone h =
    let key = e.session.key in
    let sent : e.session.sent ≡ length (items_with key (items_before after bay.queue)) =
    h.sent_is d on ∙ ap (λ is. length (items_with key is)) (sym (items_before-items d after bay.queue stays.items_are)) in
    let placed : placed_of key d.journal ≡ e.session.sent → placed_of key after.journal ≡ e.session.sent = λ all. elim (stays.own key) [
      | inl same ↦ ap length same ∙ all
      | inr p ↦ absurd (none_in_hand key d bay.queue p.0 (all ∙ h.sent_is d on) p.1 p.2)
    ] in
    let journal : (x : DriveIs D) → Some after ≡ Some x → after.journal ≡ x.journal = λ x is.
    let same : after ≡ x = cc is in ap (λ (y : DriveIs D). y.journal) same in
    record {
      sent_is = λ x is. let same : after ≡ x = cc is in subst (λ y. e.session.sent ≡ length (items_with key (items_before y bay.queue))) same sent;
      holds = h.holds;
      online = λ r. refl;
      lost_none = λ r x is. ap (fails key) (sym (journal x is)) ∙ fail r (h.lost_none r d on);
      closed = λ c x is. ap (placed_of key) (sym (journal x is)) ∙ placed (h.closed c d on);
      some_sent = h.some_sent;
      purged = λ c x is. ap (placed_of key) (sym (journal x is)) ∙ placed (h.purged c d on);
      none_gone = λ n x is. ap (has_purged key) (sym (journal x is)) ∙ gone n (h.none_gone n d on);
    }

-- the drive has its journal, and the pieces that were given to it or are before it stay
pub sits_kept : {D : Type 0} (e : WorldSession) (bay bay' : BayView D) (d after : DriveIs D) (lane lane' : LaneView) → bay.drive ≡ Some d → bay'.drive ≡ Some after
    → after.journal ≡ d.journal → items_before after bay'.queue ≡ items_before d bay.queue
    → (IsRunning e.session.status → lane'.holder ≡ Some e.session.key.id)
    → Sits e bay lane → Sits e bay' lane'
sits_kept {D} e bay bay' d after lane lane' on now same items holds h =
    let key = e.session.key in
    let journal : (x : DriveIs D) → bay'.drive ≡ Some x → x.journal ≡ d.journal = λ x is.
    let one : after ≡ x = cc (sym now ∙ is) in ap (λ (y : DriveIs D). y.journal) (sym one) ∙ same in
    record {
      sent_is = λ x is. let one : after ≡ x = cc (sym now ∙ is) in
          subst (λ y. e.session.sent ≡ length (items_with key (items_before y bay'.queue))) one (h.sent_is d on ∙ ap (λ is. length (items_with key is)) (sym items));
      holds = holds;
      online = λ r. subst IsSome (sym now) refl;
      lost_none = λ r x is. ap (fails key) (journal x is) ∙ h.lost_none r d on;
      closed = λ c x is. ap (placed_of key) (journal x is) ∙ h.closed c d on;
      some_sent = h.some_sent;
      purged = λ c x is. ap (placed_of key) (journal x is) ∙ h.purged c d on;
      none_gone = λ n x is. ap (has_purged key) (journal x is) ∙ h.none_gone n d on;
    }

-- Lanes.

-- the session of a lane stays in it, and keeps its store
abbrev pub HolderStays : List WorldSession → List WorldSession → ℕ → ℕ → Type 0
HolderStays es es' drive lane = (ticket : ℕ) (e : WorldSession) → session_at ticket es ≡ Some e → e.drive ≡ drive → e.session.lane ≡ lane
    → (e' : WorldSession) × (session_at ticket es' ≡ Some e') × (e'.drive ≡ e.drive) × (e'.session.lane ≡ e.session.lane) × StoreStays e.session e'.session

pub lane_stays : (es es' : List WorldSession) (drive place : ℕ) (lane : LaneView) → HolderStays es es' drive (place + 1)
    → IsLane es drive place lane → IsLane es' drive place lane
lane_stays es es' drive place lane stays h = record {
  holder = IfSome_then lane.holder h.holder (λ ticket p.
      let q = stays ticket p.0 p.1 p.2 p.3 in
      (q.0, q.1, q.2 ∙ p.2, q.3 ∙ p.3, λ none. q.4 (p.4 none)));
  unused = h.unused;
}

-- Bays.

-- what every move leaves of a world: its limits and queues; numbers don't fall; and claims stay
pub record WorldStays {D : Type 0} (w w' : WorldView D) : Type 0 where
  pub limits_are : w'.limits ≡ w.limits
  pub queue_is : w'.queue ≡ w.queue
  pub next_up : w.next ≤ w'.next
  pub claims : (name : List ℕ) (drive : ℕ) → claimed_by w.desk name ≡ Some drive → claimed_by w'.desk name ≡ Some drive

-- what a drive in a bay has to keep
pub record IsInBay {D : Type 0} (w : WorldView D) (at : ℕ) (media : List ℕ) (queue : LanesView) (d : DriveIs D) : Type 0 where
  pub media_is : d.media ≡ media
  pub limits_are : d.limits ≡ w.limits
  pub claimed : (place : ℕ) (v : VolumeView) → slice_get d.volumes place ≡ Some v → claimed_by w.desk v.name ≡ Some (at + 1)
  pub of_opened : AllByRecursion (IsOfOpened w.limits.time w.next) (items_before d queue)

-- the shape of a bay stays
pub record ShapeStays {D : Type 0} (bay bay' : BayView D) : Type 0 where
  pub media_is : bay'.media ≡ bay.media
  pub lanes_are : length bay'.lanes ≡ length bay.lanes
  pub queue_lanes : bay'.queue.lanes ≡ bay.queue.lanes
  pub capacity_is : bay'.queue.capacity ≡ bay.queue.capacity

-- each lane of a bay is as it should be
abbrev pub AreLanes : List WorldSession → ℕ → List LaneView → Type 0
AreLanes sessions drive lanes = (place : ℕ) (lane : LaneView) → slice_get lanes place ≡ Some lane → IsLane sessions drive place lane

pub bay_with : {D : Type 0} (w w' : WorldView D) (at : ℕ) (bay bay' : BayView D) → WorldStays w w' → IsBay w at bay → ShapeStays bay bay'
    → ((d : DriveIs D) → bay'.drive ≡ Some d → IsInBay w' at bay'.media bay'.queue d)
    → AreLanes w'.sessions (at + 1) bay'.lanes → IsBay w' at bay'
bay_with w w' at bay bay' stays h shape inside lanes = record {
  lanes_most = subst (λ n. n ≤ most_lanes) (sym shape.lanes_are) h.lanes_most;
  lanes_are = shape.queue_lanes ∙ h.lanes_are ∙ sym shape.lanes_are;
  capacity_is = shape.capacity_is ∙ h.capacity_is ∙ sym stays.queue_is;
  media_is = λ d on. (inside d on).media_is;
  limits_are = λ d on. (inside d on).limits_are;
  claimed = λ d on. (inside d on).claimed;
  of_opened = λ d on. (inside d on).of_opened;
  lanes = lanes;
}

-- a drive in a bay that doesn't change
pub inside_same : {D : Type 0} (w w' : WorldView D) (at : ℕ) (bay : BayView D) (d : DriveIs D) → WorldStays w w' → IsBay w at bay → bay.drive ≡ Some d
    → IsInBay w' at bay.media bay.queue d
inside_same w w' at bay d stays h on = record {
  media_is = h.media_is d on;
  limits_are = h.limits_are d on ∙ sym stays.limits_are;
  claimed = λ place v there. stays.claims v.name (at + 1) (h.claimed d on place v there);
  of_opened = subst (λ (l : Limits). AllByRecursion (IsOfOpened l.time w'.next) (items_before d bay.queue)) (sym stays.limits_are)
      (of_opened-more w.limits.time w.next w'.next (items_before d bay.queue) stays.next_up (h.of_opened d on));
}

-- a bay of which nothing changes
pub bay_same : {D : Type 0} (w w' : WorldView D) (at : ℕ) (bay : BayView D) → WorldStays w w' → IsBay w at bay
    → AreLanes w'.sessions (at + 1) bay.lanes → IsBay w' at bay
bay_same w w' at bay stays h lanes =
    bay_with w w' at bay bay stays h (record { media_is = refl; lanes_are = refl; queue_lanes = refl; capacity_is = refl })
    (λ d on. inside_same w w' at bay d stays h on) lanes

-- the drive of a bay changes
pub bay_drive : {D : Type 0} (w w' : WorldView D) (at : ℕ) (bay : BayView D) (d after : DriveIs D) → WorldStays w w' → IsBay w at bay → bay.drive ≡ Some d
    → DriveStays d after → ((place : ℕ) (v : VolumeView) → slice_get after.volumes place ≡ Some v → claimed_by w'.desk v.name ≡ Some (at + 1))
    → AreLanes w'.sessions (at + 1) bay.lanes → IsBay w' at (record bay { drive = Some after })
bay_drive w w' at bay d after stays h on drive claimed lanes =
    let inside = inside_same w w' at bay d stays h on in
    let own : IsInBay w' at bay.media bay.queue after = record {
      media_is = drive.media_is ∙ inside.media_is;
      limits_are = drive.limits_are ∙ inside.limits_are;
      claimed = claimed;
      of_opened = subst (AllByRecursion (IsOfOpened w'.limits.time w'.next)) (sym (items_before-items d after bay.queue drive.items_are)) inside.of_opened;
    } in
    bay_with w w' at bay (record bay { drive = Some after }) stays h (record { media_is = refl; lanes_are = refl; queue_lanes = refl; capacity_is = refl })
    (λ x is. let same : after ≡ x = cc is in subst (IsInBay w' at bay.media bay.queue) same own) lanes
