-- A world keeps its rules when sessions change, or one bay, or both.
use Rattle.std.proofs.Common.{◌≡◌, ◌≢◌, ℕ, ◌+◌, ◌≤◌, refl, sym, ap, subst, ◌∙◌, arith, inl, inr, Option, Some, List, length, slice_get, slice_set}
use Rattle.std.proofs.lemmas.List.{length-set}
use Rattle.sd_base.specs.Limits.{most_drives, most_number}
use Rattle.sd_base.specs.declared.number.SessionKey.{SessionKey}
use Rattle.sd_desk.specs.Desk.{DeskView, claimed_by}
use Rattle.sd_drive.specs.Limits.{AreLimits}
use Rattle.sd_drive.specs.View.{DriveIs}
use Rattle.sd_session.specs.Session.{IsRunning}
use Rattle.sd_volume.specs.Volume.{VolumeView}
use Rattle.sd_world.specs.World.{WorldView, WorldSession, BayView, LaneView, session_at, with_session}
use Rattle.sd_world.specs.Rules.{NumbersRise, IsSeated, IsBay, IsWorld}
use Rattle.sd_world.proofs.Lookups.{session_id, get_set-tells}
use Rattle.sd_world.proofs.Pairs.{PairOf, PairAt, WithOne, pair_after, pair_before, same_pair, with_pairs, is_numbered, numbers_with}
use Rattle.sd_world.proofs.Seats.{sits_of, sits_session, sits_drive, seated_on, seated_with, DriveStays, FailsStay, GoneStays, NamesStay, HolderStays, AreLanes, WorldStays, lane_stays, bay_same, bay_drive}
use Rattle.sd_world.proofs.Views.{StaysWhole, same_whole}

-- the session stays whole, at its drive
abbrev pub Whole : WorldSession → WorldSession → Type 0
Whole x y = (y.drive ≡ x.drive) × StaysWhole x.session y.session

pub whole_same : (x y : WorldSession) → y ≡ x → Whole x y
whole_same x y same = (ap (λ (z : WorldSession). z.drive) same, same_whole x.session y.session (ap (λ (z : WorldSession). z.session) same))

-- what is so of each pair is so in another way
pub pair_map : (R S : WorldSession → WorldSession → Type 0) (o o' : Option WorldSession)
    → ((x y : WorldSession) → o ≡ Some x → R x y → S x y) → PairOf R o o' → PairOf S o o'
pair_map R S o o' tells (inl p) = inl p
pair_map R S o o' tells (inr p) = inr (p.0, p.1, p.2, p.3, tells p.0 p.1 p.2 p.4)

-- the one that changes stays whole, so all do
pub whole_of : (ticket : ℕ) (e f x y : WorldSession) → Whole e f → WithOne ticket e f x y → Whole x y
whole_of ticket e f x y own (inl p) = subst (λ z. Whole z y) (sym p.0) (subst (λ z. Whole e z) (sym p.1) own)
whole_of ticket e f x y own (inr p) = whole_same x y p.1

-- every session stays whole
abbrev pub AllWhole : List WorldSession → List WorldSession → Type 0
AllWhole es es' = (ticket : ℕ) → PairAt Whole es es' ticket

pub holders_stay : (es es' : List WorldSession) (drive lane : ℕ) → AllWhole es es' → HolderStays es es' drive lane
holders_stay es es' drive lane whole ticket e at on in_lane =
    let p = pair_after Whole (session_at ticket es) (session_at ticket es') e (whole ticket) at in
    (p.0, p.1, p.2.0, p.2.1.stays.lane_is, p.2.1.store)

pub lanes_stay : (es es' : List WorldSession) (drive : ℕ) (lanes : List LaneView) → AllWhole es es' → AreLanes es drive lanes → AreLanes es' drive lanes
lanes_stay es es' drive lanes whole h place lane there =
    lane_stays es es' drive place lane (holders_stay es es' drive (place + 1) whole) (h place lane there)

-- One bay, and sessions.

-- the bay at a place is another, and what the world keeps is shown of it and of the sessions
pub world_with : {D : Type 0} (w w' : WorldView D) (at : ℕ) (bay' : BayView D) → IsWorld w → WorldStays w w' → w'.next ≤ most_number + 1
    → NumbersRise w'.limits.time 1 w'.next w'.sessions → w'.bays ≡ slice_set w.bays at bay'
    → ((ticket : ℕ) (e' : WorldSession) → session_at ticket w'.sessions ≡ Some e' → IsSeated w' e')
    → IsBay w' at bay'
    → ((other : ℕ) (b : BayView D) → other ≢ at → slice_get w.bays other ≡ Some b → AreLanes w'.sessions (other + 1) b.lanes)
    → IsWorld w'
world_with w w' at bay' h stays next numbers bays seated here lanes = record {
  limits = subst AreLimits (sym stays.limits_are) h.limits;
  next_most = next;
  numbers = numbers;
  bays_most = subst (λ n. n ≤ most_drives) (sym (ap length bays ∙ length-set w.bays at bay')) h.bays_most;
  seated = seated;
  bays = λ other b there. elim (get_set-tells w.bays at other bay' b (ap (λ bs. slice_get bs other) (sym bays) ∙ there)) [
    | inl p ↦ subst (λ x. IsBay w' other x) (sym p.1) (subst (λ n. IsBay w' n bay') (sym p.0) here)
    | inr p ↦ bay_same w w' other b stays (h.bays other b p.1) (lanes other b p.0 p.1)
  ];
}

-- Sessions alone.

pub sessions_world : {D : Type 0} (w : WorldView D) (es' : List WorldSession) → IsWorld w → AllWhole w.sessions es'
    → NumbersRise w.limits.time 1 w.next es' → IsWorld (record w { sessions = es' })
sessions_world {D} w es' h whole numbers =
    let w' : WorldView D = record w { sessions = es' } in
    let stays : WorldStays w w' = record { limits_are = refl; queue_is = refl; next_up = omega arith; claims = λ name drive claimed. claimed } in
    record {
      limits = h.limits;
      next_most = h.next_most;
      numbers = numbers;
      bays_most = h.bays_most;
      seated = λ ticket e' there.
          let p = pair_before Whole (session_at ticket w.sessions) (session_at ticket es') e' (whole ticket) there in
          let s = h.seated ticket p.0 p.1 in
          seated_on w w' p.0 e' s refl p.2.0 p.2.1.stays.lane_is (sits_session p.0 e' s.bay s.lane p.2.1.stays (sits_of w p.0 s));
      bays = λ at b there. bay_same w w' at b stays (h.bays at b there) (lanes_stay w.sessions es' (at + 1) b.lanes whole (h.bays at b there).lanes);
    }

-- one session changes, and stays whole
pub one_whole : (es : List WorldSession) (ticket : ℕ) (e f : WorldSession) → session_at ticket es ≡ Some e → Whole e f → AllWhole es (with_session f es)
one_whole es ticket e f at own other =
    let id : f.session.key.id ≡ ticket = ap (λ (k : SessionKey). k.id) own.1.stays.key_is ∙ session_id ticket es e at in
    pair_map (WithOne ticket e f) Whole (session_at other es) (session_at other (with_session f es))
    (λ x y there. whole_of ticket e f x y own) (with_pairs es ticket e f at id other)

pub session_world : {D : Type 0} (w : WorldView D) (ticket : ℕ) (e f : WorldSession) → IsWorld w → session_at ticket w.sessions ≡ Some e → Whole e f
    → IsWorld (record w { sessions = with_session f w.sessions })
session_world w ticket e f h at own =
    let time = (is_numbered w.limits.time 1 w.next ticket w.sessions e h.numbers at).time_is in
    sessions_world w (with_session f w.sessions) h (one_whole w.sessions ticket e f at own)
    (numbers_with w.limits.time 1 w.next f w.sessions (ap (λ (k : SessionKey). k.time) own.1.stays.key_is ∙ time) h.numbers)

-- One drive.

-- the session stays whole, and goes on only if it doesn't fail by the drive
abbrev pub GoesOnBy : {D : Type 0} → ℕ → DriveIs D → DriveIs D → WorldSession → WorldSession → Type 0
GoesOnBy at d after x y = Whole x y × (IsRunning y.session.status → x.drive ≡ at + 1 → FailsStay x.session.key d after)

-- one drive changes, the desk, and sessions with it
pub drive_world : {D : Type 0} (w : WorldView D) (at : ℕ) (bay : BayView D) (d after : DriveIs D) (desk : DeskView) (es' : List WorldSession)
    → IsWorld w → slice_get w.bays at ≡ Some bay → bay.drive ≡ Some d → DriveStays d after → ((key : SessionKey) → GoneStays key d after)
    → ((name : List ℕ) (drive : ℕ) → claimed_by w.desk name ≡ Some drive → claimed_by desk name ≡ Some drive)
    → ((place : ℕ) (v : VolumeView) → slice_get after.volumes place ≡ Some v → claimed_by desk v.name ≡ Some (at + 1))
    → ((ticket : ℕ) → PairAt (GoesOnBy at d after) w.sessions es' ticket) → NumbersRise w.limits.time 1 w.next es'
    → IsWorld (record w { sessions = es'; bays = slice_set w.bays at (record bay { drive = Some after }); desk = desk })
drive_world {D} w at bay d after desk es' h there on drive gone claims claimed pairs numbers =
    let bay' : BayView D = record bay { drive = Some after } in
    let w' : WorldView D = record w { sessions = es'; bays = slice_set w.bays at bay'; desk = desk } in
    let stays : WorldStays w w' = record { limits_are = refl; queue_is = refl; next_up = omega arith; claims = claims } in
    let whole : AllWhole w.sessions es' = λ ticket.
    pair_map (GoesOnBy at d after) Whole (session_at ticket w.sessions) (session_at ticket es') (λ x y found p. p.0) (pairs ticket) in
    world_with w w' at bay' h stays h.next_most numbers refl
    (λ ticket e' found.
    let p = pair_before (GoesOnBy at d after) (session_at ticket w.sessions) (session_at ticket es') e' (pairs ticket) found in
    let e = p.0 in
    let own = p.2.0.1.stays in
    seated_with w w' at bay bay' e e' (h.seated ticket e p.1) there refl p.2.0.0 own.lane_is
    (λ place lane here in_lane stands sits. (
      lane,
      stands,
      sits_drive e' bay d after lane on drive
          (λ r. subst (λ k. FailsStay k d after) (sym own.key_is) (p.2.1 r here)) (λ n. gone e'.session.key)
          (sits_session e e' bay lane own sits),
    ))
    (λ b lane elsewhere sits. sits_session e e' b lane own sits))
    (bay_drive w w' at bay d after stays (h.bays at bay there) on drive claimed (lanes_stay w.sessions es' (at + 1) bay.lanes whole (h.bays at bay there).lanes))
    (λ other b apart found. lanes_stay w.sessions es' (other + 1) b.lanes whole (h.bays other b found).lanes)

-- one drive changes, and the desk; no session changes, nor fails by it
pub calm_world : {D : Type 0} (w : WorldView D) (at : ℕ) (bay : BayView D) (d after : DriveIs D) (desk : DeskView)
    → IsWorld w → slice_get w.bays at ≡ Some bay → bay.drive ≡ Some d → DriveStays d after → ((key : SessionKey) → FailsStay key d after) → ((key : SessionKey) → GoneStays key d after)
    → ((name : List ℕ) (drive : ℕ) → claimed_by w.desk name ≡ Some drive → claimed_by desk name ≡ Some drive)
    → ((place : ℕ) (v : VolumeView) → slice_get after.volumes place ≡ Some v → claimed_by desk v.name ≡ Some (at + 1))
    → IsWorld (record w { bays = slice_set w.bays at (record bay { drive = Some after }); desk = desk })
calm_world w at bay d after desk h there on drive fail gone claims claimed =
    drive_world w at bay d after desk w.sessions h there on drive gone claims claimed
    (λ ticket. same_pair (GoesOnBy at d after) (session_at ticket w.sessions) (session_at ticket w.sessions) refl
    (λ e found. (whole_same e e refl, λ r here. fail e.session.key)))
    h.numbers

-- names that were claimed for the drive are
pub claimed_on : {D : Type 0} (w : WorldView D) (at : ℕ) (bay : BayView D) (d after : DriveIs D) (desk : DeskView) → IsWorld w → slice_get w.bays at ≡ Some bay
    → bay.drive ≡ Some d → NamesStay d after
    → ((name : List ℕ) (drive : ℕ) → claimed_by w.desk name ≡ Some drive → claimed_by desk name ≡ Some drive)
    → (place : ℕ) (v : VolumeView) → slice_get after.volumes place ≡ Some v → claimed_by desk v.name ≡ Some (at + 1)
claimed_on w at bay d after desk h there on names claims place v stands =
    let n = names place v stands in
    ap (claimed_by desk) n.3 ∙ claims n.1.name (at + 1) ((h.bays at bay there).claimed d on n.0 n.1 n.2)

-- The desk alone.

pub desk_world : {D : Type 0} (w : WorldView D) (desk : DeskView) → IsWorld w
    → ((name : List ℕ) (drive : ℕ) → claimed_by w.desk name ≡ Some drive → claimed_by desk name ≡ Some drive)
    → IsWorld (record w { desk = desk })
desk_world {D} w desk h claims =
    let w' : WorldView D = record w { desk = desk } in
    let stays : WorldStays w w' = record { limits_are = refl; queue_is = refl; next_up = omega arith; claims = claims } in
    record {
      limits = h.limits;
      next_most = h.next_most;
      numbers = h.numbers;
      bays_most = h.bays_most;
      seated = λ ticket e there. let s = h.seated ticket e there in seated_on w w' e e s refl refl refl (sits_of w e s);
      bays = λ at b there. bay_same w w' at b stays (h.bays at b there) (h.bays at b there).lanes;
    }
