-- A world keeps its rules when a session is opened, and when one isn't, for lack of memory or of its lane's store.
use Rattle.std.proofs.Common.{◌≡◌, ℕ, zero, suc, ◌+◌, refl, sym, ap, subst, ◌∙◌, arith, inl, inr, true, false, Bool, true≢false, Some, None, IsSome, List, [], ◌∷◌, ◌++◌, length, slice_get, slice_set, option_map}
use Rattle.std.proofs.lemmas.List.{length-set}
use Rattle.std.proofs.lemmas.Option.{IfSome_then, MatchOption-at_some, slice_get-map}
use Rattle.std.specs.List.{AllByRecursion}
use Rattle.sd_base.specs.declared.number.SessionKey.{SessionKey}
use Rattle.sd_drive.specs.View.{DriveIs, items}
use Rattle.sd_journal.specs.Journal.{items_of, placements, fails, has_purged, with_key}
use Rattle.sd_session.specs.Session.{SessionView, IsRunning, store_of, home_of, unused_store, new_spool}
use Rattle.sd_session.specs.declared.status.Status.TheVariants.{Active}
use Rattle.sd_spool.specs.Job.{StoreState}
use Rattle.sd_world.specs.World.{WorldView, WorldSession, BayView, LaneView, session_at, with_session, items_before, items_with, lane_is_free}
use Rattle.sd_world.specs.Rules.{NumbersRise, IsSeated, IsLane, IsWorld, IsOfOpened}
use Rattle.sd_world.specs.Sessions.{TakesStore, Reserves, OpensSession, OpensNot, next_key}
use Rattle.sd_world.specs.Honest.{StoreIsTrue}
use Rattle.sd_world.proofs.Lookups.{one_or_two, session_id, session_at-front, session_at-behind, session_at-push, get_set-same, get_set-other, get_set-tells}
use Rattle.sd_world.proofs.Items.{in_hand, in_queue, items_with-next, fails-next, gone-next, of_opened-front}
use Rattle.sd_world.proofs.LaneSteps.{not_free}
use Rattle.sd_world.proofs.Pairs.{PairAt, WithOne, pair_after, pair_before, same_pair, with_pairs, is_numbered, numbers_with, numbers_push, none_next}
use Rattle.sd_world.proofs.Seats.{sits_session, sits_kept, seated_with, lane_stays, WorldStays, IsInBay, inside_same, bay_with}
use Rattle.sd_world.proofs.Views.{SessionStays, StoreStays, StaysTrue, same_stays, gives_back}
use Rattle.sd_world.proofs.Worlds.{pair_map, world_with}

-- The lane's store is taken.

-- the session is as it was, but that one of this lane may have lost its store
pub record LosesStore (drive lane : ℕ) (x y : WorldSession) : Type 0 where
  pub drive_is : y.drive ≡ x.drive
  pub status_is : y.session.status ≡ x.session.status
  pub stays : SessionStays x.session y.session
  pub store : (x.drive ≡ drive → x.session.lane ≡ lane → ⊥) → StoreStays x.session y.session
  pub honest : StaysTrue x.session y.session

loses_none : (drive lane : ℕ) (x : WorldSession) → LosesStore drive lane x x
loses_none drive lane x = record { drive_is = refl; status_is = refl; stays = same_stays x.session; store = λ other h. h; honest = λ h. h }

-- the session that used a lane last
pub holder_of : (sessions : List WorldSession) (drive place : ℕ) (lane : LaneView) (ticket : ℕ) → IsLane sessions drive place lane → lane.holder ≡ Some ticket
    → (e : WorldSession) × (session_at ticket sessions ≡ Some e) × (e.drive ≡ drive) × (e.session.lane ≡ place + 1) × (lane.store ≡ None → IsSome (store_of e.session))
holder_of sessions drive place lane ticket h holds =
    MatchOption-at_some _ (λ number. (e : WorldSession) × (session_at number sessions ≡ Some e) × (e.drive ≡ drive) × (e.session.lane ≡ place + 1)
    × (lane.store ≡ None → IsSome (store_of e.session))) ticket holds h.holder

-- what is known of the sessions once the store was taken
pub record TakenFrom (w : List WorldSession) (time next drive lane : ℕ) (es' : List WorldSession) : Type 0 where
  pub pairs : (ticket : ℕ) → PairAt (LosesStore drive lane) w es' ticket
  pub numbers : NumbersRise time 1 next es'

pub taken_from : {D : Type 0} (w : WorldView D) (at place : ℕ) (bay : BayView D) (lane : LaneView) (store : StoreState) (es' : List WorldSession)
    → IsWorld w → slice_get w.bays at ≡ Some bay → slice_get bay.lanes place ≡ Some lane → TakesStore lane w.sessions store es'
    → TakenFrom w.sessions w.limits.time w.next (at + 1) (place + 1) es'
taken_from w at place bay lane store es' h there stands (inl p) = subst (TakenFrom w.sessions w.limits.time w.next (at + 1) (place + 1)) (sym p.1) (record {
  pairs = λ ticket. same_pair (LosesStore (at + 1) (place + 1)) (session_at ticket w.sessions) (session_at ticket w.sessions) refl (λ e found. loses_none (at + 1) (place + 1) e);
  numbers = h.numbers;
})
taken_from w at place bay lane store es' h there stands (inr p) =
    let ticket = p.1 in
    let e = p.2 in
    let f : WorldSession = record e { session = p.3 } in
    let found = p.5 in
    let back = gives_back e.session p.3 store p.6 in
    let held = holder_of w.sessions (at + 1) place lane ticket ((h.bays at bay there).lanes place lane stands) p.4 in
    let one : held.0 ≡ e = cc (sym held.1 ∙ found) in
    let on : e.drive ≡ at + 1 = ap (λ (x : WorldSession). x.drive) (sym one) ∙ held.2 in
    let in_lane : e.session.lane ≡ place + 1 = ap (λ (x : WorldSession). x.session.lane) (sym one) ∙ held.3 in
    let id : f.session.key.id ≡ ticket = ap (λ (k : SessionKey). k.id) back.key_is ∙ session_id ticket w.sessions e found in
    let numbered = is_numbered w.limits.time 1 w.next ticket w.sessions e h.numbers found in
    let own : LosesStore (at + 1) (place + 1) e f = record { drive_is = refl; status_is = ap (λ (s : SessionView). s.status) p.6.is; stays = back; store = λ other. absurd (other on in_lane); honest = λ h. subst (λ (s : SessionView). StoreIsTrue (store_of s)) (sym p.6.is) tt } in
    subst (TakenFrom w.sessions w.limits.time w.next (at + 1) (place + 1)) (sym p.7) (record {
      pairs = λ other. pair_map (WithOne ticket e f) (LosesStore (at + 1) (place + 1)) (session_at other w.sessions) (session_at other (with_session f w.sessions))
          (λ x y seen q. elim q [
            | inl r ↦ subst (λ z. LosesStore (at + 1) (place + 1) z y) (sym r.0) (subst (LosesStore (at + 1) (place + 1) e) (sym r.1) own)
            | inr r ↦ subst (LosesStore (at + 1) (place + 1) x) (sym r.1) (loses_none (at + 1) (place + 1) x)
          ])
          (with_pairs w.sessions ticket e f found id other);
      numbers = numbers_with w.limits.time 1 w.next f w.sessions (ap (λ (k : SessionKey). k.time) back.key_is ∙ numbered.time_is) h.numbers;
    })

-- every other lane is as it was
pub other_lane : (es es' : List WorldSession) (drive lane drive' place' : ℕ) (l : LaneView) → ((ticket : ℕ) → PairAt (LosesStore drive lane) es es' ticket)
    → (drive' ≡ drive → place' + 1 ≡ lane → ⊥) → IsLane es drive' place' l → IsLane es' drive' place' l
other_lane es es' drive lane drive' place' l pairs other h =
    lane_stays es es' drive' place' l (λ ticket e found on in_lane.
    let p = pair_after (LosesStore drive lane) (session_at ticket es) (session_at ticket es') e (pairs ticket) found in
    (p.0, p.1, p.2.drive_is, p.2.stays.lane_is, p.2.store (λ a b. other (sym on ∙ a) (sym in_lane ∙ b)))) h

-- No session is opened.

-- the lane with its store in it
store_back : (es es' : List WorldSession) (drive place : ℕ) (lane : LaneView) (state : StoreState) → ((ticket : ℕ) → PairAt (LosesStore drive (place + 1)) es es' ticket)
    → IsLane es drive place lane → IsLane es' drive place (record lane { store = Some state })
store_back es es' drive place lane state pairs h = record {
  holder = IfSome_then lane.holder h.holder (λ ticket held.
      let p = pair_after (LosesStore drive (place + 1)) (session_at ticket es) (session_at ticket es') held.0 (pairs ticket) held.1 in
      (p.0, p.1, p.2.drive_is ∙ held.2, p.2.stays.lane_is ∙ held.3, λ none. absurd (cc none)));
  unused = λ none. refl;
}

pub opens_not : {D : Type 0} (w w' : WorldView D) (pool media : List ℕ) (why : _) → IsWorld w → OpensNot w pool media why w' → IsWorld w'
opens_not {D} w w' pool media why h o =
    let there = o.reserves.online.there in
    let stands = o.reserves.lane_there in
    let es' = o.sessions in
    let taken = taken_from w o.at o.place o.bay o.lane o.before es' h there stands o.takes in
    let lane' : LaneView = record o.lane { store = Some o.after } in
    let lanes' = slice_set o.bay.lanes o.place lane' in
    let after : DriveIs D = record o.d { ready = with_key (next_key w) o.d.ready } in
    let bay' : BayView D = record o.bay { drive = Some after; lanes = lanes' } in
    let v : WorldView D = record w { sessions = es'; bays = slice_set w.bays o.at bay' } in
    let stays : WorldStays w v = record { limits_are = refl; queue_is = refl; next_up = omega arith; claims = λ name number claimed. claimed } in
    let R = LosesStore (o.at + 1) (o.place + 1) in
    let old = h.bays o.at o.bay there in
    let on = o.reserves.online.online in
    let inside = inside_same w v o.at o.bay o.d stays old on in
    let own_inside : IsInBay v o.at o.bay.media o.bay.queue after =
    record { media_is = inside.media_is; limits_are = inside.limits_are; claimed = inside.claimed; of_opened = inside.of_opened } in
    subst IsWorld (sym o.new_is)
    (world_with w v o.at bay' h stays h.next_most taken.numbers refl
    (λ ticket y found.
    let p = pair_before R (session_at ticket w.sessions) (session_at ticket es') y (taken.pairs ticket) found in
    let x = p.0 in
    seated_with w v o.at o.bay bay' x y (h.seated ticket x p.1) there refl p.2.drive_is p.2.stays.lane_is
    (λ place lane here in_lane seat sits.
    let s = sits_session x y o.bay lane p.2.stays sits in
    elim (one_or_two place o.place) [
      | inl same ↦
          let one : lane ≡ o.lane = cc (sym seat ∙ ap (slice_get o.bay.lanes) same ∙ stands) in
          let holder : lane'.holder ≡ lane.holder = ap (λ (l : LaneView). l.holder) (sym one) in (
            lane',
            ap (slice_get lanes') same ∙ get_set-same o.bay.lanes o.place lane' o.lane stands,
            sits_kept y o.bay bay' o.d after lane lane' on refl refl refl (λ r. holder ∙ s.holds r) s,
          )
      | inr apart ↦ (
        lane,
        get_set-other o.bay.lanes o.place place lane' apart ∙ seat,
        sits_kept y o.bay bay' o.d after lane lane on refl refl refl s.holds s,
      )
    ])
    (λ b lane elsewhere sits. sits_session x y b lane p.2.stays sits))
    (bay_with w v o.at o.bay bay' stays old (record { media_is = refl; lanes_are = length-set o.bay.lanes o.place lane'; queue_lanes = refl; capacity_is = refl })
    (λ z is. let that : after ≡ z = cc is in subst (IsInBay v o.at o.bay.media o.bay.queue) that own_inside)
    (λ place lane seat. elim (get_set-tells o.bay.lanes o.place place lane' lane seat) [
      | inl q ↦ subst (IsLane es' (o.at + 1) place) (sym q.1) (subst (λ n. IsLane es' (o.at + 1) n lane') (sym q.0)
          (store_back w.sessions es' (o.at + 1) o.place o.lane o.after taken.pairs (old.lanes o.place o.lane stands)))
      | inr q ↦ other_lane w.sessions es' (o.at + 1) (o.place + 1) (o.at + 1) place lane taken.pairs (λ a b. q.0 (omega (arith, b))) (old.lanes place lane q.1)
    ]))
    (λ other b apart found place lane seat.
    other_lane w.sessions es' (o.at + 1) (o.place + 1) (other + 1) place lane taken.pairs (λ a b. apart (omega (arith, a))) ((h.bays other b found).lanes place lane seat)))

-- A session is opened.

-- the lane that it gets is free
pub reserved_free : {D : Type 0} (w : WorldView D) (pool media : List ℕ) (drive at place : ℕ) (bay : BayView D) (d : DriveIs D) (lane : LaneView)
    → Reserves w pool media drive at place bay d lane → lane_is_free w.sessions d.journal lane.holder ≡ true
reserved_free w pool media drive at place bay d lane r =
    let free : LaneView → Bool = λ (l : LaneView). lane_is_free w.sessions d.journal l.holder in
    let is : Some r.lowest.first ≡ Some (free lane) = sym r.lowest.there ∙ slice_get-map free bay.lanes place ∙ ap (option_map free) r.lane_there in
    let one : r.lowest.first ≡ free lane = cc is in sym one ∙ r.lowest.is_candidate

-- it has a store
starts_stored : (limit : ℕ) (store : StoreState) → IsSome (home_of (unused_store limit store) (new_spool limit store))
starts_stored zero store = refl
starts_stored (suc n) store = refl

-- what a new session is to its world
record IsNew (next time lane : ℕ) (s : SessionView) : Type 0 where
  id_is : s.key.id ≡ next
  time_is : s.key.time ≡ time
  lane_is : s.lane ≡ lane
  sent_is : s.sent ≡ 0
  active : s.status ≡ Active
  stored : IsSome (store_of s)

is_new : {D : Type 0} (w w' : WorldView D) (job : ℕ) (pool media : List ℕ) (moment : _) (ticket drive : ℕ) → (o : OpensSession w job pool media moment ticket drive w')
    → IsNew w.next w.limits.time (o.place + 1) o.session
is_new w w' job pool media moment ticket drive o =
    let is = o.starts.is in
    record {
      id_is = ap (λ (s : SessionView). s.key.id) is;
      time_is = ap (λ (s : SessionView). s.key.time) is;
      lane_is = ap (λ (s : SessionView). s.lane) is;
      sent_is = ap (λ (s : SessionView). s.sent) is;
      active = ap (λ (s : SessionView). s.status) is;
      stored = subst (λ (s : SessionView). IsSome (store_of s)) (sym is) (starts_stored w.limits.spool o.store);
    }

pub opens : {D : Type 0} (w w' : WorldView D) (job : ℕ) (pool media : List ℕ) (moment : _) (ticket drive : ℕ) → IsWorld w
    → OpensSession w job pool media moment ticket drive w' → IsWorld w'
opens {D} w w' job pool media moment ticket drive h o =
    let there = o.reserves.online.there in
    let on = o.reserves.online.online in
    let stands = o.reserves.lane_there in
    let fresh = is_new w w' job pool media moment ticket drive o in
    let taken = taken_from w o.at o.place o.bay o.lane o.store o.sessions h there stands o.takes in
    let f : WorldSession = record { session = o.session; drive = drive } in
    let es' = o.sessions ++ f ∷ [] in
    let lane' : LaneView = record { holder = Some ticket; store = None } in
    let lanes' = slice_set o.bay.lanes o.place lane' in
    let after : DriveIs D = record o.d { pool = Some pool; ready = with_key (next_key w) o.d.ready } in
    let bay' : BayView D = record o.bay { drive = Some after; lanes = lanes' } in
    let v : WorldView D = record w { next = w.next + 1; sessions = es'; bays = slice_set w.bays o.at bay' } in
    let stays : WorldStays w v = record { limits_are = refl; queue_is = refl; next_up = omega arith; claims = λ name number claimed. claimed } in
    let R = LosesStore (o.at + 1) (o.place + 1) in
    let old = h.bays o.at o.bay there in
    let inside = inside_same w v o.at o.bay o.d stays old on in
    let own_inside : IsInBay v o.at o.bay.media o.bay.queue after =
    record { media_is = inside.media_is; limits_are = inside.limits_are; claimed = inside.claimed; of_opened = inside.of_opened } in
    let free = reserved_free w pool media drive o.at o.place o.bay o.d o.lane o.reserves in
    let opened = old.of_opened o.d on in
    let none_sent : items_with o.session.key (items_before o.d o.bay.queue) ≡ [] =
    items_with-next o.session.key w.limits.time w.next (items_before o.d o.bay.queue) fresh.id_is opened in
    let opened_placed : AllByRecursion (IsOfOpened w.limits.time w.next) (items_of (placements o.d.journal)) =
    of_opened-front w.limits.time w.next (items_of (placements o.d.journal)) (in_hand o.d.hand)
    (of_opened-front w.limits.time w.next (items o.d.journal o.d.hand) (in_queue o.bay.queue) opened) in
    let none_lost : fails o.session.key o.d.journal ≡ false = fails-next o.session.key w.limits.time w.next o.d.journal fresh.id_is opened_placed in
    let none_gone : has_purged o.session.key o.d.journal ≡ false = gone-next o.session.key w.limits.time w.next o.d.journal fresh.id_is opened_placed in
    let f_id : f.session.key.id ≡ ticket = fresh.id_is ∙ sym o.ticket_is in
    let found_f : session_at ticket es' ≡ Some f =
    session_at-behind ticket o.sessions f (none_next w.limits.time w.next ticket o.sessions taken.numbers (omega (arith, o.ticket_is))) f_id in
    let further : (drive' place' : ℕ) (l : LaneView) → (drive' ≡ o.at + 1 → place' + 1 ≡ o.place + 1 → ⊥) → IsLane w.sessions drive' place' l → IsLane es' drive' place' l =
    λ drive' place' l other is.
    lane_stays o.sessions es' drive' place' l (λ number e found a b. (e, session_at-front number o.sessions (f ∷ []) e found, refl, refl, λ some. some))
    (other_lane w.sessions o.sessions (o.at + 1) (o.place + 1) drive' place' l taken.pairs other is) in
    let own_lane : IsLane es' (o.at + 1) o.place lane' = record {
      holder = (f, found_f, o.reserves.online.number, fresh.lane_is, λ none. fresh.stored);
      unused = λ none. absurd (cc none);
    } in
    let seated_f : IsSeated v f = record {
      at = o.at;
      place = o.place;
      bay = bay';
      lane = lane';
      drive_is = o.reserves.online.number;
      lane_is = fresh.lane_is;
      bay_there = get_set-same w.bays o.at bay' o.bay there;
      lane_there = get_set-same o.bay.lanes o.place lane' o.lane stands;
      sent_is = λ x is. let one : after ≡ x = cc is in
          subst (λ y. o.session.sent ≡ length (items_with o.session.key (items_before y o.bay.queue))) one (fresh.sent_is ∙ ap length (sym none_sent));
      holds = λ r. ap Some (sym f_id);
      online = λ r. refl;
      lost_none = λ r x is. let one : after ≡ x = cc is in subst (λ (y : DriveIs D). fails o.session.key y.journal ≡ false) one none_lost;
      closed = λ c. absurd (cc (sym fresh.active ∙ c));
      some_sent = λ c. absurd (cc (sym fresh.active ∙ c));
      purged = λ c. absurd (cc (sym fresh.active ∙ c));
      none_gone = λ n x is. let one : after ≡ x = cc is in subst (λ (y : DriveIs D). has_purged o.session.key y.journal ≡ false) one none_gone;
    } in
    subst IsWorld (sym o.new_is)
    (world_with w v o.at bay' h stays (let left = o.number_left in omega (arith, left))
    (numbers_push w.limits.time 1 w.next f o.sessions fresh.time_is fresh.id_is taken.numbers) refl
    (λ number y found. elim (session_at-push number o.sessions f y found) [
      | inr is ↦ subst (IsSeated v) (sym is) seated_f
      | inl before ↦
          let p = pair_before R (session_at number w.sessions) (session_at number o.sessions) y (taken.pairs number) before in
          let x = p.0 in
          seated_with w v o.at o.bay bay' x y (h.seated number x p.1) there refl p.2.drive_is p.2.stays.lane_is
          (λ place lane here in_lane seat sits.
          let s = sits_session x y o.bay lane p.2.stays sits in
          elim (one_or_two place o.place) [
            | inl same ↦
                let one : lane ≡ o.lane = cc (sym seat ∙ ap (slice_get o.bay.lanes) same ∙ stands) in
                let own_free : lane_is_free w.sessions o.d.journal lane.holder ≡ true = ap (λ (l : LaneView). lane_is_free w.sessions o.d.journal l.holder) one ∙ free in
                let over : IsRunning y.session.status → ⊥ = λ r.
                true≢false (sym own_free ∙ not_free w.sessions o.d.journal number x lane.holder p.1 (p.2.stays.running r) (sits.holds (p.2.stays.running r))) in (
                  lane',
                  ap (slice_get lanes') same ∙ get_set-same o.bay.lanes o.place lane' o.lane stands,
                  sits_kept y o.bay bay' o.d after lane lane' on refl refl refl (λ r. absurd (over r)) s,
                )
            | inr apart ↦ (
              lane,
              get_set-other o.bay.lanes o.place place lane' apart ∙ seat,
              sits_kept y o.bay bay' o.d after lane lane on refl refl refl s.holds s,
            )
          ])
          (λ b lane elsewhere sits. sits_session x y b lane p.2.stays sits)
    ])
    (bay_with w v o.at o.bay bay' stays old (record { media_is = refl; lanes_are = length-set o.bay.lanes o.place lane'; queue_lanes = refl; capacity_is = refl })
    (λ z is. let that : after ≡ z = cc is in subst (IsInBay v o.at o.bay.media o.bay.queue) that own_inside)
    (λ place lane seat. elim (get_set-tells o.bay.lanes o.place place lane' lane seat) [
      | inl q ↦ subst (IsLane es' (o.at + 1) place) (sym q.1) (subst (λ n. IsLane es' (o.at + 1) n lane') (sym q.0) own_lane)
      | inr q ↦ further (o.at + 1) place lane (λ a b. q.0 (omega (arith, b))) (old.lanes place lane q.1)
    ]))
    (λ other b apart found place lane seat. further (other + 1) place lane (λ a c. apart (omega (arith, a))) ((h.bays other b found).lanes place lane seat)))
