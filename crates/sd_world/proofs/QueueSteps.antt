-- A world keeps its rules when a piece is sent or taken, when a session is closed, and when a drive is retired.
use Rattle.std.proofs.Common.{◌≡◌, ℕ, ◌+◌, ◌≤◌, ◌<◌, refl, sym, ap, subst, ◌∙◌, arith, inl, inr, false, Some, None, IsSome, List, [], ◌∷◌, ◌++◌, length, slice_get, slice_set}
use Rattle.sd_base.specs.Key.{is_key}
use Rattle.sd_base.specs.declared.number.SessionKey.{SessionKey}
use Rattle.sd_drive.specs.View.{DriveIs, item_of_piece}
use Rattle.sd_journal.specs.Journal.{placed_of, progress_of, fails, has_purged}
use Rattle.sd_journal.proofs.EntryLemmas.{within}
use Rattle.sd_lane.specs.Queue.{LanesView, queued}
use Rattle.sd_lane.specs.declared.piece.Piece.{Piece}
use Rattle.sd_session.specs.Session.{SessionView, IsRunning, ClosesSession, home_of, store_of}
use Rattle.sd_session.specs.Sending.{TakesNext, Stations, stations_of}
use Rattle.sd_session.specs.declared.answer.Despooled.TheVariants as despooled
use Rattle.sd_session.specs.declared.status.Status.TheVariants.{Closed}
use Rattle.sd_machine.proofs.Lookups.{not_closed}
use Rattle.sd_world.specs.World.{WorldView, WorldSession, BayView, LaneView, IsOnline, session_at, with_session, with_bay, items_before, items_with}
use Rattle.sd_world.specs.Rules.{IsOfOpened, IsSeated, IsWorld}
use Rattle.sd_world.specs.Sessions.{SendsStep, ClosesAt}
use Rattle.sd_world.specs.Drives.{RetiresDrive}
use Rattle.sd_world.specs.Honest.{StoreIsTrue}
use Rattle.sd_spool.specs.Job.{StoreState}
use Rattle.std.specs.Prelude.{IsTrue}
use Rattle.std.specs.List.{AllByRecursion}
use Rattle.sd_world.proofs.Framed.{TakesIn}
use Rattle.sd_world.proofs.Lookups.{session_id, set_same}
use Rattle.sd_world.proofs.Items.{is_key_same, is_key_other, items_with-own, items_with-other, items_before-take, items_before-send, of_opened-push, placed_most}
use Rattle.sd_world.proofs.LaneSteps.{Lodges, lodge_of, lanes_lodge, running_busy}
use Rattle.sd_world.proofs.Pairs.{PairAt, WithOne, pair_before, with_pairs, is_numbered, numbers_with}
use Rattle.sd_world.proofs.Seats.{Sits, sits_of, sits_kept, seated_on, seated_with, IsInBay, inside_same, WorldStays, bay_with, bay_same}
use Rattle.sd_world.proofs.Views.{closed_not_running, not_purged, StoreStays, StaysTrue}
use Rattle.sd_world.proofs.Worlds.{world_with}

-- Taking.

pub takes_piece : {D : Type 0} (w w' : WorldView D) (drive ticket seq : ℕ) → IsWorld w → TakesIn w drive ticket seq w' → IsWorld w'
takes_piece {D} w w' drive ticket seq h t =
    let after : DriveIs D = record t.d { hand = Some t.piece } in
    let queue : LanesView = record t.bay.queue { held = t.rest } in
    let bay' : BayView D = record t.bay { drive = Some after; queue = queue } in
    let v : WorldView D = with_bay t.at bay' w in
    let stays : WorldStays w v = record { limits_are = refl; queue_is = refl; next_up = omega arith; claims = λ name number claimed. claimed } in
    let there = t.online.there in
    let on = t.online.online in
    let same : items_before after queue ≡ items_before t.d t.bay.queue = items_before-take t.d t.bay.queue t.lane t.piece t.rest t.hand_empty t.held_is in
    let inside = inside_same w v t.at t.bay t.d stays (h.bays t.at t.bay there) on in
    let own : IsInBay v t.at t.bay.media queue after = record {
      media_is = inside.media_is;
      limits_are = inside.limits_are;
      claimed = inside.claimed;
      of_opened = subst (AllByRecursion (IsOfOpened w.limits.time w.next)) (sym same) inside.of_opened;
    } in
    subst IsWorld (sym t.new_is)
    (world_with w v t.at bay' h stays h.next_most h.numbers refl
    (λ number e found. seated_with w v t.at t.bay bay' e e (h.seated number e found) there refl refl refl
    (λ place lane here in_lane stands sits. (
      lane,
      stands,
      sits_kept e t.bay bay' t.d after lane lane on refl refl same sits.holds sits,
    ))
    (λ b lane elsewhere sits. sits))
    (bay_with w v t.at t.bay bay' stays (h.bays t.at t.bay there) (record { media_is = refl; lanes_are = refl; queue_lanes = refl; capacity_is = refl })
    (λ x is. let one : after ≡ x = cc is in subst (IsInBay v t.at t.bay.media queue) one own)
    (h.bays t.at t.bay there).lanes)
    (λ other b apart found. (h.bays other b found).lanes))

-- Sending.

-- the lane's store stays when a body leaves
pub next_store : (body : _) (s : SessionView) (between : Stations) → TakesNext body (stations_of s) between
    → IsSome (home_of s.store s.spool) → IsSome (home_of s.store between.spool)
next_store body s between (inl h) some = subst (λ (b : Stations). IsSome (home_of s.store b.spool)) (sym h.1) some
next_store body s between (inr (inl h)) some = subst (λ (b : Stations). IsSome (home_of s.store b.spool)) (sym h.1.is) refl
next_store body s between (inr (inr h)) some = subst (λ (b : Stations). IsSome (home_of s.store b.spool)) (sym h.2.is) some

-- and is as true as it was
pub next_honest : (body : _) (s : SessionView) (between : Stations) → TakesNext body (stations_of s) between
    → StoreIsTrue (home_of s.store s.spool) → StoreIsTrue (home_of s.store between.spool)
next_honest body s between (inl h) honest = subst (λ (b : Stations). StoreIsTrue (home_of s.store b.spool)) (sym h.1) honest
next_honest body s between (inr (inl h)) honest =
    subst (λ (b : Stations). StoreIsTrue (home_of s.store b.spool)) (sym h.1.is)
    (subst (λ (state : StoreState). IsTrue state.honest) (sym h.1.store_is) (subst StoreIsTrue (ap (home_of s.store) h.1.spool_is) honest))
next_honest body s between (inr (inr h)) honest = subst (λ (b : Stations). StoreIsTrue (home_of s.store b.spool)) (sym h.2.is) honest

-- what a sent body leaves of its session
pub record SendsOne (s t : SessionView) (queue queue' : LanesView) (piece : Piece) (lane : ℕ) : Type 0 where
  pub key_is : t.key ≡ s.key
  pub lane_is : t.lane ≡ s.lane
  pub status_is : t.status ≡ s.status
  pub running : IsRunning s.status
  pub sent_is : t.sent ≡ s.sent + 1
  pub store : StoreStays s t
  pub honest : StaysTrue s t
  pub own : piece.key ≡ s.key
  pub held : queue'.held ≡ queue.held ++ queued lane piece ∷ []

pub sends_one : (s t : SessionView) (queue queue' : LanesView) → SendsStep despooled.Sent s queue t queue' → (piece : Piece) × (lane : ℕ) × SendsOne s t queue queue' piece lane
sends_one s t queue queue' step =
    let sends = step.step in (
      record { key = s.key; seq = s.sent + 1; body = sends.body },
      s.lane,
      record {
        key_is = ap (λ (x : SessionView). x.key) sends.is;
        lane_is = ap (λ (x : SessionView). x.lane) sends.is;
        status_is = ap (λ (x : SessionView). x.status) sends.is;
        running = sends.running;
        sent_is = ap (λ (x : SessionView). x.sent) sends.is;
        store = λ some. subst (λ (x : SessionView). IsSome (store_of x)) (sym sends.is) (next_store sends.body s sends.between sends.takes some);
        honest = λ true_store. subst (λ (x : SessionView). StoreIsTrue (store_of x)) (sym sends.is) (next_honest sends.body s sends.between sends.takes true_store);
        own = refl;
        held = sends.puts_in.held refl;
      },
    )

-- the session that sent sits on
sits_sent : {D : Type 0} (e : WorldSession) (t : SessionView) (bay : BayView D) (queue' : LanesView) (piece : Piece) (lane : ℕ) (ln : LaneView)
    → SendsOne e.session t bay.queue queue' piece lane → Sits e bay ln → Sits (record e { session = t }) (record bay { queue = queue' }) ln
sits_sent e t bay queue' piece lane ln sends sits = record {
  sent_is = λ x is.
      let before = items_before x bay.queue in
      sends.sent_is ∙ ap (λ n. n + 1) (sits.sent_is x is ∙ ap (λ k. length (items_with k before)) (sym sends.key_is))
      ∙ sym (items_with-own t.key before (item_of_piece piece) (is_key_same t.key (item_of_piece piece).key (sends.key_is ∙ sym sends.own)))
      ∙ ap (λ is. length (items_with t.key is)) (sym (items_before-send x bay.queue queue' (queued lane piece) sends.held));
  holds = λ r. sits.holds sends.running ∙ ap (λ (k : SessionKey). Some k.id) (sym sends.key_is);
  online = λ r. sits.online sends.running;
  lost_none = λ r x is. ap (λ k. fails k x.journal) sends.key_is ∙ sits.lost_none sends.running x is;
  closed = λ c. absurd (not_closed e.session.status sends.running (sym sends.status_is ∙ c));
  some_sent = λ c. absurd (not_closed e.session.status sends.running (sym sends.status_is ∙ c));
  purged = λ c. absurd (not_purged e.session.status sends.running (sym sends.status_is ∙ c));
  none_gone = λ n x is. ap (λ k. has_purged k x.journal) sends.key_is ∙ sits.none_gone (not_purged e.session.status sends.running) x is;
}

-- another sits as it did
sits_unsent : {D : Type 0} (x : WorldSession) (bay : BayView D) (queue' : LanesView) (piece : Piece) (lane : ℕ) (ln : LaneView)
    → is_key x.session.key piece.key ≡ false → queue'.held ≡ bay.queue.held ++ queued lane piece ∷ [] → Sits x bay ln → Sits x (record bay { queue = queue' }) ln
sits_unsent x bay queue' piece lane ln other held sits = record {
  sent_is = λ d is.
      let key = x.session.key in
      let before = items_before d bay.queue in
      sits.sent_is d is ∙ ap length (sym (items_with-other key before (item_of_piece piece) other))
      ∙ ap (λ is. length (items_with key is)) (sym (items_before-send d bay.queue queue' (queued lane piece) held));
  holds = sits.holds;
  online = sits.online;
  lost_none = sits.lost_none;
  closed = sits.closed;
  some_sent = sits.some_sent;
  purged = sits.purged;
  none_gone = sits.none_gone;
}

pub sends_world : {D : Type 0} (w : WorldView D) (ticket at : ℕ) (e : WorldSession) (bay : BayView D) (d : DriveIs D) (t : SessionView) (queue' : LanesView)
    (piece : Piece) (lane : ℕ) → IsWorld w → session_at ticket w.sessions ≡ Some e → IsOnline w e.drive at bay d
    → SendsOne e.session t bay.queue queue' piece lane → queue'.lanes ≡ bay.queue.lanes → queue'.capacity ≡ bay.queue.capacity
    → IsWorld (record w { sessions = with_session (record e { session = t }) w.sessions; bays = slice_set w.bays at (record bay { queue = queue' }) })
sends_world {D} w ticket at e bay d t queue' piece lane h found online sends lanes capacity =
    let f : WorldSession = record e { session = t } in
    let es' = with_session f w.sessions in
    let bay' : BayView D = record bay { queue = queue' } in
    let v : WorldView D = record w { sessions = es'; bays = slice_set w.bays at bay' } in
    let stays : WorldStays w v = record { limits_are = refl; queue_is = refl; next_up = omega arith; claims = λ name number claimed. claimed } in
    let id : e.session.key.id ≡ ticket = session_id ticket w.sessions e found in
    let own_id : f.session.key.id ≡ ticket = ap (λ (k : SessionKey). k.id) sends.key_is ∙ id in
    let numbered = is_numbered w.limits.time 1 w.next ticket w.sessions e h.numbers found in
    let pairs : (other : ℕ) → PairAt (WithOne ticket e f) w.sessions es' other = with_pairs w.sessions ticket e f found own_id in
    let lodge : (x y : WorldSession) → WithOne ticket e f x y → Lodges x y = lodge_of ticket e f (refl, sends.lane_is, sends.store) in
    let more : (x : DriveIs D) → items_before x queue' ≡ items_before x bay.queue ++ item_of_piece piece ∷ [] =
    λ x. items_before-send x bay.queue queue' (queued lane piece) sends.held in
    let item_key : (item_of_piece piece).key ≡ e.session.key = sends.own in
    let opened : IsOfOpened w.limits.time w.next (item_of_piece piece) = record {
      time_is = ap (λ (k : SessionKey). k.time) sends.own ∙ numbered.time_is;
      id_least = subst (λ (k : SessionKey). 1 ≤ k.id) (sym sends.own) numbered.least_is;
      id_most = subst (λ (k : SessionKey). k.id < w.next) (sym sends.own) numbered.below;
    } in
    world_with w v at bay' h stays h.next_most
    (numbers_with w.limits.time 1 w.next f w.sessions (ap (λ (k : SessionKey). k.time) sends.key_is ∙ numbered.time_is) h.numbers) refl
    (λ other y there.
    let p = pair_before (WithOne ticket e f) (session_at other w.sessions) (session_at other es') y (pairs other) there in
    let x = p.0 in
    let l = lodge x y p.2 in
    seated_with w v at bay bay' x y (h.seated other x p.1) online.there refl l.0 l.1
    (λ place ln here in_lane stands sits. (
      ln,
      stands,
      elim p.2 [
        | inl q ↦ subst (λ z. Sits z bay' ln) (sym q.1) (sits_sent e t bay queue' piece lane ln sends (subst (λ z. Sits z bay ln) q.0 sits))
        | inr q ↦ subst (λ z. Sits z bay' ln) (sym q.1) (sits_unsent x bay queue' piece lane ln
            (is_key_other x.session.key piece.key (λ r. q.0 (r ∙ ap (λ (k : SessionKey). k.id) sends.own ∙ id))) sends.held sits)
      ],
    ))
    (λ b ln elsewhere sits. elim p.2 [
      | inl q ↦ absurd (elsewhere (ap (λ (z : WorldSession). z.drive) q.0 ∙ online.number))
      | inr q ↦ subst (λ z. Sits z b ln) (sym q.1) sits
    ]))
    (bay_with w v at bay bay' stays (h.bays at bay online.there) (record { media_is = refl; lanes_are = refl; queue_lanes = lanes; capacity_is = capacity })
    (λ x is. let inside = inside_same w v at bay x stays (h.bays at bay online.there) is in
    record {
      media_is = inside.media_is;
      limits_are = inside.limits_are;
      claimed = inside.claimed;
      of_opened = subst (AllByRecursion (IsOfOpened w.limits.time w.next)) (sym (more x)) (of_opened-push w.limits.time w.next (items_before x bay.queue) (item_of_piece piece) inside.of_opened opened);
    })
    (lanes_lodge (WithOne ticket e f) w.sessions es' (at + 1) bay.lanes pairs lodge (h.bays at bay online.there).lanes))
    (λ other b apart there. lanes_lodge (WithOne ticket e f) w.sessions es' (other + 1) b.lanes pairs lodge (h.bays other b there).lanes)

-- a step that sends nothing changes the session alone
pub unsent : {D : Type 0} (w : WorldView D) (at : ℕ) (bay : BayView D) (queue' : LanesView) (es' : List WorldSession) → slice_get w.bays at ≡ Some bay → queue' ≡ bay.queue
    → record w { sessions = es'; bays = slice_set w.bays at (record bay { queue = queue' }) } ≡ record w { sessions = es' }
unsent {D} w at bay queue' es' there same =
    ap (λ (q : LanesView). record w { sessions = es'; bays = slice_set w.bays at (record bay { queue = q }) }) same
    ∙ ap (λ (bs : List (BayView D)). record w { sessions = es'; bays = bs }) (set_same w.bays at bay there)

-- Closing.

-- if nothing is outstanding, each piece that was sent is placed
all_placed : {D : Type 0} (s t : SessionView) (d : DriveIs D) (queue : LanesView) → ClosesSession s (progress_of s.key d.journal) t
    → s.sent ≡ length (items_with s.key (items_before d queue)) → placed_of s.key d.journal ≡ s.sent
all_placed s t d queue closes sent =
    let most = placed_most s.key d queue in
    let least = within s.key d.journal in
    omega (arith, most, least, closes.may.all_synced, sent)

pub closes_world : {D : Type 0} (w w' : WorldView D) (ticket : ℕ) (key : SessionKey) (spans : _) → IsWorld w → ClosesAt w ticket key spans w' → IsWorld w'
closes_world {D} w w' ticket key spans h c =
    let e = c.e in
    let f : WorldSession = record e { session = c.session } in
    let es' = with_session f w.sessions in
    let v : WorldView D = record w { sessions = es' } in
    let stays : WorldStays w v = record { limits_are = refl; queue_is = refl; next_up = omega arith; claims = λ name number claimed. claimed } in
    let is : c.session ≡ record e.session { status = Closed } = c.closes.is in
    let f_key : f.session.key ≡ e.session.key = ap (λ (s : SessionView). s.key) is in
    let id : f.session.key.id ≡ ticket = ap (λ (k : SessionKey). k.id) f_key ∙ session_id ticket w.sessions e c.has in
    let numbered = is_numbered w.limits.time 1 w.next ticket w.sessions e h.numbers c.has in
    let pairs : (other : ℕ) → PairAt (WithOne ticket e f) w.sessions es' other = with_pairs w.sessions ticket e f c.has id in
    let lodge : (x y : WorldSession) → WithOne ticket e f x y → Lodges x y =
    lodge_of ticket e f (refl, ap (λ (s : SessionView). s.lane) is, λ some. subst (λ (s : SessionView). IsSome (store_of s)) (sym is) some) in
    let seat = h.seated ticket e c.has in
    let here : seat.bay ≡ c.bay =
    (let place : seat.at ≡ c.at = omega (arith, seat.drive_is, c.online.number) in cc (sym seat.bay_there ∙ ap (slice_get w.bays) place ∙ c.online.there)) in
    let on : seat.bay.drive ≡ Some c.d = ap (λ (b : BayView D). b.drive) here ∙ c.online.online in
    let placed = all_placed e.session c.session c.d seat.bay.queue c.closes (seat.sent_is c.d on) in
    let sits : Sits f seat.bay seat.lane = subst (λ (s : SessionView). Sits (record e { session = s }) seat.bay seat.lane) (sym is) (record {
      sent_is = seat.sent_is;
      holds = λ r. absurd (closed_not_running r);
      online = λ r. absurd (closed_not_running r);
      lost_none = λ r. absurd (closed_not_running r);
      closed = λ q x there. let one : c.d ≡ x = cc (sym on ∙ there) in subst (λ (y : DriveIs D). placed_of e.session.key y.journal ≡ e.session.sent) one placed;
      some_sent = λ q. c.closes.may.some_sent;
      purged = λ q. absurd (cc q);
      none_gone = λ n. seat.none_gone (not_purged e.session.status (inr c.closes.may.ended));
    }) in
    let own : IsSeated v f = seated_on w v e f seat refl refl (ap (λ (s : SessionView). s.lane) is) sits in
    subst IsWorld (sym c.new_is) (record {
      limits = h.limits;
      next_most = h.next_most;
      numbers = numbers_with w.limits.time 1 w.next f w.sessions (ap (λ (k : SessionKey). k.time) f_key ∙ numbered.time_is) h.numbers;
      bays_most = h.bays_most;
      seated = λ other y there.
          let p = pair_before (WithOne ticket e f) (session_at other w.sessions) (session_at other es') y (pairs other) there in
          elim p.2 [
            | inl q ↦ subst (IsSeated v) (sym q.1) own
            | inr q ↦ subst (IsSeated v) (sym q.1) (let s = h.seated other p.0 p.1 in seated_on w v p.0 p.0 s refl refl refl (sits_of w p.0 s))
          ];
      bays = λ at b there. bay_same w v at b stays (h.bays at b there) (lanes_lodge (WithOne ticket e f) w.sessions es' (at + 1) b.lanes pairs lodge (h.bays at b there).lanes);
    })

-- Retiring.

pub retires_world : {D : Type 0} (w w' : WorldView D) (drive : ℕ) → IsWorld w → RetiresDrive w drive w' → IsWorld w'
retires_world {D} w w' drive h t =
    let bay' : BayView D = record t.bay { drive = None } in
    let v : WorldView D = with_bay t.at bay' w in
    let stays : WorldStays w v = record { limits_are = refl; queue_is = refl; next_up = omega arith; claims = λ name number claimed. claimed } in
    let there = t.online.there in
    subst IsWorld (sym t.new_is)
    (world_with w v t.at bay' h stays h.next_most h.numbers refl
    (λ number e found. seated_with w v t.at t.bay bay' e e (h.seated number e found) there refl refl refl
    (λ place lane here in_lane stands sits. (
      lane,
      stands,
      record {
        sent_is = λ x is. absurd (cc is);
        holds = sits.holds;
        online = λ r. absurd (t.unused (inl (running_busy w.sessions t.bay t.d number e place lane found r stands (sits.holds r))));
        lost_none = λ r x is. absurd (cc is);
        closed = λ c x is. absurd (cc is);
        some_sent = sits.some_sent;
        purged = λ c x is. absurd (cc is);
        none_gone = λ n x is. absurd (cc is);
      },
    ))
    (λ b lane elsewhere sits. sits))
    (bay_with w v t.at t.bay bay' stays (h.bays t.at t.bay there) (record { media_is = refl; lanes_are = refl; queue_lanes = refl; capacity_is = refl })
    (λ x is. absurd (cc is)) (h.bays t.at t.bay there).lanes)
    (λ other b apart found. (h.bays other b found).lanes))
