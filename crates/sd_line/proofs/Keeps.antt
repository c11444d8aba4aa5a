-- What ends and parts keep, through each step.
use Rattle.std.proofs.Common.{◌≡◌, ℕ, zero, suc, ◌+◌, ◌≤◌, ◌==◌, not, Bool, false, true≢false, ne_eqb, refl, sym, ap, subst, ◌∙◌, inl, inr, arith, Option, Some, None, List, [], ◌∷◌, ◌++◌, length, append_assoc, append-nil, IsSome}
use Rattle.std.specs.List.{AllByRecursion}
use Rattle.std.specs.Option.{option_or, option_to_list}
use Rattle.std.proofs.lemmas.List.{length_push}
use Rattle.sd_base.specs.Limits.{most_number}
use Rattle.sd_base.specs.Record.{Record}
use Rattle.sd_base.specs.declared.number.SessionKey.{SessionKey}
use Rattle.sd_label.specs.Cutting.{Between, AtEnd}
use Rattle.sd_line.specs.Side.{sends_one}
use Rattle.sd_pack.specs.Body.{PackedBody}
use Rattle.sd_pack.specs.Packing.{Packs, bodies_of}
use Rattle.sd_session.specs.Session.{SessionView, IsRunning, StartsSession, parts_of, store_of, home_of, spooled_in, unused_store, new_spool}
use Rattle.sd_session.specs.Sending.{QueueView, SendsBody, stations_of}
use Rattle.sd_session.specs.declared.opening.Opening.{Opening}
use Rattle.sd_session.specs.declared.status.Status.{Status}
use Rattle.sd_session.specs.declared.status.Status.TheVariants.{Active, Ended, Closed, Cancelled, Failed, Purged}
use Rattle.sd_spool.specs.Job.{StoreState}
use Rattle.sd_world.specs.Honest.{StoreIsTrue}
use Rattle.sd_world.specs.Matches.{HasBodies}
use Rattle.sd_world.proofs.Changes.{running_bodies}
use Rattle.sd_line.specs.Ends.{ToldSession, EndIs, KeepsEnd, IsOfLane, IsOver, LastIsOver, EarlierAreOver, TellsAll, SentBy, BringsStore, LastGivesBack, RestsOn, forgot, pieces_from, last_alone, last_store, lane_store}
use Rattle.sd_line.specs.Parts.{PartIs, KeepsPart, told_of, end_of, next_piece}
use Rattle.sd_line.proofs.Sequences.{all_push, all_front, all_last, pieces_push, earlier_over, all_over, last_over, over_earlier, last_store_push, tells_weaker, sent_weaker, sent_push, sent_last}
use Rattle.sd_world.proofs.Despool.{next_store, next_room}
use Rattle.sd_line.proofs.ToldLemmas.{StepsOn, told, Rests, spool_rests, next_unspooled, not_closed, not_purged}

-- A step that sends nothing.

pub steps_keep : (time : ℕ → ℕ) (p : PartIs) (v : SessionView) (records : List Record) → StepsOn p.session p.told v records
    → KeepsPart time p → KeepsPart time (record p { session = v; told = records })
steps_keep time p v records c h = record {
  of_lane = record {
    time_is = ap (λ (k : SessionKey). k.time) c.key_is ∙ h.of_lane.time_is;
    id_least = subst (λ (k : SessionKey). 1 ≤ k.id) (sym c.key_is) h.of_lane.id_least;
    id_most = subst (λ (k : SessionKey). k.id ≤ most_number) (sym c.key_is) h.of_lane.id_most;
    lane_is = c.lane_is ∙ h.of_lane.lane_is;
  };
  before_of_lane = h.before_of_lane;
  before_over = h.before_over;
  sent_before = h.sent_before;
  sent = h.sent;
  sent_are = h.sent_are ∙ ap (λ k. h.sent_before ++ pieces_from k 1 h.sent) (sym c.key_is);
  before_tell = λ whole. sent_weaker (StoreIsTrue (store_of p.session)) (StoreIsTrue (store_of v)) p.before h.sent_before c.store_back (h.before_tell whole);
  tells = c.tells p.spools h.sent h.unspooled h.tells;
  unspooled = λ off. c.unspooled (h.unspooled off);
  stored = c.store_there h.stored;
}

-- A step that sends a body.

-- what is told of a session that sent a body
sent_tells : (spools : Bool) (s v : SessionView) (records : List Record) (queue queue' : QueueView) (sends : SendsBody s queue v queue') (sent : List PackedBody)
    → (spools ≡ false → s.spool ≡ None) → TellsAll (Rests spools s) (told spools s records) sent
    → TellsAll (Rests spools s) (told spools v records) (sent ++ sends.body ∷ [])
sent_tells spools s v records queue queue' sends sent none h =
    let status : v.status ≡ s.status = ap (λ (x : SessionView). x.status) sends.is in
    let runs : IsRunning v.status = subst IsRunning (sym status) sends.running in
    record {
      count_is = h.count_is ∙ sym (ap (λ (x : SessionView). x.count) sends.is);
      bytes_are = h.bytes_are ∙ sym (ap (λ (x : SessionView). x.bytes) sends.is);
      last_is = h.last_is ∙ sym (ap (λ (x : SessionView). x.last) sends.is);
      sent_is = length_push sent sends.body ∙ ap (λ n. n + 1) h.sent_is ∙ sym (ap (λ (x : SessionView). x.sent) sends.is);
      bodies_are = λ honest. subst (λ x. HasBodies v.packer.room (sent ++ sends.body ∷ []) ((sent ++ sends.body ∷ []) ++ parts_of v) x records) (sym status)
          (running_bodies s.packer.room v.packer.room sent (sent ++ sends.body ∷ []) (sent ++ parts_of s) ((sent ++ sends.body ∷ []) ++ parts_of v) s.status records sends.running
          (ap (λ (x : SessionView). x.packer.room) sends.is ∙ next_room sends.body (stations_of s) sends.between sends.takes)
          (append_assoc sent (sends.body ∷ []) (parts_of v) ∙ ap (λ l. sent ++ l) (sym (sends.bodies (spool_rests spools s none honest))))
          (h.bodies_are honest));
      closed = λ c. absurd (not_closed v.status runs c);
      not_purged = not_purged v.status runs;
    }

pub sends_keep : (time : ℕ → ℕ) (p : PartIs) (v : SessionView) (queue queue' : QueueView) (sends : SendsBody p.session queue v queue')
    → KeepsPart time p → KeepsPart time (record p { seat = sends_one (next_piece p.session sends.body) p.seat; session = v })
sends_keep time p v queue queue' sends h =
    let s = p.session in
    let key : v.key ≡ s.key = ap (λ (x : SessionView). x.key) sends.is in
    let store : store_of v ≡ store_of s = ap store_of sends.is ∙ next_store s.store sends.body (stations_of s) sends.between sends.takes in
    let back : StoreIsTrue (store_of v) → StoreIsTrue (store_of s) = subst StoreIsTrue store in
    let seq : 1 + length h.sent ≡ s.sent + 1 = omega (arith, h.tells.sent_is) in
    record {
      of_lane = record {
        time_is = ap (λ (k : SessionKey). k.time) key ∙ h.of_lane.time_is;
        id_least = subst (λ (k : SessionKey). 1 ≤ k.id) (sym key) h.of_lane.id_least;
        id_most = subst (λ (k : SessionKey). k.id ≤ most_number) (sym key) h.of_lane.id_most;
        lane_is = ap (λ (x : SessionView). x.lane) sends.is ∙ h.of_lane.lane_is;
      };
      before_of_lane = h.before_of_lane;
      before_over = h.before_over;
      sent_before = h.sent_before;
      sent = h.sent ++ sends.body ∷ [];
      sent_are = ap (λ l. l ++ next_piece s sends.body ∷ []) h.sent_are
          ∙ append_assoc h.sent_before (pieces_from s.key 1 h.sent) (next_piece s sends.body ∷ [])
          ∙ ap (λ n. h.sent_before ++ (pieces_from s.key 1 h.sent ++ record { key = s.key; seq = n; body = sends.body } ∷ [])) (sym seq)
          ∙ ap (λ l. h.sent_before ++ l) (sym (pieces_push s.key 1 h.sent sends.body))
          ∙ ap (λ k. h.sent_before ++ pieces_from k 1 (h.sent ++ sends.body ∷ [])) (sym key);
      before_tell = λ whole. sent_weaker (StoreIsTrue (store_of s)) (StoreIsTrue (store_of v)) p.before h.sent_before back (h.before_tell whole);
      tells = tells_weaker (Rests p.spools s) (Rests p.spools v) (told p.spools v p.told) (h.sent ++ sends.body ∷ []) (λ rests spools. back (rests spools))
          (sent_tells p.spools s v p.told queue queue' sends h.sent h.unspooled h.tells);
      unspooled = λ off. ap (λ (x : SessionView). x.spool) sends.is ∙ next_unspooled sends.body (stations_of s) sends.between sends.takes (h.unspooled off);
      stored = subst IsSome (sym store) h.stored;
    }

-- Leaving.

pub leaves : (time : ℕ → ℕ) (p : PartIs) → KeepsPart time p → KeepsEnd time (end_of p)
leaves time p h =
    let store : lane_store (end_of p) ≡ store_of p.session = last_store_push p.before (told_of p) in
    record {
      of_lane = all_push (IsOfLane (time p.seat.no) p.seat.seat.lane) p.before (told_of p) h.before_of_lane h.of_lane;
      sent_are = λ whole. let H = StoreIsTrue (store_of p.session) in
          sent_weaker H (StoreIsTrue (lane_store (end_of p))) (p.before ++ told_of p ∷ []) p.seat.seat.sent (subst StoreIsTrue store)
          (subst (SentBy H (p.before ++ told_of p ∷ [])) (sym h.sent_are) (sent_push H p.before (told_of p) h.sent_before h.sent (h.before_tell whole) h.tells));
      earlier = earlier_over p.before (told_of p) h.before_over;
      stored = subst IsSome (sym store) h.stored;
    }

-- The lane's store.

-- without what is between
middle_out : {A : Type 0} (a b c : List A) → a ++ (b ++ c) ≡ [] → a ++ c ≡ []
middle_out [] [] c h = h
middle_out [] (x ∷ b) c h = absurd (cc h)
middle_out (x ∷ a) b c h = absurd (cc h)

-- the bodies of a session that is over, whatever became of those that it still has
over_bodies : (status : Status) (room : ℕ) (sent parts parts' : List PackedBody) (records : List Record) → (IsRunning status → ⊥)
    → (status ≡ Closed → parts' ≡ parts) → HasBodies room sent (sent ++ parts) status records → HasBodies room sent (sent ++ parts') status records
over_bodies Active room sent parts parts' records over same h = absurd (over (inl refl))
over_bodies Ended room sent parts parts' records over same h = absurd (over (inr refl))
over_bodies Closed room sent parts parts' records over same h = subst (λ l. Packs room (sent ++ l) records AtEnd) (sym (same refl)) h
over_bodies Cancelled room sent parts parts' records over same h = h
over_bodies Failed room sent parts parts' records over same h = tt
over_bodies Purged room sent parts parts' records over same h = tt

-- a session that is over tells the same if it has given its store back
without_store : (honest : Type 0) (spools : Bool) (s : SessionView) (records : List Record) (sent : List PackedBody) → (IsRunning s.status → ⊥)
    → TellsAll honest (told spools s records) sent → TellsAll honest (told spools (record s { store = None; spool = None }) records) sent
without_store honest spools s records sent over h =
    let v : SessionView = record s { store = None; spool = None } in
    let none : s.status ≡ Closed → parts_of v ≡ [] = λ c. middle_out (option_to_list s.ready) (spooled_in s.spool) (bodies_of s.packer) (h.closed c).0 in
    record {
      count_is = h.count_is;
      bytes_are = h.bytes_are;
      last_is = h.last_is;
      sent_is = h.sent_is;
      bodies_are = λ x. over_bodies s.status s.packer.room sent (parts_of s) (parts_of v) records over (λ c. none c ∙ sym (h.closed c).0) (h.bodies_are x);
      closed = λ c. (none c, (h.closed c).1);
      not_purged = h.not_purged;
    }

-- the last session gave the store back
given : (time : ℕ → ℕ) (e : EndIs) (store : StoreState) (sessions : List ToldSession) → KeepsEnd time e → LastIsOver e.sessions → e.store ≡ None
    → LastGivesBack e.sessions store sessions
    → KeepsEnd time (record e { store = Some store; sessions = sessions }) × LastIsOver sessions
given time e store sessions h over none g =
    let P = IsOfLane (time e.seat.no) e.seat.seat.lane in
    let all : AllByRecursion IsOver (g.earlier ++ g.last ∷ []) = subst (AllByRecursion IsOver) g.old_is (all_over e.sessions h.earlier over) in
    let of_lane : AllByRecursion P (g.earlier ++ g.last ∷ []) = subst (AllByRecursion P) g.old_is h.of_lane in
    let H = StoreIsTrue (lane_store e) in
    let home : lane_store e ≡ Some store = ap (λ s. option_or s (last_store e.sessions)) none ∙ ap last_store g.old_is ∙ last_store_push g.earlier g.last ∙ g.gives_back.store_is in
    let before = g.last.session in
    let made : SessionView → List ToldSession = λ s. g.earlier ++ told g.last.spools s g.last.told ∷ [] in
    let v : SessionView = record before { store = None; spool = None } in
    let mine = all_last P g.earlier g.last of_lane in
    let over_now : AllByRecursion IsOver (made v) = all_push IsOver g.earlier (told g.last.spools v g.last.told) (all_front IsOver g.earlier g.last all) g.gives_back.over in
    let kept : KeepsEnd time (record e { store = Some store; sessions = made v }) = record {
      of_lane = all_push P g.earlier (told g.last.spools v g.last.told) (all_front P g.earlier g.last of_lane)
          (record { time_is = mine.time_is; id_least = mine.id_least; id_most = mine.id_most; lane_is = mine.lane_is });
      sent_are = λ whole. let l = sent_last H g.earlier g.last e.seat.seat.sent (subst (λ ss. SentBy H ss e.seat.seat.sent) g.old_is (h.sent_are whole)) in
          sent_weaker H (StoreIsTrue (Some store)) (made v) e.seat.seat.sent (subst StoreIsTrue (sym home))
          (subst (SentBy H (made v)) (sym l.sent_is)
          (sent_push H g.earlier (told g.last.spools v g.last.told) l.before l.bodies l.earlier
          (without_store (RestsOn g.last.spools H) g.last.spools before g.last.told l.bodies g.gives_back.over l.tells)));
      earlier = over_earlier (made v) over_now;
      stored = refl;
    } in
    let is : sessions ≡ made v = g.new_is ∙ ap made g.gives_back.is in
    subst (λ ss. KeepsEnd time (record e { store = Some store; sessions = ss }) × LastIsOver ss) (sym is) (kept, last_over (made v) over_now)

pub brings : (time : ℕ → ℕ) (e e' : EndIs) → KeepsEnd time e → LastIsOver e.sessions → BringsStore e e' → KeepsEnd time e' × LastIsOver e'.sessions
brings time e e' h over b =
    let made : Option StoreState → List ToldSession → EndIs = λ store sessions. record e { store = store; sessions = sessions } in
    elim b.takes [
      | inl t ↦ subst (λ (x : EndIs). KeepsEnd time x × LastIsOver x.sessions) (sym (b.is ∙ ap (made (Some b.store)) t.1 ∙ ap (λ s. made s e.sessions) (sym t.0))) (h, over)
      | inr t ↦ subst (λ (x : EndIs). KeepsEnd time x × LastIsOver x.sessions) (sym b.is) (given time e b.store b.sessions h over t.0 t.1)
    ]

-- Forgetting.

-- the last one is among them
last_all : (P : ToldSession → Type 0) (ss : List ToldSession) → AllByRecursion P ss → AllByRecursion P (last_alone ss)
last_all P [] all = all
last_all P (s ∷ []) all = all
last_all P (s ∷ t ∷ ss) all = last_all P (t ∷ ss) all.1

none_earlier : (ss : List ToldSession) → EarlierAreOver (last_alone ss)
none_earlier [] = tt
none_earlier (s ∷ []) = tt
none_earlier (s ∷ t ∷ ss) = none_earlier (t ∷ ss)

-- it has the store that it had
same_store : (ss : List ToldSession) → last_store (last_alone ss) ≡ last_store ss
same_store [] = refl
same_store (s ∷ []) = refl
same_store (s ∷ t ∷ ss) = same_store (t ∷ ss)

pub forgets : (time : ℕ → ℕ) (e : EndIs) → KeepsEnd time e → KeepsEnd time (forgot e)
forgets time e h = record {
  of_lane = last_all (IsOfLane (time e.seat.no) e.seat.seat.lane) e.sessions h.of_lane;
  sent_are = λ whole. absurd (true≢false (sym whole));
  earlier = none_earlier e.sessions;
  stored = subst (λ o. IsSome (option_or e.store o)) (sym (same_store e.sessions)) h.stored;
}

-- Beginning.

-- the store of a new session is the one that it was given
store_begun : (limit : ℕ) (store : StoreState) → home_of (unused_store limit store) (new_spool limit store) ≡ Some store
store_begun zero store = refl
store_begun (suc n) store = refl

-- without a limit it has no spool
none_begun : (limit : ℕ) (store : StoreState) → not (limit == 0) ≡ false → new_spool limit store ≡ None
none_begun zero store off = refl
none_begun (suc n) store off = absurd (true≢false (sym (ap not (ne_eqb (suc n) 0 (λ e. absurd (omega (arith, e))))) ∙ off))

pub starts_stored : (opening : Opening) (room limit : ℕ) (store : StoreState) (s : SessionView) → StartsSession opening room limit store s → store_of s ≡ Some store
starts_stored opening room limit store s t = ap store_of t.is ∙ store_begun limit store

pub begins : (time : ℕ → ℕ) (e : EndIs) (store : StoreState) (opening : Opening) (room limit : ℕ) (s : SessionView) → KeepsEnd time e → LastIsOver e.sessions
    → e.store ≡ Some store → opening.key.time ≡ time e.seat.no → 1 ≤ opening.key.id → opening.key.id ≤ most_number → opening.lane ≡ e.seat.seat.lane
    → StartsSession opening room limit store s → KeepsPart time (record { seat = e.seat; before = e.sessions; session = s; told = []; spools = not (limit == 0); whole = e.whole })
begins time e store opening room limit s h over stored run least most lane t =
    let key : s.key ≡ opening.key = ap (λ (x : SessionView). x.key) t.is in
    let status : s.status ≡ Active = ap (λ (x : SessionView). x.status) t.is in
    let home : store_of s ≡ lane_store e = starts_stored opening room limit store s t ∙ sym (ap (λ x. option_or x (last_store e.sessions)) stored) in
    record {
      of_lane = record {
        time_is = ap (λ (k : SessionKey). k.time) key ∙ run;
        id_least = subst (λ (k : SessionKey). 1 ≤ k.id) (sym key) least;
        id_most = subst (λ (k : SessionKey). k.id ≤ most_number) (sym key) most;
        lane_is = ap (λ (x : SessionView). x.lane) t.is ∙ lane;
      };
      before_of_lane = h.of_lane;
      before_over = all_over e.sessions h.earlier over;
      sent_before = e.seat.seat.sent;
      sent = [];
      sent_are = sym (append-nil e.seat.seat.sent);
      before_tell = λ whole. sent_weaker (StoreIsTrue (lane_store e)) (StoreIsTrue (store_of s)) e.sessions e.seat.seat.sent (subst StoreIsTrue home) (h.sent_are whole);
      tells = record {
        count_is = sym (ap (λ (x : SessionView). x.count) t.is);
        bytes_are = sym (ap (λ (x : SessionView). x.bytes) t.is);
        last_is = sym (ap (λ (x : SessionView). x.last) t.is);
        sent_is = sym (ap (λ (x : SessionView). x.sent) t.is);
        bodies_are = λ honest. subst (λ x. HasBodies s.packer.room [] (parts_of s) x []) (sym status) (subst (λ n. Packs n (parts_of s) [] Between) (sym t.room_is) t.packs);
        closed = λ c. absurd (not_closed s.status (inl status) c);
        not_purged = not_purged s.status (inl status);
      };
      unspooled = λ off. ap (λ (x : SessionView). x.spool) t.is ∙ none_begun limit store off;
      stored = subst IsSome (sym (home ∙ ap (λ x. option_or x (last_store e.sessions)) stored)) refl;
    }
