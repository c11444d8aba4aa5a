-- What taking a lane's store leaves of a world: its sessions, and where honesty was.
use Rattle.std.proofs.Common.{◌≡◌, ◌≢◌, ◌⊎◌, ℕ, ◌+◌, refl, sym, ap, ap₂, subst, ◌∙◌, arith, inl, inr, Option, Some, None, List, [], ◌∷◌, ◌++◌, option_to_list, slice_get}
use Rattle.std.specs.Prelude.{IsTrue, IfSome, IsSome}
use Rattle.sd_base.specs.Record.{Record}
use Rattle.sd_base.specs.declared.number.SessionKey.{SessionKey}
use Rattle.sd_driver.specs.Meaning.{Meaning, IsHonest}
use Rattle.sd_drive.specs.View.{DriveIs}
use Rattle.sd_label.specs.Cutting.{AtEnd}
use Rattle.sd_machine.specs.Machine.{Machine, MachineSession, with_session as with_machine_session}
use Rattle.sd_pack.specs.Body.{PackedBody}
use Rattle.sd_pack.specs.Packing.{Packs, bodies_of}
use Rattle.sd_session.specs.Session.{SessionView, IsRunning, GivesBack, parts_of, store_of, spooled_in}
use Rattle.sd_session.specs.declared.status.Status.{Status}
use Rattle.sd_session.specs.declared.status.Status.TheVariants.{Active, Ended, Closed, Cancelled, Failed, Purged}
use Rattle.sd_spool.specs.Job.{StoreState}
use Rattle.sd_world.specs.Rules.{IsWorld, NumbersRise}
use Rattle.sd_world.specs.Sessions.{TakesStore}
use Rattle.sd_world.specs.World.{WorldView, WorldSession, BayView, LaneView, session_at, with_session}
use Rattle.sd_world.proofs.Lookups.{one_or_two, session_id, session_at-other}
use Rattle.sd_world.proofs.Pairs.{is_numbered}
use Rattle.sd_world.specs.Honest.{StoreIsTrue}
use Rattle.sd_world.specs.Matches.{HasBodies, SessionMatches, SessionsMatch, Matches, IsHonestAt}
use Rattle.sd_world.specs.MachineSteps.{strikes_of, newly_struck}
use Rattle.sd_world.proofs.Changes.{entry_with}
use Rattle.sd_world.proofs.Striking.{none_struck, unstruck_same, strikes_with}
use Rattle.sd_world.proofs.Frames.{Framed, same_session}
use Rattle.sd_world.proofs.Sessions.{found_session, put_same, sessions_same, sessions_with}

-- A session that gives its lane's store back.

append_none : {A : Type 0} (xs ys : List A) → xs ++ ys ≡ [] → (xs ≡ []) × (ys ≡ [])
append_none [] ys h = (refl, h)
append_none (x ∷ xs) ys h = absurd (cc h)

none_or_some : {A : Type 0} (xs : List A) → (xs ≡ []) ⊎ (xs ≢ [])
none_or_some [] = inl refl
none_or_some (x ∷ xs) = inr (λ h. cc h)

-- the session without its store
abbrev pub without_store : SessionView → SessionView
without_store s = record s { store = None; spool = None }

-- if it has no bodies, it has none then
parts_none : (s : SessionView) → parts_of s ≡ [] → parts_of (without_store s) ≡ []
parts_none s none =
    let p = append_none (option_to_list s.ready) (spooled_in s.spool ++ bodies_of s.packer) none in
    let q = append_none (spooled_in s.spool) (bodies_of s.packer) p.1 in
    ap₂ (λ xs ys. xs ++ ys) p.0 q.1

-- the bodies of one that doesn't go on, and has none itself once it is closed
bodies_without : (room : ℕ) (sent parts parts' : List PackedBody) (status : Status) (records : List Record) → (IsRunning status → ⊥) → (status ≡ Closed → parts' ≡ parts)
    → HasBodies room sent (sent ++ parts) status records → HasBodies room sent (sent ++ parts') status records
bodies_without room sent parts parts' Active records over same h = absurd (over (inl refl))
bodies_without room sent parts parts' Ended records over same h = absurd (over (inr refl))
bodies_without room sent parts parts' Closed records over same h = subst (λ l. Packs room (sent ++ l) records AtEnd) (sym (same refl)) h
bodies_without room sent parts parts' Cancelled records over same h = h
bodies_without room sent parts parts' Failed records over same h = tt
bodies_without room sent parts parts' Purged records over same h = tt

-- it matches what it did
gives_back : {D : Type 0} (meaning : D → Meaning) (w : WorldView D) (e : WorldSession) (v : SessionView) (store : StoreState) (y : MachineSession) → GivesBack e.session store v
    → SessionMatches meaning w e y → SessionMatches meaning w (entry_with e v) y
gives_back meaning w e v store y back h =
    let s = e.session in
    let none : y.status ≡ Closed → parts_of s ≡ [] = λ c. elim (none_or_some (parts_of s)) [
      | inl is ↦ is
      | inr some ↦ absurd (h.closed c (inl some))
    ] in
    subst (λ x. SessionMatches meaning w (entry_with e x) y) (sym back.is) (record {
      key_is = h.key_is;
      status_is = h.status_is;
      count_is = h.count_is;
      bytes_are = h.bytes_are;
      last_is = h.last_is;
      bodies_are = λ at bay d online honest.
          bodies_without s.packer.room _ (parts_of s) (parts_of (without_store s)) y.status y.records
          (λ r. back.over (subst IsRunning h.status_is r)) (λ c. parts_none s (none c) ∙ sym (none c)) (h.bodies_are at bay d online honest);
      closed = λ c out. elim out [
        | inl parts ↦ parts (parts_none s (none c))
        | inr more ↦ h.closed c (inr more)
      ];
    })

-- The sessions of the world.

-- they match what they did
pub taken_match : {D : Type 0} (meaning : D → Meaning) (old w' : WorldView D) (m : Machine) (lane : LaneView) (store : StoreState) (es' : List WorldSession)
    → TakesStore lane old.sessions store es' → IsWorld old → ((x : WorldSession) → Framed meaning old w' x) → Matches meaning old m → SessionsMatch meaning w' es' m.sessions
taken_match meaning old w' m lane store es' (inl t) rules frames h =
    subst (λ es. SessionsMatch meaning w' es m.sessions) (sym t.1) (sessions_same meaning old w' old.sessions m.sessions frames h.sessions)
taken_match meaning old w' m lane store es' (inr t) rules frames h =
    let ticket = t.1 in
    let e = t.2 in
    let f = found_session meaning old ticket old.sessions m.sessions e h.sessions t.5 in
    let s = f.session in
    let own = gives_back meaning w' e t.3 store s t.6 (same_session meaning old w' e s (frames e) f.matches) in
    let id : t.3.key.id ≡ ticket = ap (λ (x : SessionView). x.key.id) t.6.is ∙ f.id_is in
    let same : with_machine_session s m.sessions ≡ m.sessions = put_same ticket m.sessions s f.there (ap (λ (k : SessionKey). k.id) f.matches.key_is ∙ f.id_is) in
    subst (λ es. SessionsMatch meaning w' es m.sessions) (sym t.7)
    (subst (λ ss. SessionsMatch meaning w' (with_session (entry_with e t.3) old.sessions) ss) same
    (sessions_with meaning old w' ticket old.limits.time 1 old.next (entry_with e t.3) s old.sessions m.sessions id own (λ x n. frames x) rules.numbers h.sessions))

-- none is struck
pub taken_unstruck : (lane : LaneView) (es : List WorldSession) (store : StoreState) (es' more : List WorldSession) → TakesStore lane es store es' → newly_struck es (es' ++ more) ≡ []
taken_unstruck lane es store es' more (inl t) = ap (λ l. newly_struck es (l ++ more)) t.1 ∙ unstruck_same es more
taken_unstruck lane es store es' more (inr t) =
    let e = t.2 in
    let id : t.3.key.id ≡ t.1 = ap (λ (x : SessionView). x.key.id) t.6.is ∙ session_id t.1 es e t.5 in
    ap (λ l. newly_struck es (l ++ more)) t.7 ∙ strikes_with e (entry_with e t.3) t.1 es more t.5 id
    ∙ ap (λ (x : SessionView). strikes_of t.1 e.session.status x.status) t.6.is ∙ none_struck t.1 e.session.status

-- no session has the next number
none_next : (time least next : ℕ) (es : List WorldSession) → NumbersRise time least next es → session_at next es ≡ None
none_next time least next es rise =
    let given : (o : Option WorldSession) → session_at next es ≡ o → o ≡ None = λ o. elim o as (λ o. session_at next es ≡ o → o ≡ None) [
      | None ↦ λ is. refl
      | Some e ↦ λ is.
          let low = (is_numbered time least next next es e rise is).below in
          let id = session_id next es e is in
          absurd (omega (arith, low, id))
    ] in
    given (session_at next es) refl

pub taken_next : {D : Type 0} (old : WorldView D) (lane : LaneView) (store : StoreState) (es' : List WorldSession) → TakesStore lane old.sessions store es' → IsWorld old → session_at old.next es' ≡ None
taken_next old lane store es' (inl t) rules = ap (session_at old.next) t.1 ∙ none_next old.limits.time 1 old.next old.sessions rules.numbers
taken_next old lane store es' (inr t) rules =
    let e = t.2 in
    let low = (is_numbered old.limits.time 1 old.next t.1 old.sessions e rules.numbers t.5).below in
    let same : t.3.key.id ≡ e.session.key.id = ap (λ (x : SessionView). x.key.id) t.6.is in
    ap (session_at old.next) t.7 ∙ session_at-other old.next (entry_with e t.3) old.sessions (λ p. omega (arith, low, same, p))
    ∙ none_next old.limits.time 1 old.next old.sessions rules.numbers

-- a session stays, or had the lane's store
abbrev pub StaysOrHad : ℕ → StoreState → List WorldSession → ℕ → WorldSession → Type 0
StaysOrHad drive store es' t x = (session_at t es' ≡ Some x) ⊎ ((store_of x.session ≡ Some store) × (x.drive ≡ drive))

pub taken_stays : {D : Type 0} (old : WorldView D) (at place : ℕ) (bay : BayView D) (lane : LaneView) (store : StoreState) (es' : List WorldSession) → TakesStore lane old.sessions store es' → IsWorld old
    → slice_get old.bays at ≡ Some bay → slice_get bay.lanes place ≡ Some lane → (t : ℕ) (x : WorldSession) → session_at t old.sessions ≡ Some x → StaysOrHad (at + 1) store es' t x
taken_stays old at place bay lane store es' (inl k) rules there lane_there t x here = inl (ap (session_at t) k.1 ∙ here)
taken_stays old at place bay lane store es' (inr k) rules there lane_there t x here =
    let e = k.2 in
    let id : k.3.key.id ≡ k.1 = ap (λ (y : SessionView). y.key.id) k.6.is ∙ session_id k.1 old.sessions e k.5 in
    elim (one_or_two t k.1) [
      | inl same ↦
          let is : e ≡ x = cc (sym k.5 ∙ ap (λ n. session_at n old.sessions) (sym same) ∙ here) in
          let holder = subst (λ o. IfSome o (λ ticket. (y : WorldSession) × (session_at ticket old.sessions ≡ Some y) × (y.drive ≡ at + 1) × (y.session.lane ≡ place + 1) × (lane.store ≡ None → IsSome (store_of y.session))))
          k.4 ((rules.bays at bay there).lanes place lane lane_there).holder in
          let held : holder.0 ≡ x = cc (sym holder.1 ∙ k.5 ∙ ap Some is) in
          inr (ap (λ (y : WorldSession). store_of y.session) (sym is) ∙ k.6.store_is, ap (λ (y : WorldSession). y.drive) (sym held) ∙ holder.2)
      | inr apart ↦ inl (ap (session_at t) k.7 ∙ session_at-other t (entry_with e k.3) old.sessions (λ p. apart (sym p ∙ id)) ∙ here)
    ]

-- the lane's store was true if the one taken is
pub taken_lane : (lane : LaneView) (es : List WorldSession) (store : StoreState) (es' : List WorldSession) → TakesStore lane es store es' → IsTrue store.honest → StoreIsTrue lane.store
taken_lane lane es store es' (inl t) h = subst StoreIsTrue (sym t.0) h
taken_lane lane es store es' (inr t) h = subst StoreIsTrue (sym t.0) tt

-- Honesty.

-- if the store taken is true, the lanes' stores and the sessions' were
pub honest_taken : {D : Type 0} (meaning : D → Meaning) (old : WorldView D) (at place : ℕ) (bay : BayView D) (d : DriveIs D) (lane : LaneView) (store : StoreState) (es' : List WorldSession)
    → TakesStore lane old.sessions store es' → IsWorld old → slice_get old.bays at ≡ Some bay → slice_get bay.lanes place ≡ Some lane
    → IsTrue store.honest → IsHonest (meaning d.device)
    → ((n : ℕ) (l : LaneView) → n ≢ place → slice_get bay.lanes n ≡ Some l → StoreIsTrue l.store)
    → ((t : ℕ) (x : WorldSession) → session_at t es' ≡ Some x → x.drive ≡ at + 1 → StoreIsTrue (store_of x.session))
    → IsHonestAt meaning old at bay d
honest_taken meaning old at place bay d lane store es' takes rules there lane_there true_store device lanes sessions = record {
  device = device;
  lanes = λ n l here. elim (one_or_two n place) [
    | inl same ↦
        let is : lane ≡ l = cc (sym lane_there ∙ ap (slice_get bay.lanes) (sym same) ∙ here) in
        subst (λ (x : LaneView). StoreIsTrue x.store) is (taken_lane lane old.sessions store es' takes true_store)
    | inr apart ↦ lanes n l apart here
  ];
  sessions = λ t x here on. elim (taken_stays old at place bay lane store es' takes rules there lane_there t x here) [
    | inl stays ↦ sessions t x stays on
    | inr had ↦ subst StoreIsTrue (sym had.0) true_store
  ];
}

-- at another drive the stores were true if they are
pub honest_elsewhere : {D : Type 0} (meaning : D → Meaning) (old w' : WorldView D) (at place : ℕ) (bay : BayView D) (lane : LaneView) (store : StoreState) (es' : List WorldSession)
    → TakesStore lane old.sessions store es' → IsWorld old → slice_get old.bays at ≡ Some bay → slice_get bay.lanes place ≡ Some lane
    → ((t : ℕ) (x : WorldSession) → session_at t es' ≡ Some x → session_at t w'.sessions ≡ Some x)
    → (n : ℕ) (other : BayView D) (o : DriveIs D) → n ≢ at → IsHonestAt meaning w' n other o → IsHonestAt meaning old n other o
honest_elsewhere meaning old w' at place bay lane store es' takes rules there lane_there later n other o apart h = record {
  device = h.device;
  lanes = h.lanes;
  sessions = λ t x here on. elim (taken_stays old at place bay lane store es' takes rules there lane_there t x here) [
    | inl stays ↦ h.sessions t x (later t x stays) on
    | inr had ↦ absurd (apart (omega (arith, on, had.1)))
  ];
}
