-- The store of a lane that is free can be taken.
use Rattle.std.proofs.Common.{◌≡◌, ℕ, refl, sym, ap, subst, ◌∙◌, inl, inr, Bool, true, true≢false, List, Option, Some, None, slice_get}
use Rattle.std.specs.Prelude.{IsTrue, IsSome, IfNone}
use Rattle.std.proofs.lemmas.Option.{slice_get-map}
use Rattle.sd_base.specs.Choice.{FirstOf}
use Rattle.sd_journal.specs.Journal.{Entry}
use Rattle.sd_session.specs.Session.{SessionView, IsRunning, GivesBack, KeepsStore, store_of}
use Rattle.sd_spool.specs.Job.{StoreState}
use Rattle.sd_world.specs.World.{WorldSession, LaneView, session_at, with_session, lane_is_free, free_lanes}
use Rattle.sd_world.specs.Rules.{IsLane}
use Rattle.sd_world.proofs.LaneSteps.{not_free}
use Rattle.sd_world.proofs.Lookups.{session_id}
use Rattle.sd_world.proofs.OpenSteps.{holder_of}
use Rattle.sd_events.specs.Opening.{CanTakeStore}
use Rattle.sd_events.proofs.Chosen.{was_there}
use Rattle.sd_events.proofs.Seats.{some_of}

-- the lowest free lane is there, and is free
pub record IsFree (sessions : List WorldSession) (journal : List Entry) (lanes : List LaneView) (place : ℕ) : Type 0 where
  pub lane : LaneView
  pub there : slice_get lanes place ≡ Some lane
  pub free : lane_is_free sessions journal lane.holder ≡ true

pub is_free : (sessions : List WorldSession) (journal : List Entry) (lanes : List LaneView) (place : ℕ)
    → FirstOf IsTrue (λ _ _. ⊥) (free_lanes sessions journal lanes) place → IsFree sessions journal lanes place
is_free sessions journal lanes place f =
    let free : LaneView → Bool = λ l. lane_is_free sessions journal l.holder in
    let found = was_there free (slice_get lanes place) f.first (sym (slice_get-map free lanes place) ∙ f.there) in
    record { lane = found.0; there = found.1; free = found.2 ∙ f.is_candidate }

-- the store that lies in the lane
in_lane : (lane : LaneView) (sessions : List WorldSession) (o : Option StoreState) → lane.store ≡ o
    → (lane.store ≡ None → CanTakeStore lane sessions) → CanTakeStore lane sessions
in_lane lane sessions None is else = else is
in_lane lane sessions (Some store) is else = (store, sessions, inl (is, refl))

-- the store that the session has that used the lane last
at_holder : (sessions : List WorldSession) (journal : List Entry) (drive place : ℕ) (lane : LaneView) (o : Option ℕ) → lane.holder ≡ o
    → IsLane sessions drive place lane → lane_is_free sessions journal lane.holder ≡ true → lane.store ≡ None → CanTakeStore lane sessions
at_holder sessions journal drive place lane None holds h free none =
    let stored : IsSome lane.store = h.unused holds in
    absurd (cc (stored, none))
at_holder sessions journal drive place lane (Some ticket) holds h free none =
    let held = holder_of sessions drive place lane ticket h holds in
    let e = held.0 in
    let stored = some_of (store_of e.session) (held.4 none) in
    let s : SessionView = record e.session { store = None; spool = None } in
    let back : GivesBack e.session stored.0 s = record {
      over = λ runs. true≢false (sym free ∙ not_free sessions journal ticket e lane.holder held.1 runs (holds ∙ ap Some (sym (session_id ticket sessions e held.1))));
      store_is = stored.1;
      is = refl;
    } in
    let after = with_session (record e { session = s }) sessions in
    (stored.0, after, inr (none, ticket, e, s, holds, held.1, back, refl {a = after}))

pub can_take : (sessions : List WorldSession) (journal : List Entry) (drive place : ℕ) (lane : LaneView)
    → IsLane sessions drive place lane → lane_is_free sessions journal lane.holder ≡ true → CanTakeStore lane sessions
can_take sessions journal drive place lane h free =
    in_lane lane sessions lane.store refl (at_holder sessions journal drive place lane lane.holder refl h free)

-- Who has the store, if it doesn't lie in the lane.
pub record IsHeld (lane : LaneView) (sessions : List WorldSession) : Type 0 where
  pub ticket : ℕ
  pub e : WorldSession
  pub store : StoreState
  pub holder : lane.holder ≡ Some ticket
  pub found : session_at ticket sessions ≡ Some e
  pub over : IsRunning e.session.status → ⊥
  pub has : store_of e.session ≡ Some store

pub held_by : (lane : LaneView) (sessions : List WorldSession) → CanTakeStore lane sessions → lane.store ≡ None → IsHeld lane sessions
held_by lane sessions (store, after, inl p) none = absurd (cc (p.0, none))
held_by lane sessions (store, after, inr p) none =
    record { ticket = p.1; e = p.2; store = store; holder = p.4; found = p.5; over = p.6.over; has = p.6.store_is }

-- the ticket that was read is his
pub same_ticket : (lane : LaneView) (sessions : List WorldSession) (ticket : ℕ) (h : IsHeld lane sessions) → lane.holder ≡ Some ticket → h.ticket ≡ ticket
same_ticket lane sessions ticket h is = cc (sym h.holder ∙ is)

pub gives : {A : Type 0} (lane : LaneView) (sessions : List WorldSession) (ticket : ℕ) (e : WorldSession) (s : SessionView) (o : Option A) → IsHeld lane sessions
    → lane.holder ≡ Some ticket → session_at ticket sessions ≡ Some e → IfNone o (KeepsStore e.session s) → IsSome o
gives lane sessions ticket e s (Some store) h is found told = refl
gives lane sessions ticket e s None h is found told =
    let same : h.e ≡ e = cc (sym h.found ∙ ap (λ n. session_at n sessions) (same_ticket lane sessions ticket h is) ∙ found) in
    elim told.0 [
      | inl runs ↦ absurd (h.over (subst (λ (x : WorldSession). IsRunning x.session.status) (sym same) runs))
      | inr none ↦ (let has : store_of e.session ≡ Some h.store = subst (λ (x : WorldSession). store_of x.session ≡ Some h.store) same h.has in absurd (cc (has, none)))
    ]
