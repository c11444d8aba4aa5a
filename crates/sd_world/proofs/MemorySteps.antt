-- 'Out of memory' changes no session, and is not the answer of an event that takes none.
use Rattle.std.proofs.Common.{◌≡◌, ℕ, refl, sym, ap, subst, ◌∙◌, inl, inr, Option, Some, None, List}
use Rattle.sd_base.specs.declared.number.SessionKey.{SessionKey}
use Rattle.sd_base.specs.declared.refusal.Refusal.{Refusal}
use Rattle.sd_base.specs.declared.refusal.Refusal.TheVariants.{Memory}
use Rattle.sd_driver.specs.Meaning.{Meaning}
use Rattle.sd_machine.specs.declared.event.Event.{Event}
use Rattle.sd_machine.specs.declared.event.Event.TheVariants.{Cancel, Take, Sync, Unmount, Retire}
use Rattle.sd_machine.specs.declared.reply.Reply.{Reply}
use Rattle.sd_machine.specs.declared.reply.Reply.TheVariants.{Refused}
use Rattle.sd_session.specs.Session.{SessionView, status_refusal}
use Rattle.sd_session.specs.declared.status.Status.{Status}
use Rattle.sd_session.specs.declared.status.Status.TheVariants.{Active, Ended, Closed, Cancelled, Failed, Purged}
use Rattle.sd_spool.specs.Job.{StoreState}
use Rattle.sd_world.specs.World.{WorldView, WorldSession, LaneView, session_at, with_session}
use Rattle.sd_world.specs.Sessions.{TakesStore}
use Rattle.sd_world.specs.Drives.{DriveMissing}
use Rattle.sd_world.specs.Memory.{TakesNoMemory, StaysButStore, StaysIfThere, SessionsStay, WantChangesNone, WantsNone}
use Rattle.sd_world.specs.Moves.{Moves}
use Rattle.sd_world.proofs.Lookups.{session_id}
use Rattle.sd_world.proofs.Pairs.{PairOf, WithOne, with_pairs}
use Rattle.sd_world.proofs.Shapes as shape
use Rattle.sd_world.proofs.Shapes.{Shape, shape_of}

-- Sessions.

-- pairs of sessions that stay, but for a store
pairs_stay : (o o' : Option WorldSession) → PairOf StaysButStore o o' → StaysIfThere o o'
pairs_stay None None p = tt
pairs_stay None (Some y) (inl p) = absurd (cc p.1)
pairs_stay None (Some y) (inr p) = absurd (cc p.2)
pairs_stay (Some x) None (inl p) = absurd (cc p.0)
pairs_stay (Some x) None (inr p) = absurd (cc p.3)
pairs_stay (Some x) (Some y) (inl p) = absurd (cc p.0)
pairs_stay (Some x) (Some y) (inr p) =
    let before : p.0 ≡ x = cc p.2 in
    let after : p.1 ≡ y = cc p.3 in
    subst (λ e. StaysButStore e y) before (subst (λ e. StaysButStore p.0 e) after p.4)

same_stays : (e e' : WorldSession) → e' ≡ e → StaysButStore e e'
same_stays e e' same = subst (StaysButStore e) (sym same) (record { drive_is = refl; is = refl; running = λ r. refl })

all_same : (es : List WorldSession) → SessionsStay es es
all_same es ticket = of (session_at ticket es)
  where
    of : (o : Option WorldSession) → StaysIfThere o o
    of None = tt
    of (Some e) = same_stays e e refl

-- one session changes, but for a store it is as it was
one_stays : (es : List WorldSession) (ticket : ℕ) (e : WorldSession) (t : SessionView) → session_at ticket es ≡ Some e → t.key ≡ e.session.key
    → StaysButStore e (record e { session = t }) → SessionsStay es (with_session (record e { session = t }) es)
one_stays es ticket e t at key own other =
    let f : WorldSession = record e { session = t } in
    let id : f.session.key.id ≡ ticket = ap (λ (k : SessionKey). k.id) key ∙ session_id ticket es e at in
    pairs_stay (session_at other es) (session_at other (with_session f es)) (elim (with_pairs es ticket e f at id other) [
      | inl p ↦ inl p
      | inr p ↦ inr (p.0, p.1, p.2, p.3, of p.0 p.1 p.4)
    ])
  where
    of : (x y : WorldSession) → WithOne ticket e (record e { session = t }) x y → StaysButStore x y
    of x y (inl p) = subst (λ z. StaysButStore z y) (sym p.0) (subst (λ z. StaysButStore e z) (sym p.1) own)
    of x y (inr p) = same_stays x y p.1

-- a lane's store is taken
taken_stays : (lane : LaneView) (es es' : List WorldSession) (store : StoreState) → TakesStore lane es store es' → SessionsStay es es'
taken_stays lane es es' store (inl p) = subst (SessionsStay es) (sym p.1) (all_same es)
taken_stays lane es es' store (inr p) =
    let e = p.2 in
    let back = p.6 in
    subst (SessionsStay es) (sym p.7) (one_stays es p.1 e p.3 p.5 (ap (λ (s : SessionView). s.key) back.is) (record {
      drive_is = refl;
      is = back.is ∙ stored e.session p.3 back.is;
      running = λ r. absurd (back.over r);
    }))
  where
    stored : (s t : SessionView) → t ≡ record s { store = None; spool = None }
        → record s { store = None; spool = None } ≡ record s { store = t.store; spool = t.spool }
    stored s t is = ap (λ (x : SessionView). record s { store = x.store; spool = x.spool }) (sym is)

-- Moves.

shape_stays : {D : Type 0} (meaning : D → Meaning) (w w' : WorldView D) (event : Event) → Shape meaning w event (Refused Memory) w' → SessionsStay w.sessions w'.sessions
shape_stays {D} meaning w w' event (shape.stays same) = subst (λ (x : WorldView D). SessionsStay w.sessions x.sessions) (sym same) (all_same w.sessions)
shape_stays {D} meaning w w' event (shape.changes m) =
    let same = m.tells.memory refl in
    subst (λ (x : WorldView D). SessionsStay w.sessions x.sessions) (sym m.new_is)
    (one_stays w.sessions m.ticket m.e m.t m.has (ap (λ (s : SessionView). s.key) same)
    (same_stays m.e (record m.e { session = m.t }) (ap (λ s. record m.e { session = s }) same)))
shape_stays meaning w w' event (shape.closes ticket key spans reply m) = absurd (cc reply)
shape_stays meaning w w' event (shape.sends ticket reply m) = absurd (cc reply)
shape_stays meaning w w' event (shape.opens job pool media moment ticket drive reply m) = absurd (cc reply)
shape_stays {D} meaning w w' event (shape.opens_not pool media why m) =
    subst (λ (x : WorldView D). SessionsStay w.sessions x.sessions) (sym m.new_is) (taken_stays m.lane w.sessions m.sessions m.before m.takes)
shape_stays {D} meaning w w' event (shape.takes drive ticket seq m) = subst (λ (x : WorldView D). SessionsStay w.sessions x.sessions) (sym m.new_is) (all_same w.sessions)
shape_stays {D} meaning w w' event (shape.calls m) = subst (λ (x : WorldView D). SessionsStay w.sessions x.sessions) (sym m.new_is) (all_same w.sessions)
shape_stays {D} meaning w w' event (shape.gets m) = subst (λ (x : WorldView D). SessionsStay w.sessions x.sessions) (sym m.new_is) (all_same w.sessions)
shape_stays meaning w w' event (shape.loses drive of_sync fault m) = absurd (cc fault)
shape_stays {D} meaning w w' event (shape.knows m) = subst (λ (x : WorldView D). SessionsStay w.sessions x.sessions) (sym m.new_is) (all_same w.sessions)
shape_stays {D} meaning w w' event (shape.retires drive retired m) = subst (λ (x : WorldView D). SessionsStay w.sessions x.sessions) (sym m.new_is) (all_same w.sessions)
shape_stays meaning w w' event (shape.purges drive name own answer m) = elim answer [
  | inl is ↦ absurd (cc is)
  | inr is ↦ absurd (cc is)
]

pub memory_leaves : {D : Type 0} (meaning : D → Meaning) (w w' : WorldView D) (event : Event) (reply : Reply) → Moves meaning w event reply w' → WantChangesNone w reply w'
memory_leaves meaning w w' event reply m is = shape_stays meaning w w' event (subst (λ r. Shape meaning w event r w') is (shape_of meaning w w' event reply m))

-- Events that take no memory.

missing_not : {D : Type 0} (w : WorldView D) (drive : ℕ) → DriveMissing w drive Memory → ⊥
missing_not w drive (at, number, inl p) = cc p.1
missing_not w drive (at, number, inr p) = cc p.3

refused_is : {why : Refusal} → Refused Memory ≡ Refused why → why ≡ Memory
refused_is is = cc is

status_not : (status : Status) → Memory ≡ status_refusal status → ⊥
status_not Active is = cc is
status_not Ended is = cc is
status_not Closed is = cc is
status_not Cancelled is = cc is
status_not Failed is = cc is
status_not Purged is = cc is

never : {D : Type 0} (meaning : D → Meaning) (w w' : WorldView D) (event : Event) → TakesNoMemory event → Moves meaning w event (Refused Memory) w' → ⊥
never meaning w w' (Cancel ticket) h m = elim m.0 [
  | inl p ↦ cc p.1
  | inr p ↦ status_not p.0.session.status p.2.1
]
never meaning w w' (Take drive) h (inl m) = missing_not w drive (subst (DriveMissing w drive) (refused_is m.1) m.2)
never meaning w w' (Take drive) h (inr a) = a.moves
never meaning w w' (Sync drive) h (inl m) = missing_not w drive (subst (DriveMissing w drive) (refused_is m.1) m.2)
never meaning w w' (Sync drive) h (inr a) = cc a.moves.0
never meaning w w' (Unmount drive) h (inl m) = missing_not w drive (subst (DriveMissing w drive) (refused_is m.1) m.2)
never meaning w w' (Unmount drive) h (inr a) = cc a.moves.0
never meaning w w' (Retire drive) h (m, inl missing) = missing_not w drive missing
never meaning w w' (Retire drive) h (m, inr used) = cc used.0
never meaning w w' event h m = absurd h

pub no_memory : {D : Type 0} (meaning : D → Meaning) (w w' : WorldView D) (event : Event) (reply : Reply) → Moves meaning w event reply w' → WantsNone event reply
no_memory meaning w w' event reply m h is = never meaning w w' event h (subst (λ r. Moves meaning w event r w') is m)
