-- Which sessions are struck in a step, in the world and in the machine: who fails, and who is purged.
use Rattle.std.proofs.Common.{◌≡◌, ◌≢◌, ◌⊎◌, ℕ, ◌+◌, ◌<◌, cond, refl, sym, ap, ap₂, subst, ◌∙◌, arith, inl, inr, Bool, true, false, Option, Some, List, [], ◌∷◌, ◌++◌, map, append-nil}
use Rattle.std.specs.Prelude.{◌&&◌, not}
use Rattle.std.proofs.lemmas.Bool.{eq-eqb, ne_eqb, and_right}
use Rattle.sd_base.specs.Record.{Record}
use Rattle.sd_base.specs.declared.number.SessionKey.{SessionKey}
use Rattle.sd_driver.specs.Meaning.{Meaning}
use Rattle.sd_machine.proofs.Lookups.{chosen}
use Rattle.sd_machine.specs.Machine.{Machine, MachineSession, Strike, status_after, struck, with_strikes}
use Rattle.sd_machine.specs.Step.{Step, Turns, MayStrike, StrikeWith}
use Rattle.sd_machine.specs.declared.event.Event.{Event}
use Rattle.sd_machine.specs.declared.reply.Reply.{Reply}
use Rattle.sd_pack.specs.Body.{PackedBody}
use Rattle.sd_session.specs.Session.{SessionView, IsRunning, DropsParts}
use Rattle.sd_session.specs.declared.status.Status.{Status}
use Rattle.sd_session.specs.declared.status.Status.TheVariants.{Active, Ended, Closed, Cancelled, Failed, Purged}
use Rattle.sd_spool.specs.Job.{JobView, StoreState}
use Rattle.sd_world.specs.Drives.{is_running, was_purged}
use Rattle.sd_world.specs.Rules.{NumbersRise}
use Rattle.sd_world.specs.World.{WorldView, WorldSession, session_at, with_session}
use Rattle.sd_world.proofs.Lookups.{session_id}
use Rattle.sd_world.proofs.Pairs.{is_numbered}
use Rattle.sd_world.proofs.PurgeSteps.{purged_session}
use Rattle.sd_world.proofs.Views.{runs}
use Rattle.sd_world.specs.Matches.{HasBodies, SessionMatches, SessionsMatch, Matches}
use Rattle.sd_world.specs.MachineSteps.{is_failed, failure, purging, strikes_of, newly_struck, StepsTo}
use Rattle.sd_world.proofs.Frames.{Framed, same_session}
use Rattle.sd_world.proofs.Sessions.{found_session}

-- No session is struck.

-- who keeps its status isn't struck
pub none_struck : (ticket : ℕ) (status : Status) → strikes_of ticket status status ≡ []
none_struck ticket Active = refl
none_struck ticket Ended = refl
none_struck ticket Closed = refl
none_struck ticket Cancelled = refl
none_struck ticket Failed = refl
none_struck ticket Purged = refl

-- nor who hasn't failed and wasn't purged
abbrev pub IsUnstruck : Status → Type 0
IsUnstruck status = (is_failed status ≡ false) × (was_purged status ≡ false)

unstruck_of : (ticket : ℕ) (old new : Status) → IsUnstruck new → strikes_of ticket old new ≡ []
unstruck_of ticket old new u =
    ap (λ b. cond b (failure ticket ∷ []) (cond (not (was_purged old) && was_purged new) (purging ticket ∷ []) [])) (and_right (is_running old) (is_failed new) u.0)
    ∙ ap (λ b. cond b (purging ticket ∷ []) []) (and_right (not (was_purged old)) (was_purged new) u.1)

pub unstruck_same : (es more : List WorldSession) → newly_struck es (es ++ more) ≡ []
unstruck_same [] more = refl
unstruck_same (x ∷ es) more = ap₂ (λ xs ys. xs ++ ys) (none_struck x.session.key.id x.session.status) (unstruck_same es more)

pub unstruck_stay : (es : List WorldSession) → newly_struck es es ≡ []
unstruck_stay [] = refl
unstruck_stay (x ∷ es) = ap₂ (λ xs ys. xs ++ ys) (none_struck x.session.key.id x.session.status) (unstruck_stay es)

-- if one session changes, just it can be struck
pub strikes_with : (e f : WorldSession) (ticket : ℕ) (es more : List WorldSession) → session_at ticket es ≡ Some e
    → f.session.key.id ≡ ticket
    → newly_struck es (with_session f es ++ more) ≡ strikes_of ticket e.session.status f.session.status
strikes_with e f ticket [] more at id = absurd (cc at)
strikes_with e f ticket (x ∷ es) more at id =
    let own = strikes_of ticket e.session.status f.session.status in
    chosen (λ l. newly_struck (x ∷ es) (l ++ more) ≡ own) x.session.key.id f.session.key.id (f ∷ es) (x ∷ with_session f es)
    (λ p. chosen (λ o. o ≡ Some e → newly_struck (x ∷ es) ((f ∷ es) ++ more) ≡ own) x.session.key.id ticket (Some x) (session_at ticket es)
    (λ q r. let is : x ≡ e = cc r in
    ap₂ (λ xs ys. xs ++ ys) (ap₂ (λ n (z : WorldSession). strikes_of n z.session.status f.session.status) q is) (unstruck_same es more) ∙ append-nil own)
    (λ n. absurd (n (p ∙ id)))
    at)
    (λ n. chosen (λ o. o ≡ Some e → newly_struck (x ∷ es) ((x ∷ with_session f es) ++ more) ≡ own) x.session.key.id ticket (Some x) (session_at ticket es)
    (λ q. absurd (n (q ∙ sym id)))
    (λ m r. ap₂ (λ xs ys. xs ++ ys) (none_struck x.session.key.id x.session.status) (strikes_with e f ticket es more r id))
    at)

-- if one session changes that isn't struck, none is
pub unstruck_with : (e f : WorldSession) (ticket : ℕ) (es : List WorldSession) → session_at ticket es ≡ Some e
    → f.session.key.id ≡ ticket → IsUnstruck f.session.status
    → newly_struck es (with_session f es) ≡ []
unstruck_with e f ticket es there id ok =
    ap (newly_struck es) (sym (append-nil (with_session f es))) ∙ strikes_with e f ticket es [] there id ∙ unstruck_of ticket e.session.status f.session.status ok

struck_none : (ss : List MachineSession) → map (struck []) ss ≡ ss
struck_none [] = refl
struck_none (s ∷ ss) = ap (λ l. s ∷ l) (struck_none ss)

-- a step in which no session is struck
pub steps : {D : Type 0} (meaning : D → Meaning) (old new : WorldView D) (m m' : Machine) (event : Event) (reply : Reply)
    → newly_struck old.sessions new.sessions ≡ []
    → Turns m event reply m' → MayStrike m event reply [] → Matches meaning new m' → StepsTo meaning m old event reply new
steps meaning old new m m' event reply none turns fail matches = (
  m',
  subst (λ strikes. Step strikes m event reply m') (sym none)
      (record { between = m'; turns = turns; strike = fail; new_is = ap (λ ss. record m' { sessions = ss }) (sym (struck_none m'.sessions)) }),
  matches,
)

-- a step that leaves world and machine as they are
pub stays : {D : Type 0} (meaning : D → Meaning) (old new : WorldView D) (m : Machine) (event : Event) (reply : Reply)
    → Turns m event reply m → MayStrike m event reply [] → Matches meaning old m → new ≡ old
    → StepsTo meaning m old event reply new
stays meaning old new m event reply turns fail h same =
    steps meaning old new m m event reply (ap (λ w. newly_struck old.sessions w.sessions) same ∙ unstruck_stay old.sessions) turns fail (subst (λ w. Matches meaning w m) (sym same) h)

-- Sessions are struck.

-- each of these strikes is of the session, and this of it
abbrev pub AreOf : (Strike → WorldSession → Type 0) → WorldSession → List Strike → Type 0
AreOf P e [] = Unit {0}
AreOf P e (x ∷ xs) = ((x.ticket ≡ e.session.key.id) × P x e) × AreOf P e xs

-- the failure of a session that goes on
abbrev pub IsFailure : Strike → WorldSession → Type 0
IsFailure x e = (x.status ≡ Failed) × IsRunning e.session.status

-- the purge of one that goes on no more
abbrev pub IsPurge : Strike → WorldSession → Type 0
IsPurge x e = (x.status ≡ Purged) × (IsRunning e.session.status → ⊥)

-- The session has failed, or is purged, by such strikes: of the same counts.
pub record Struck (P : Strike → WorldSession → Type 0) (e e' : WorldSession) : Type 0 where
  pub strikes : AreOf P e (strikes_of e.session.key.id e.session.status e'.session.status)
  pub becomes : status_after (strikes_of e.session.key.id e.session.status e'.session.status) e.session.key.id e.session.status ≡ e'.session.status
  pub over : (e'.session.status ≡ Failed) ⊎ (e'.session.status ≡ Purged)
  pub key_is : e'.session.key ≡ e.session.key
  pub count_is : e'.session.count ≡ e.session.count
  pub bytes_are : e'.session.bytes ≡ e.session.bytes
  pub last_is : e'.session.last ≡ e.session.last

-- who goes on and fails is struck by its failure
pub fails_strike : (ticket : ℕ) (old new : Status) → IsRunning old → new ≡ Failed
    → strikes_of ticket old new ≡ failure ticket ∷ []
fails_strike ticket old new running failed =
    ap (λ b. cond b (failure ticket ∷ []) (cond (not (was_purged old) && was_purged new) (purging ticket ∷ []) []))
    (ap₂ (λ a b. a && b) (runs old running) (ap is_failed failed))

-- who goes on and drops its parts, whatever its store, is struck so
pub drops_struck : (e : WorldSession) (v : SessionView) (store : Option StoreState) (spool : Option JobView)
    → DropsParts (record e.session { store = store; spool = spool }) Failed v → Struck IsFailure e (record e { session = v })
drops_struck e v store spool drops =
    let id = e.session.key.id in
    let status = e.session.status in
    let failed : v.status ≡ Failed = ap (λ (x : SessionView). x.status) drops.is in
    let one = fails_strike id status v.status drops.running failed in
    record {
      strikes = subst (AreOf IsFailure e) (sym one) ((refl, (refl, drops.running)), tt);
      becomes = ap (λ xs. status_after xs id status) one ∙ ap (λ b. cond b Failed status) (eq-eqb id id refl) ∙ sym failed;
      over = inl failed;
      key_is = ap (λ (x : SessionView). x.key) drops.is;
      count_is = ap (λ (x : SessionView). x.count) drops.is;
      bytes_are = ap (λ (x : SessionView). x.bytes) drops.is;
      last_is = ap (λ (x : SessionView). x.last) drops.is;
    }

-- who is purged is struck by that, unless it was
purge_strike : (ticket : ℕ) (status : Status)
    → strikes_of ticket status Purged ≡ cond (was_purged status) [] (purging ticket ∷ [])
purge_strike ticket Active = refl
purge_strike ticket Ended = refl
purge_strike ticket Closed = refl
purge_strike ticket Cancelled = refl
purge_strike ticket Failed = refl
purge_strike ticket Purged = refl

purged_after : (ticket : ℕ) (status : Status)
    → status_after (cond (was_purged status) [] (purging ticket ∷ [])) ticket status ≡ Purged
purged_after ticket Active = ap (λ b. cond b Purged Active) (eq-eqb ticket ticket refl)
purged_after ticket Ended = ap (λ b. cond b Purged Ended) (eq-eqb ticket ticket refl)
purged_after ticket Closed = ap (λ b. cond b Purged Closed) (eq-eqb ticket ticket refl)
purged_after ticket Cancelled = ap (λ b. cond b Purged Cancelled) (eq-eqb ticket ticket refl)
purged_after ticket Failed = ap (λ b. cond b Purged Failed) (eq-eqb ticket ticket refl)
purged_after ticket Purged = refl

pub purges_struck : (e : WorldSession) → (IsRunning e.session.status → ⊥) → Struck IsPurge e (purged_session e)
purges_struck e over =
    let id = e.session.key.id in
    let status = e.session.status in
    let one = purge_strike id status in
    record {
      strikes = subst (AreOf IsPurge e) (sym one) (elim (was_purged status) as (λ b. AreOf IsPurge e (cond b [] (purging id ∷ []))) [
        | true ↦ tt
        | false ↦ ((refl, (refl, over)), tt)
      ]);
      becomes = ap (λ xs. status_after xs id status) one ∙ purged_after id status;
      over = inr refl;
      key_is = refl;
      count_is = refl;
      bytes_are = refl;
      last_is = refl;
    }

-- of each pair: it is struck, or it stays, and the world around it lets it match
abbrev pub StruckOrStay : {D : Type 0} → (Strike → WorldSession → Type 0) → (D → Meaning) → WorldView D → WorldView D
    → List WorldSession → List WorldSession → Type 0
StruckOrStay P meaning w w' [] [] = Unit {0}
StruckOrStay P meaning w w' [] (e' ∷ es') = ⊥
StruckOrStay P meaning w w' (e ∷ es) [] = ⊥
StruckOrStay P meaning w w' (e ∷ es) (e' ∷ es') = (Struck P e e' ⊎ ((e' ≡ e) × Framed meaning w w' e)) × StruckOrStay P meaning w w' es es'

-- if none is struck
pub all_stay : {D : Type 0} (P : Strike → WorldSession → Type 0) (meaning : D
    → Meaning) (w w' : WorldView D) (es : List WorldSession)
    → ((x : WorldSession) → Framed meaning w w' x) → StruckOrStay P meaning w w' es es
all_stay P meaning w w' [] frames = tt
all_stay P meaning w w' (x ∷ es) frames = (inr (refl, frames x), all_stay P meaning w w' es frames)

-- of each pair: these strikes lead from the one status to the other; and it is struck, or it stays, and the world
-- around it lets it match
abbrev pub StruckAsTold : {D : Type 0} → (Strike → WorldSession → Type 0) → (D → Meaning) → WorldView D → WorldView D
    → List Strike → List WorldSession → List WorldSession → Type 0
StruckAsTold P meaning w w' strikes [] [] = Unit {0}
StruckAsTold P meaning w w' strikes [] (e' ∷ es') = ⊥
StruckAsTold P meaning w w' strikes (e ∷ es) [] = ⊥
StruckAsTold P meaning w w' strikes (e ∷ es) (e' ∷ es') =
    ((status_after strikes e.session.key.id e.session.status ≡ e'.session.status) × (Struck P e e' ⊎ ((e' ≡ e) × Framed meaning w w' e)))
    × StruckAsTold P meaning w w' strikes es es'

-- strikes one after the other
after_both : (xs ys : List Strike) (ticket : ℕ) (status : Status)
    → status_after (xs ++ ys) ticket status ≡ status_after ys ticket (status_after xs ticket status)
after_both [] ys ticket status = refl
after_both (x ∷ xs) ys ticket status = after_both xs ys ticket _

-- those of one session strike no other
after_other : (t id : ℕ) (old new status : Status) → id ≢ t → status_after (strikes_of id old new) t status ≡ status
after_other t id old new status other = from (is_running old && is_failed new) (not (was_purged old) && was_purged new)
  where
    from : (a b : Bool) → status_after (cond a (failure id ∷ []) (cond b (purging id ∷ []) [])) t status ≡ status
    from true b = ap (λ c. cond c Failed status) (ne_eqb id t other)
    from false true = ap (λ c. cond c Purged status) (ne_eqb id t other)
    from false false = refl

-- the strikes are of tickets above those before
absent : (t time least next : ℕ) (es es' : List WorldSession) (status : Status) → t < least → NumbersRise time least next es
    → status_after (newly_struck es es') t status ≡ status
absent t time least next [] es' status low rise = refl
absent t time least next (e ∷ es) [] status low rise = refl
absent t time least next (e ∷ es) (e' ∷ es') status low rise =
    let up = rise.1 in
    let own = strikes_of e.session.key.id e.session.status e'.session.status in
    after_both own (newly_struck es es') t status
    ∙ ap (status_after (newly_struck es es') t) (after_other t e.session.key.id e.session.status e'.session.status status (λ p. omega arith))
    ∙ absent t time (e.session.key.id + 1) next es es' status (omega arith) rise.2

-- strikes of one session more, that is below
told_more : {D : Type 0} (P : Strike → WorldSession → Type 0) (meaning : D
    → Meaning) (w w' : WorldView D) (t : ℕ) (old new : Status) (strikes : List Strike) (time least next : ℕ)
    (es es' : List WorldSession) → t < least → NumbersRise time least next es → StruckAsTold P meaning w w' strikes es es'
    → StruckAsTold P meaning w w' (strikes_of t old new ++ strikes) es es'
told_more P meaning w w' t old new strikes time least next [] [] low rise h = tt
told_more P meaning w w' t old new strikes time least next [] (e' ∷ es') low rise h = absurd h
told_more P meaning w w' t old new strikes time least next (e ∷ es) [] low rise h = absurd h
told_more P meaning w w' t old new strikes time least next (e ∷ es) (e' ∷ es') low rise h =
    let up = rise.1 in
    let id = e.session.key.id in
    let status = e.session.status in (
      (
        after_both (strikes_of t old new) strikes id status ∙ ap (status_after strikes id) (after_other id t old new status (λ p. omega arith)) ∙ h.0.0,
        h.0.1,
      ),
      told_more P meaning w w' t old new strikes time (id + 1) next es es' (omega arith) rise.2 h.1,
    )

stays_becomes : (ticket : ℕ) (old new : Status) → new ≡ old → status_after (strikes_of ticket old new) ticket old ≡ new
stays_becomes ticket old new same =
    ap (λ s. status_after (strikes_of ticket old s) ticket old) same ∙ ap (λ xs. status_after xs ticket old) (none_struck ticket old) ∙ sym same

pair_becomes : {D : Type 0} (P : Strike → WorldSession → Type 0) (meaning : D
    → Meaning) (w w' : WorldView D) (e e' : WorldSession) → Struck P e e' ⊎ ((e' ≡ e) × Framed meaning w w' e)
    → status_after (strikes_of e.session.key.id e.session.status e'.session.status) e.session.key.id e.session.status ≡ e'.session.status
pair_becomes P meaning w w' e e' (inl p) = p.becomes
pair_becomes P meaning w w' e e' (inr p) = stays_becomes e.session.key.id e.session.status e'.session.status (ap (λ (z : WorldSession). z.session.status) p.0)

-- the strikes of those that are newly struck tell who is
pub told : {D : Type 0} (P : Strike → WorldSession → Type 0) (meaning : D
    → Meaning) (w w' : WorldView D) (time least next : ℕ) (es es' : List WorldSession) → NumbersRise time least next es
    → StruckOrStay P meaning w w' es es' → StruckAsTold P meaning w w' (newly_struck es es') es es'
told P meaning w w' time least next [] [] rise h = tt
told P meaning w w' time least next [] (e' ∷ es') rise h = absurd h
told P meaning w w' time least next (e ∷ es) [] rise h = absurd h
told P meaning w w' time least next (e ∷ es) (e' ∷ es') rise h =
    let id = e.session.key.id in
    let status = e.session.status in
    let rest = newly_struck es es' in
    let own = strikes_of id status e'.session.status in (
      (
        after_both own rest id status ∙ ap (status_after rest id) (pair_becomes P meaning w w' e e' h.0)
            ∙ absent id time (id + 1) next es es' e'.session.status (omega arith) rise.2,
        h.0,
      ),
      told_more P meaning w w' id status e'.session.status rest time (id + 1) next es es' (omega arith) rise.2 (told P meaning w w' time (id + 1) next es es' rise.2 h.1),
    )

-- nothing is said of the bodies of a session that was struck
over_bodies : (room : ℕ) (sent all : List PackedBody) (status : Status) (records : List Record)
    → (status ≡ Failed) ⊎ (status ≡ Purged) → HasBodies room sent all status records
over_bodies room sent all status records (inl is) = subst (λ s. HasBodies room sent all s records) (sym is) tt
over_bodies room sent all status records (inr is) = subst (λ s. HasBodies room sent all s records) (sym is) tt

over_open : (status : Status) → (status ≡ Failed) ⊎ (status ≡ Purged) → status ≡ Closed → ⊥
over_open status (inl is) closed = cc
over_open status (inr is) closed = cc

-- a session that is struck matches the machine's that is
struck_match : {D : Type 0} (P : Strike → WorldSession → Type 0) (meaning : D
    → Meaning) (w w' : WorldView D) (e e' : WorldSession) (s : MachineSession) → Struck P e e'
    → SessionMatches meaning w e s → SessionMatches meaning w' e' (record s { status = e'.session.status })
struck_match P meaning w w' e e' s f h = record {
  key_is = h.key_is ∙ sym f.key_is;
  status_is = refl;
  count_is = h.count_is ∙ sym f.count_is;
  bytes_are = h.bytes_are ∙ sym f.bytes_are;
  last_is = h.last_is ∙ sym f.last_is;
  bodies_are = λ at bay d online honest. over_bodies _ _ _ e'.session.status s.records f.over;
  closed = λ c. absurd (over_open e'.session.status f.over c);
}

pair_match : {D : Type 0} (P : Strike → WorldSession → Type 0) (meaning : D
    → Meaning) (w w' : WorldView D) (e e' : WorldSession) (s : MachineSession)
    → Struck P e e' ⊎ ((e' ≡ e) × Framed meaning w w' e) → SessionMatches meaning w e s → SessionMatches meaning w' e' (record s { status = e'.session.status })
pair_match P meaning w w' e e' s (inl p) h = struck_match P meaning w w' e e' s p h
pair_match P meaning w w' e e' s (inr p) h =
    subst (λ (status : Status). SessionMatches meaning w' e' (record s { status = status })) (h.status_is ∙ ap (λ (z : WorldSession). z.session.status) (sym p.0))
    (subst (λ z. SessionMatches meaning w' z s) (sym p.0) (same_session meaning w w' e s p.1 h))

match_all : {D : Type 0} (P : Strike → WorldSession → Type 0) (meaning : D
    → Meaning) (w w' : WorldView D) (strikes : List Strike) (es es' : List WorldSession) (ss : List MachineSession)
    → StruckAsTold P meaning w w' strikes es es' → SessionsMatch meaning w es ss
    → SessionsMatch meaning w' es' (map (struck strikes) ss)
match_all P meaning w w' strikes [] [] [] f h = tt
match_all P meaning w w' strikes [] [] (s ∷ ss) f h = absurd h
match_all P meaning w w' strikes [] (e' ∷ es') ss f h = absurd f
match_all P meaning w w' strikes (e ∷ es) [] ss f h = absurd f
match_all P meaning w w' strikes (e ∷ es) (e' ∷ es') [] f h = absurd h
match_all P meaning w w' strikes (e ∷ es) (e' ∷ es') (s ∷ ss) f h =
    let same : status_after strikes s.key.id s.status ≡ e'.session.status =
    ap₂ (status_after strikes) (ap (λ (k : SessionKey). k.id) h.0.key_is) h.0.status_is ∙ f.0.0 in (
      subst (λ (status : Status). SessionMatches meaning w' e' (record s { status = status })) (sym same) (pair_match P meaning w w' e e' s f.0.1 h.0),
      match_all P meaning w w' strikes es es' ss f.1 h.1,
    )

-- a step that leaves the machine but for the sessions that are struck
pub struck_step : {D : Type 0} (P : Strike → WorldSession → Type 0) (meaning : D
    → Meaning) (old new : WorldView D) (m : Machine) (event : Event) (reply : Reply)
    → new.limits ≡ old.limits → new.next ≡ old.next → NumbersRise old.limits.time 1 old.next old.sessions
    → StruckOrStay P meaning old new old.sessions new.sessions → Turns m event reply m
    → MayStrike m event reply (newly_struck old.sessions new.sessions)
    → Matches meaning old m → StepsTo meaning m old event reply new
struck_step P meaning old new m event reply limits next rise pairs turns fail h =
    let strikes = newly_struck old.sessions new.sessions in (
      with_strikes strikes m,
      record { between = m; turns = turns; strike = fail; new_is = refl },
      record {
        time_is = h.time_is ∙ ap (λ l. l.time) (sym limits);
        next_is = h.next_is ∙ sym next;
        sessions = match_all P meaning old new strikes old.sessions new.sessions m.sessions
            (told P meaning old new old.limits.time 1 old.next old.sessions new.sessions rise pairs) h.sessions;
      },
    )

-- Whom the strikes strike.

-- this is so of each of the strikes, and the session that it strikes
abbrev pub AllStruck : (Strike → WorldSession → Type 0) → List WorldSession → List Strike → Type 0
AllStruck P es [] = Unit {0}
AllStruck P es (x ∷ xs) = ((e : WorldSession) × (session_at x.ticket es ≡ Some e) × P x e) × AllStruck P es xs

struck_behind : (P : Strike → WorldSession
    → Type 0) (x : WorldSession) (time least next : ℕ) (es : List WorldSession) (strikes : List Strike)
    → x.session.key.id < least
    → NumbersRise time least next es → AllStruck P es strikes → AllStruck P (x ∷ es) strikes
struck_behind P x time least next es [] low rise h = tt
struck_behind P x time least next es (k ∷ ks) low rise h =
    let t = k.ticket in
    let e = h.0.0 in
    let up = (is_numbered time least next t es e rise h.0.1).least_is in
    let id = session_id t es e h.0.1 in (
      (e, chosen (λ o. o ≡ Some e) x.session.key.id t (Some x) (session_at t es) (λ p. absurd (omega (arith, p, id, up, low))) (λ n. h.0.1), h.0.2),
      struck_behind P x time least next es ks low rise h.1,
    )

struck_both : (P : Strike → WorldSession → Type 0) (es : List WorldSession) (xs ys : List Strike) → AllStruck P es xs
    → AllStruck P es ys → AllStruck P es (xs ++ ys)
struck_both P es [] ys h k = k
struck_both P es (x ∷ xs) ys h k = (h.0, struck_both P es xs ys h.1 k)

struck_own : (P : Strike → WorldSession → Type 0) (e : WorldSession) (es : List WorldSession) (xs : List Strike) → AreOf P e xs
    → AllStruck P (e ∷ es) xs
struck_own P e es [] h = tt
struck_own P e es (x ∷ xs) h = (
  (
    e,
    chosen (λ o. o ≡ Some e) e.session.key.id x.ticket (Some e) (session_at x.ticket es) (λ p. refl) (λ n. absurd (n (sym h.0.0))),
    h.0.1,
  ),
  struck_own P e es xs h.1,
)

pair_struck : {D : Type 0} (P : Strike → WorldSession → Type 0) (meaning : D
    → Meaning) (w w' : WorldView D) (e e' : WorldSession) → Struck P e e' ⊎ ((e' ≡ e) × Framed meaning w w' e)
    → AreOf P e (strikes_of e.session.key.id e.session.status e'.session.status)
pair_struck P meaning w w' e e' (inl p) = p.strikes
pair_struck P meaning w w' e e' (inr p) =
    subst (AreOf P e) (sym (ap (λ (z : WorldSession). strikes_of e.session.key.id e.session.status z.session.status) p.0 ∙ none_struck e.session.key.id e.session.status)) tt

pub all_struck : {D : Type 0} (P : Strike → WorldSession → Type 0) (meaning : D
    → Meaning) (w w' : WorldView D) (time least next : ℕ) (es es' : List WorldSession)
    → NumbersRise time least next es → StruckOrStay P meaning w w' es es' → AllStruck P es (newly_struck es es')
all_struck P meaning w w' time least next [] es' rise h = tt
all_struck P meaning w w' time least next (e ∷ es) [] rise h = tt
all_struck P meaning w w' time least next (e ∷ es) (e' ∷ es') rise h =
    let id = e.session.key.id in
    struck_both P (e ∷ es) (strikes_of id e.session.status e'.session.status) (newly_struck es es')
    (struck_own P e es (strikes_of id e.session.status e'.session.status) (pair_struck P meaning w w' e e' h.0))
    (struck_behind P e time (id + 1) next es (newly_struck es es') (omega arith) rise.2 (all_struck P meaning w w' time (id + 1) next es es' rise.2 h.1))

-- the machine's sessions are struck so
pub machine_failures : {D : Type 0} (meaning : D → Meaning) (w : WorldView D) (m : Machine) (strikes : List Strike)
    → Matches meaning w m → AllStruck IsFailure w.sessions strikes
    → StrikeWith Failed IsRunning m strikes
machine_failures meaning w m [] h all = tt
machine_failures meaning w m (x ∷ xs) h all =
    let f = found_session meaning w x.ticket w.sessions m.sessions all.0.0 h.sessions all.0.1 in
    ((all.0.2.0, f.session, f.there, subst IsRunning (sym f.matches.status_is) all.0.2.1), machine_failures meaning w m xs h all.1)

pub machine_purges : {D : Type 0} (meaning : D → Meaning) (w : WorldView D) (m : Machine) (strikes : List Strike)
    → Matches meaning w m → AllStruck IsPurge w.sessions strikes
    → StrikeWith Purged (λ status. IsRunning status → ⊥) m strikes
machine_purges meaning w m [] h all = tt
machine_purges meaning w m (x ∷ xs) h all =
    let f = found_session meaning w x.ticket w.sessions m.sessions all.0.0 h.sessions all.0.1 in
    ((all.0.2.0, f.session, f.there, λ r. all.0.2.1 (subst IsRunning f.matches.status_is r)), machine_purges meaning w m xs h all.1)
