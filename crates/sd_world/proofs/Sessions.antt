-- The sessions of the world and of the machine side by side: looking up, one that changes, one more.
use Rattle.std.proofs.Common.{◌≡◌, ◌≢◌, ℕ, ◌+◌, ◌<◌, refl, sym, ap, subst, ◌∙◌, arith, Some, None, List, [], ◌∷◌, ◌++◌}
use Rattle.sd_base.specs.declared.number.SessionKey.{SessionKey}
use Rattle.sd_driver.specs.Meaning.{Meaning}
use Rattle.sd_machine.proofs.Lookups.{chosen}
use Rattle.sd_machine.specs.Machine.{Machine, MachineSession, session_of, changed, with_session as with_machine_session}
use Rattle.sd_world.specs.World.{WorldView, WorldSession, session_at, with_session}
use Rattle.sd_world.specs.Rules.{NumbersRise}
use Rattle.sd_world.proofs.Lookups.{session_id}
use Rattle.sd_world.specs.Matches.{SessionMatches, SessionsMatch, Matches}
use Rattle.sd_world.proofs.Frames.{Framed, same_session}

-- a session of the machine that has a ticket, and matches this one of the world
pub record FoundSession {D : Type 0} (meaning : D → Meaning) (w : WorldView D) (ticket : ℕ) (ss : List MachineSession) (e : WorldSession) : Type 0 where
  pub session : MachineSession
  pub there : session_of ticket ss ≡ Some session
  pub matches : SessionMatches meaning w e session
  pub id_is : e.session.key.id ≡ ticket

-- the number of a matching session
pub same_id : {D : Type 0} (meaning : D → Meaning) (w : WorldView D) (x : WorldSession) (y : MachineSession) → SessionMatches meaning w x y → y.key.id ≡ x.session.key.id
same_id meaning w x y h = ap (λ (k : SessionKey). k.id) h.key_is

-- a session of the world that has a ticket is matched by the machine's of that ticket
pub found_session : {D : Type 0} (meaning : D → Meaning) (w : WorldView D) (ticket : ℕ) (es : List WorldSession) (ss : List MachineSession) (e : WorldSession)
    → SessionsMatch meaning w es ss → session_at ticket es ≡ Some e → FoundSession meaning w ticket ss e
found_session meaning w ticket [] ss e h at = absurd (cc at)
found_session meaning w ticket (x ∷ es) [] e h at = absurd h
found_session meaning w ticket (x ∷ es) (y ∷ ss) e h at =
    let id = same_id meaning w x y h.0 in
    chosen (λ o. o ≡ Some e → FoundSession meaning w ticket (y ∷ ss) e) x.session.key.id ticket (Some x) (session_at ticket es)
    (λ p q. record {
      session = y;
      there = chosen (λ o. o ≡ Some y) y.key.id ticket (Some y) (session_of ticket ss) (λ r. refl) (λ n. absurd (n (id ∙ p)));
      matches = (let is : x ≡ e = cc in subst (λ z. SessionMatches meaning w z y) is h.0);
      id_is = (let is : x ≡ e = cc in ap (λ (z : WorldSession). z.session.key.id) (sym is) ∙ p);
    })
    (λ n q. let f = found_session meaning w ticket es ss e h.1 q in
    record {
      session = f.session;
      there = chosen (λ o. o ≡ Some f.session) y.key.id ticket (Some y) (session_of ticket ss) (λ r. absurd (n (sym id ∙ r))) (λ m. f.there);
      matches = f.matches;
      id_is = f.id_is;
    })
    at

-- a ticket that is unknown to the world is unknown to the machine
pub no_session_found : {D : Type 0} (meaning : D → Meaning) (w : WorldView D) (ticket : ℕ) (es : List WorldSession) (ss : List MachineSession)
    → SessionsMatch meaning w es ss → session_at ticket es ≡ None → session_of ticket ss ≡ None
no_session_found meaning w ticket [] [] h none = refl
no_session_found meaning w ticket [] (y ∷ ss) h none = absurd h
no_session_found meaning w ticket (x ∷ es) [] h none = absurd h
no_session_found meaning w ticket (x ∷ es) (y ∷ ss) h none =
    let id = same_id meaning w x y h.0 in
    chosen (λ o. o ≡ None → session_of ticket (y ∷ ss) ≡ None) x.session.key.id ticket (Some x) (session_at ticket es)
    (λ p q. absurd (cc q))
    (λ n q. chosen (λ o. o ≡ None) y.key.id ticket (Some y) (session_of ticket ss) (λ r. absurd (n (sym id ∙ r))) (λ m. no_session_found meaning w ticket es ss h.1 q))
    none

-- a session put in its own place
pub put_same : (ticket : ℕ) (ss : List MachineSession) (s : MachineSession) → session_of ticket ss ≡ Some s → s.key.id ≡ ticket → with_machine_session s ss ≡ ss
put_same ticket [] s at id = refl
put_same ticket (y ∷ ss) s at id =
    chosen (λ l. l ≡ y ∷ ss) y.key.id s.key.id (s ∷ ss) (y ∷ with_machine_session s ss)
    (λ p. chosen (λ o. o ≡ Some s → s ∷ ss ≡ y ∷ ss) y.key.id ticket (Some y) (session_of ticket ss) (λ q r. let is : y ≡ s = cc in ap (λ z. z ∷ ss) (sym is)) (λ n. absurd (n (p ∙ id))) at)
    (λ n. chosen (λ o. o ≡ Some s → y ∷ with_machine_session s ss ≡ y ∷ ss) y.key.id ticket (Some y) (session_of ticket ss) (λ q. absurd (n (q ∙ sym id))) (λ q r. ap (λ l. y ∷ l) (put_same ticket ss s r id)) at)

-- so in the world
pub put_back : (ticket : ℕ) (es : List WorldSession) (e : WorldSession) → session_at ticket es ≡ Some e → with_session e es ≡ es
put_back ticket [] e at = refl
put_back ticket (x ∷ es) e at =
    chosen (λ l. l ≡ x ∷ es) x.session.key.id e.session.key.id (e ∷ es) (x ∷ with_session e es)
    (λ p. chosen (λ o. o ≡ Some e → e ∷ es ≡ x ∷ es) x.session.key.id ticket (Some x) (session_at ticket es) (λ q r. let is : x ≡ e = cc in ap (λ z. z ∷ es) (sym is))
    (λ n r. absurd (n (p ∙ session_id ticket es e r))) at)
    (λ n. chosen (λ o. o ≡ Some e → x ∷ with_session e es ≡ x ∷ es) x.session.key.id ticket (Some x) (session_at ticket es)
    (λ q r. let is : x ≡ e = cc in absurd (n (ap (λ (z : WorldSession). z.session.key.id) is))) (λ q r. ap (λ l. x ∷ l) (put_back ticket es e r)) at)

-- One session changes in both.

-- every session but one matches as it did
abbrev pub OthersFramed : {D : Type 0} → (D → Meaning) → WorldView D → WorldView D → ℕ → Type 0
OthersFramed meaning w w' ticket = (x : WorldSession) → x.session.key.id ≢ ticket → Framed meaning w w' x

-- the sessions after one session
sessions_behind : {D : Type 0} (meaning : D → Meaning) (w w' : WorldView D) (ticket time least next : ℕ) (es : List WorldSession) (ss : List MachineSession) → ticket < least
    → OthersFramed meaning w w' ticket → NumbersRise time least next es → SessionsMatch meaning w es ss → SessionsMatch meaning w' es ss
sessions_behind meaning w w' ticket time least next [] [] above others rise h = tt
sessions_behind meaning w w' ticket time least next [] (y ∷ ss) above others rise h = absurd h
sessions_behind meaning w w' ticket time least next (x ∷ es) [] above others rise h = absurd h
sessions_behind meaning w w' ticket time least next (x ∷ es) (y ∷ ss) above others rise h = (
  same_session meaning w w' x y (others x (λ e. let low = rise.1 in omega arith)) h.0,
  sessions_behind meaning w w' ticket time (x.session.key.id + 1) next es ss (let low = rise.1 in omega arith) others rise.2 h.1,
)

pub sessions_with : {D : Type 0} (meaning : D → Meaning) (w w' : WorldView D) (ticket time least next : ℕ) (f : WorldSession) (s : MachineSession) (es : List WorldSession) (ss : List MachineSession)
    → f.session.key.id ≡ ticket → SessionMatches meaning w' f s → OthersFramed meaning w w' ticket
    → NumbersRise time least next es → SessionsMatch meaning w es ss → SessionsMatch meaning w' (with_session f es) (with_machine_session s ss)
sessions_with meaning w w' ticket time least next f s [] [] id own others rise h = tt
sessions_with meaning w w' ticket time least next f s [] (y ∷ ss) id own others rise h = absurd h
sessions_with meaning w w' ticket time least next f s (x ∷ es) [] id own others rise h = absurd h
sessions_with meaning w w' ticket time least next f s (x ∷ es) (y ∷ ss) id own others rise h =
    let here = same_id meaning w x y h.0 in
    let new = same_id meaning w' f s own in
    chosen (λ l. SessionsMatch meaning w' l (with_machine_session s (y ∷ ss))) x.session.key.id f.session.key.id (f ∷ es) (x ∷ with_session f es)
    (λ p. chosen (SessionsMatch meaning w' (f ∷ es)) y.key.id s.key.id (s ∷ ss) (y ∷ with_machine_session s ss)
    (λ q. (own, sessions_behind meaning w w' ticket time (x.session.key.id + 1) next es ss (omega (arith, p, id)) others rise.2 h.1))
    (λ n. absurd (n (here ∙ p ∙ sym new))))
    (λ n. chosen (SessionsMatch meaning w' (x ∷ with_session f es)) y.key.id s.key.id (s ∷ ss) (y ∷ with_machine_session s ss)
    (λ q. absurd (n (sym here ∙ q ∙ new)))
    (λ m. (
      same_session meaning w w' x y (others x (λ e. n (e ∙ sym id))) h.0,
      sessions_with meaning w w' ticket time (x.session.key.id + 1) next f s es ss id own others rise.2 h.1,
    )))

-- one session more in both
pub sessions_more : {D : Type 0} (meaning : D → Meaning) (w : WorldView D) (f : WorldSession) (s : MachineSession) (es : List WorldSession) (ss : List MachineSession)
    → SessionMatches meaning w f s → SessionsMatch meaning w es ss → SessionsMatch meaning w (es ++ f ∷ []) (ss ++ s ∷ [])
sessions_more meaning w f s [] [] own h = (own, tt)
sessions_more meaning w f s [] (y ∷ ss) own h = absurd h
sessions_more meaning w f s (x ∷ es) [] own h = absurd h
sessions_more meaning w f s (x ∷ es) (y ∷ ss) own h = (h.0, sessions_more meaning w f s es ss own h.1)

-- all sessions stay
pub sessions_same : {D : Type 0} (meaning : D → Meaning) (w w' : WorldView D) (es : List WorldSession) (ss : List MachineSession)
    → ((x : WorldSession) → Framed meaning w w' x) → SessionsMatch meaning w es ss → SessionsMatch meaning w' es ss
sessions_same meaning w w' [] [] frames h = tt
sessions_same meaning w w' [] (y ∷ ss) frames h = absurd h
sessions_same meaning w w' (x ∷ es) [] frames h = absurd h
sessions_same meaning w w' (x ∷ es) (y ∷ ss) frames h = (same_session meaning w w' x y (frames x) h.0, sessions_same meaning w w' es ss frames h.1)

-- the world matches what it did
pub all_same : {D : Type 0} (meaning : D → Meaning) (w w' : WorldView D) (m : Machine) → w'.limits ≡ w.limits → w'.next ≡ w.next → w'.sessions ≡ w.sessions
    → ((x : WorldSession) → Framed meaning w w' x) → Matches meaning w m → Matches meaning w' m
all_same meaning w w' m limits next sessions frames h = record {
  time_is = h.time_is ∙ ap (λ l. l.time) (sym limits);
  next_is = h.next_is ∙ sym next;
  sessions = subst (λ es. SessionsMatch meaning w' es m.sessions) (sym sessions) (sessions_same meaning w w' w.sessions m.sessions frames h.sessions);
}

-- the world matches the machine again, if one session changes in both
pub one_changed : {D : Type 0} (meaning : D → Meaning) (w w' : WorldView D) (m : Machine) (ticket : ℕ) (f : WorldSession) (s : MachineSession)
    → w'.limits ≡ w.limits → w'.next ≡ w.next → w'.sessions ≡ with_session f w.sessions → NumbersRise w.limits.time 1 w.next w.sessions
    → f.session.key.id ≡ ticket → SessionMatches meaning w' f s → OthersFramed meaning w w' ticket → Matches meaning w m → Matches meaning w' (changed m s)
one_changed meaning w w' m ticket f s limits next sessions rise id own others h = record {
  time_is = h.time_is ∙ ap (λ l. l.time) (sym limits);
  next_is = h.next_is ∙ sym next;
  sessions = subst (λ es. SessionsMatch meaning w' es (with_machine_session s m.sessions)) (sym sessions)
      (sessions_with meaning w w' ticket w.limits.time 1 w.next f s w.sessions m.sessions id own others rise h.sessions);
}
