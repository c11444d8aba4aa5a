-- Looking up a session by its ticket, and an element by its place, after one of them changed.
use Rattle.std.proofs.Common.{◌≡◌, ◌≢◌, ◌⊎◌, ℕ, zero, suc, ◌+◌, ◌≤◌, ◌==◌, cond, refl, sym, ap, subst, ◌∙◌, arith, inl, inr, true, false, Some, None, List, [], ◌∷◌, ◌++◌, slice_get, slice_set}
use Rattle.std.proofs.lemmas.Bool.Decides.{eqb_tells}
use Rattle.sd_drive.proofs.Places.{get_set_here}
pub use Rattle.sd_drive.proofs.Places.{set_same, get_set_other as get_set-other}
use Rattle.sd_machine.proofs.Lookups.{chosen}
use Rattle.sd_world.specs.World.{WorldSession, session_at, with_session}
use Rattle.sd_world.specs.Rules.{NumbersRise}

-- two numbers are one, or not
pub one_or_two : (a b : ℕ) → (a ≡ b) ⊎ (a ≢ b)
one_or_two a b = elim (eqb_tells a b) [
  | inl p ↦ inl p.1
  | inr p ↦ inr p.1
]

-- Sessions.

-- the session of a ticket has it
pub session_id : (ticket : ℕ) (es : List WorldSession) (e : WorldSession) → session_at ticket es ≡ Some e → e.session.key.id ≡ ticket
session_id ticket [] e at = absurd (cc at)
session_id ticket (x ∷ es) e at =
    chosen (λ o. o ≡ Some e → e.session.key.id ≡ ticket) x.session.key.id ticket (Some x) (session_at ticket es)
    (λ p q. let is : x ≡ e = cc in ap (λ (z : WorldSession). z.session.key.id) (sym is) ∙ p)
    (λ n q. session_id ticket es e q)
    at

-- the session that changes is in its place
pub session_at-same : (ticket : ℕ) (new : WorldSession) (es : List WorldSession) (e : WorldSession) → session_at ticket es ≡ Some e
    → new.session.key.id ≡ ticket → session_at ticket (with_session new es) ≡ Some new
session_at-same ticket new [] e at id = absurd (cc at)
session_at-same ticket new (x ∷ es) e at id =
    chosen (λ l. session_at ticket l ≡ Some new) x.session.key.id new.session.key.id (new ∷ es) (x ∷ with_session new es)
    (λ p. chosen (λ o. o ≡ Some new) new.session.key.id ticket (Some new) (session_at ticket es) (λ q. refl) (λ n. absurd (n id)))
    (λ n. chosen (λ o. o ≡ Some e → cond (x.session.key.id == ticket) (Some x) (session_at ticket (with_session new es)) ≡ Some new) x.session.key.id ticket (Some x) (session_at ticket es)
    (λ q. absurd (n (q ∙ sym id)))
    (λ m q. chosen (λ o. o ≡ Some new) x.session.key.id ticket (Some x) (session_at ticket (with_session new es)) (λ r. absurd (m r)) (λ r. session_at-same ticket new es e q id))
    at)

-- another session stays when one changes
pub session_at-other : (ticket : ℕ) (new : WorldSession) (es : List WorldSession) → new.session.key.id ≢ ticket
    → session_at ticket (with_session new es) ≡ session_at ticket es
session_at-other ticket new [] other = refl
session_at-other ticket new (x ∷ es) other =
    chosen (λ l. session_at ticket l ≡ session_at ticket (x ∷ es)) x.session.key.id new.session.key.id (new ∷ es) (x ∷ with_session new es)
    (λ p. chosen (λ o. o ≡ session_at ticket (x ∷ es)) new.session.key.id ticket (Some new) (session_at ticket es)
    (λ q. absurd (other q))
    (λ n. chosen (λ o. session_at ticket es ≡ o) x.session.key.id ticket (Some x) (session_at ticket es) (λ q. absurd (other (sym p ∙ q))) (λ m. refl)))
    (λ n. ap (cond (x.session.key.id == ticket) (Some x)) (session_at-other ticket new es other))

-- a session that is found stays so when one comes after it
pub session_at-front : (ticket : ℕ) (es more : List WorldSession) (e : WorldSession) → session_at ticket es ≡ Some e → session_at ticket (es ++ more) ≡ Some e
session_at-front ticket [] more e at = absurd (cc at)
session_at-front ticket (x ∷ es) more e at =
    (elim (x.session.key.id == ticket) as (λ b. cond b (Some x) (session_at ticket es) ≡ Some e → cond b (Some x) (session_at ticket (es ++ more)) ≡ Some e) [
      | true ↦ λ here. here
      | false ↦ λ later. session_at-front ticket es more e later
    ]) at

-- if no session was found, the one that comes after the others is found by its ticket
pub session_at-behind : (ticket : ℕ) (es : List WorldSession) (new : WorldSession) → session_at ticket es ≡ None → new.session.key.id ≡ ticket
    → session_at ticket (es ++ new ∷ []) ≡ Some new
session_at-behind ticket [] new none id = chosen (λ o. o ≡ Some new) new.session.key.id ticket (Some new) None (λ p. refl) (λ n. absurd (n id))
session_at-behind ticket (x ∷ es) new none id =
    (elim (x.session.key.id == ticket) as (λ b. cond b (Some x) (session_at ticket es) ≡ None → cond b (Some x) (session_at ticket (es ++ new ∷ [])) ≡ Some new) [
      | true ↦ λ here. absurd (cc here)
      | false ↦ λ later. session_at-behind ticket es new later id
    ]) none

-- if one came after the others, who is found was found before, or is that one
pub session_at-push : (ticket : ℕ) (es : List WorldSession) (new e : WorldSession) → session_at ticket (es ++ new ∷ []) ≡ Some e
    → (session_at ticket es ≡ Some e) ⊎ (e ≡ new)
session_at-push ticket [] new e at =
    chosen (λ o. o ≡ Some e → (None ≡ Some e) ⊎ (e ≡ new)) new.session.key.id ticket (Some new) None
    (λ p q. inr (cc q)) (λ n q. absurd (cc q)) at
session_at-push ticket (x ∷ es) new e at =
    (elim (x.session.key.id == ticket) as (λ b. cond b (Some x) (session_at ticket (es ++ new ∷ [])) ≡ Some e → (cond b (Some x) (session_at ticket es) ≡ Some e) ⊎ (e ≡ new)) [
      | true ↦ λ here. inl here
      | false ↦ λ later. session_at-push ticket es new e later
    ]) at

-- Places.

-- what is written is there
pub get_set-same : {A : Type 0} → (xs : List A) (at : ℕ) (x y : A) → slice_get xs at ≡ Some y → slice_get (slice_set xs at x) at ≡ Some x
get_set-same xs at x y there = get_set_here xs at y x there

-- what is in a list after a write is what was written, or was there
pub get_set-tells : {A : Type 0} → (xs : List A) (at place : ℕ) (x y : A) → slice_get (slice_set xs at x) place ≡ Some y
    → ((place ≡ at) × (y ≡ x)) ⊎ ((place ≢ at) × (slice_get xs place ≡ Some y))
get_set-tells [] at place x y there = absurd (cc there)
get_set-tells (z ∷ xs) zero zero x y there = inl (refl, cc there)
get_set-tells (z ∷ xs) zero (suc k) x y there = inr ((λ e. cc e), there)
get_set-tells (z ∷ xs) (suc k) zero x y there = inr ((λ e. cc e), there)
get_set-tells (z ∷ xs) (suc k) (suc m) x y there = elim (get_set-tells xs k m x y there) [
  | inl p ↦ inl (ap suc p.0, p.1)
  | inr p ↦ inr ((λ e. p.0 (cc e)), p.1)
]

-- what is in a list with one element more was there, or is that one
pub get_push-tells : {A : Type 0} → (xs : List A) (place : ℕ) (x y : A) → slice_get (xs ++ x ∷ []) place ≡ Some y
    → (slice_get xs place ≡ Some y) ⊎ (y ≡ x)
get_push-tells [] zero x y there = inr (cc there)
get_push-tells [] (suc k) x y there = absurd (cc there)
get_push-tells (z ∷ xs) zero x y there = inl there
get_push-tells (z ∷ xs) (suc k) x y there = get_push-tells xs k x y there

-- Numbers that rise.

-- the number of a session at a place is `least` or above
pub number_least : (time least next : ℕ) (es : List WorldSession) (at : ℕ) (e : WorldSession)
    → NumbersRise time least next es → slice_get es at ≡ Some e → least ≤ e.session.key.id
number_least time least next [] at e rise there = absurd (cc there)
number_least time least next (x ∷ es) zero e rise there =
    let is : x ≡ e = cc there in subst (λ (y : WorldSession). least ≤ y.session.key.id) is rise.1
number_least time least next (x ∷ es) (suc k) e rise there =
    let later = number_least time (x.session.key.id + 1) next es k e rise.2 there in
    let here = rise.1 in
    omega (arith, later, here)

-- a session is found by its number
pub found_by_number : (time least next : ℕ) (es : List WorldSession) (at : ℕ) (e : WorldSession)
    → NumbersRise time least next es → slice_get es at ≡ Some e → session_at e.session.key.id es ≡ Some e
found_by_number time least next [] at e rise there = absurd (cc there)
found_by_number time least next (x ∷ es) zero e rise there =
    let is : x ≡ e = cc there in
    chosen (λ o. o ≡ Some e) x.session.key.id e.session.key.id (Some x) (session_at e.session.key.id es)
    (λ p. ap Some is) (λ n. absurd (n (ap (λ (y : WorldSession). y.session.key.id) is)))
found_by_number time least next (x ∷ es) (suc k) e rise there =
    let later = number_least time (x.session.key.id + 1) next es k e rise.2 there in
    chosen (λ o. o ≡ Some e) x.session.key.id e.session.key.id (Some x) (session_at e.session.key.id es)
    (λ p. absurd (omega (arith, later, p))) (λ n. found_by_number time (x.session.key.id + 1) next es k e rise.2 there)

-- and is changed by it
pub changed_by_number : (time least next : ℕ) (es : List WorldSession) (at : ℕ) (e new : WorldSession)
    → NumbersRise time least next es → slice_get es at ≡ Some e → new.session.key.id ≡ e.session.key.id → slice_set es at new ≡ with_session new es
changed_by_number time least next [] at e new rise there same = absurd (cc there)
changed_by_number time least next (x ∷ es) zero e new rise there same =
    let is : x ≡ e = cc there in
    chosen (λ l. new ∷ es ≡ l) x.session.key.id new.session.key.id (new ∷ es) (x ∷ with_session new es)
    (λ p. refl) (λ n. absurd (n (ap (λ (y : WorldSession). y.session.key.id) is ∙ sym same)))
changed_by_number time least next (x ∷ es) (suc k) e new rise there same =
    let later = number_least time (x.session.key.id + 1) next es k e rise.2 there in
    chosen (λ l. x ∷ slice_set es k new ≡ l) x.session.key.id new.session.key.id (new ∷ es) (x ∷ with_session new es)
    (λ p. absurd (omega (arith, later, same, p)))
    (λ n. ap (λ l. x ∷ l) (changed_by_number time (x.session.key.id + 1) next es k e new rise.2 there same))

-- a ticket that is at no place is no session's
pub none_found : (ticket : ℕ) (es : List WorldSession)
    → ((at : ℕ) (e : WorldSession) → slice_get es at ≡ Some e → e.session.key.id ≢ ticket) → session_at ticket es ≡ None
none_found ticket [] none = refl
none_found ticket (x ∷ es) none =
    chosen (λ o. o ≡ None) x.session.key.id ticket (Some x) (session_at ticket es)
    (λ p. absurd (none 0 x refl p)) (λ n. none_found ticket es (λ at e there. none (suc at) e there))
