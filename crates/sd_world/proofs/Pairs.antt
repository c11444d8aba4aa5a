-- The sessions of a ticket before and after a move: there before exactly if there after.
use Rattle.std.proofs.Common.{◌≡◌, ◌≢◌, ◌⊎◌, ℕ, ◌+◌, ◌≤◌, ◌<◌, ◌==◌, cond, refl, sym, ap, subst, ◌∙◌, inl, inr, true, false, Bool, Option, Some, None, List, [], ◌∷◌, ◌++◌, arith}
use Rattle.sd_base.specs.declared.number.SessionKey.{SessionKey}
use Rattle.sd_machine.proofs.Lookups.{chosen}
use Rattle.sd_world.specs.World.{WorldSession, session_at, with_session}
use Rattle.sd_world.specs.Drives.{FailsWhere, FailExactly}
use Rattle.sd_world.specs.Rules.{NumbersRise}
use Rattle.sd_world.proofs.Lookups.{one_or_two, session_id, session_at-same, session_at-other}
use Rattle.sd_world.proofs.Views.{fails}

-- there is no session before and after, or there are sessions of which this holds
abbrev pub PairOf : (WorldSession → WorldSession → Type 0) → Option WorldSession → Option WorldSession → Type 0
PairOf R before after =
    ((before ≡ None) × (after ≡ None))
    ⊎ ((e : WorldSession) × (e' : WorldSession) × (before ≡ Some e) × (after ≡ Some e') × R e e')

-- so of the sessions of a ticket
abbrev pub PairAt : (WorldSession → WorldSession → Type 0) → List WorldSession → List WorldSession → ℕ → Type 0
PairAt R es es' ticket = PairOf R (session_at ticket es) (session_at ticket es')

-- the one after
pub pair_after : (R : WorldSession → WorldSession → Type 0) (o o' : Option WorldSession) (e : WorldSession)
    → PairOf R o o' → o ≡ Some e → (e' : WorldSession) × (o' ≡ Some e') × R e e'
pair_after R o o' e (inl p) at = absurd (cc (sym at ∙ p.0))
pair_after R o o' e (inr p) at =
    let is : p.0 ≡ e = cc (sym p.2 ∙ at) in (p.1, p.3, subst (λ x. R x p.1) is p.4)

-- the one before
pub pair_before : (R : WorldSession → WorldSession → Type 0) (o o' : Option WorldSession) (e' : WorldSession)
    → PairOf R o o' → o' ≡ Some e' → (e : WorldSession) × (o ≡ Some e) × R e e'
pair_before R o o' e' (inl p) at = absurd (cc (sym at ∙ p.1))
pair_before R o o' e' (inr p) at =
    let is : p.1 ≡ e' = cc (sym p.3 ∙ at) in (p.0, p.2, subst (λ x. R p.0 x) is p.4)

-- if the session after is the one before
pub same_pair : (R : WorldSession → WorldSession → Type 0) (o o' : Option WorldSession) → o' ≡ o
    → ((e : WorldSession) → o ≡ Some e → R e e) → PairOf R o o'
same_pair R None o' same all = inl (refl, same)
same_pair R (Some e) o' same all = inr (e, e, refl, same, all e refl)

-- One session changes.

-- it is the one that changes, or another that stays
abbrev pub WithOne : ℕ → WorldSession → WorldSession → WorldSession → WorldSession → Type 0
WithOne ticket e f x y = ((x ≡ e) × (y ≡ f)) ⊎ ((x.session.key.id ≢ ticket) × (y ≡ x))

pub with_pairs : (es : List WorldSession) (ticket : ℕ) (e f : WorldSession) → session_at ticket es ≡ Some e → f.session.key.id ≡ ticket
    → (other : ℕ) → PairAt (WithOne ticket e f) es (with_session f es) other
with_pairs es ticket e f at id other = elim (one_or_two other ticket) [
  | inl same ↦ inr (
    e,
    f,
    ap (λ n. session_at n es) same ∙ at,
    ap (λ n. session_at n (with_session f es)) same ∙ session_at-same ticket f es e at id,
    inl (refl, refl),
  )
  | inr apart ↦ same_pair (WithOne ticket e f) (session_at other es) (session_at other (with_session f es))
      (session_at-other other f es (λ p. apart (sym p ∙ id)))
      (λ x there. inr ((λ p. apart (sym (session_id other es x there) ∙ p)), refl))
]

-- Some sessions fail.

-- the failed session has its key
pub fails_key : (b : Bool) (e e' : WorldSession) → FailsWhere b e e' → e'.session.key ≡ e.session.key
fails_key true e e' h = ap (λ (x : WorldSession). x.session.key) h.2 ∙ (fails e.session h.0 h.1).stays.key_is
fails_key false e e' h = ap (λ (x : WorldSession). x.session.key) h

-- this of each pair
abbrev pub FallsWhere : (WorldSession → Bool) → WorldSession → WorldSession → Type 0
FallsWhere loses e e' = FailsWhere (loses e) e e'

pub fail_pairs : (loses : WorldSession → Bool) (es es' : List WorldSession) → FailExactly loses es es' → (ticket : ℕ) → PairAt (FallsWhere loses) es es' ticket
fail_pairs loses [] [] h ticket = inl (refl, refl)
fail_pairs loses [] (y ∷ es') h ticket = absurd h
fail_pairs loses (x ∷ es) [] h ticket = absurd h
fail_pairs loses (x ∷ es) (y ∷ es') h ticket =
    let R = FallsWhere loses in
    subst (λ (id : ℕ). PairOf R (cond (x.session.key.id == ticket) (Some x) (session_at ticket es)) (cond (id == ticket) (Some y) (session_at ticket es')))
    (sym (ap (λ (k : SessionKey). k.id) (fails_key (loses x) x y h.0)))
    (elim (x.session.key.id == ticket) as (λ b. PairOf R (cond b (Some x) (session_at ticket es)) (cond b (Some y) (session_at ticket es'))) [
      | true ↦ inr (x, y, refl, refl, h.0)
      | false ↦ fail_pairs loses es es' h.1 ticket
    ])

-- Numbers.

-- what the numbers say of one session
pub record IsNumbered (time least next : ℕ) (e : WorldSession) : Type 0 where
  pub time_is : e.session.key.time ≡ time
  pub least_is : least ≤ e.session.key.id
  pub below : e.session.key.id < next

pub least_below : (time least next : ℕ) (es : List WorldSession) → NumbersRise time least next es → least ≤ next
least_below time least next [] h = h
least_below time least next (x ∷ es) h = let more = least_below time (x.session.key.id + 1) next es h.2 in omega (arith, h.1)

pub is_numbered : (time least next ticket : ℕ) (es : List WorldSession) (e : WorldSession) → NumbersRise time least next es → session_at ticket es ≡ Some e
    → IsNumbered time least next e
is_numbered time least next ticket [] e h at = absurd (cc at)
is_numbered time least next ticket (x ∷ es) e h at =
    let more = least_below time (x.session.key.id + 1) next es h.2 in
    let own : IsNumbered time least next x = record { time_is = h.0; least_is = h.1; below = omega arith } in
    chosen (λ o. o ≡ Some e → IsNumbered time least next e) x.session.key.id ticket (Some x) (session_at ticket es)
    (λ p q. let is : x ≡ e = cc in subst (IsNumbered time least next) is own)
    (λ n q. let later = is_numbered time (x.session.key.id + 1) next ticket es e h.2 q in
    record { time_is = later.time_is; least_is = omega (arith, h.1, later.least_is); below = later.below })
    at

pub numbers_with : (time least next : ℕ) (f : WorldSession) (es : List WorldSession) → f.session.key.time ≡ time → NumbersRise time least next es
    → NumbersRise time least next (with_session f es)
numbers_with time least next f [] is h = h
numbers_with time least next f (x ∷ es) is h =
    chosen (NumbersRise time least next) x.session.key.id f.session.key.id (f ∷ es) (x ∷ with_session f es)
    (λ p. (is, subst (λ n. least ≤ n) p h.1, subst (λ n. NumbersRise time (n + 1) next es) p h.2))
    (λ n. (h.0, h.1, numbers_with time (x.session.key.id + 1) next f es is h.2))

pub numbers_push : (time least next : ℕ) (f : WorldSession) (es : List WorldSession) → f.session.key.time ≡ time → f.session.key.id ≡ next
    → NumbersRise time least next es → NumbersRise time least (next + 1) (es ++ f ∷ [])
numbers_push time least next f [] is id h = (is, omega arith, omega arith)
numbers_push time least next f (x ∷ es) is id h = (h.0, h.1, numbers_push time (x.session.key.id + 1) next f es is id h.2)

pub numbers_fail : (loses : WorldSession → Bool) (time least next : ℕ) (es es' : List WorldSession) → FailExactly loses es es'
    → NumbersRise time least next es → NumbersRise time least next es'
numbers_fail loses time least next [] [] h rise = rise
numbers_fail loses time least next [] (y ∷ es') h rise = absurd h
numbers_fail loses time least next (x ∷ es) [] h rise = absurd h
numbers_fail loses time least next (x ∷ es) (y ∷ es') h rise =
    let id = ap (λ (k : SessionKey). k.id) (fails_key (loses x) x y h.0) in (
      ap (λ (k : SessionKey). k.time) (fails_key (loses x) x y h.0) ∙ rise.0,
      subst (λ n. least ≤ n) (sym id) rise.1,
      subst (λ n. NumbersRise time (n + 1) next es') (sym id) (numbers_fail loses time (x.session.key.id + 1) next es es' h.1 rise.2),
    )

none_of : (time next ticket : ℕ) (es : List WorldSession) → NumbersRise time 1 next es → next ≤ ticket
    → (o : Option WorldSession) → session_at ticket es ≡ o → session_at ticket es ≡ None
none_of time next ticket es rise above None is = is
none_of time next ticket es rise above (Some e) is =
    let below = (is_numbered time 1 next ticket es e rise is).below in
    let id = session_id ticket es e is in absurd (omega (arith, below, id, above))

-- no session has the next number
pub none_next : (time next ticket : ℕ) (es : List WorldSession) → NumbersRise time 1 next es → next ≤ ticket → session_at ticket es ≡ None
none_next time next ticket es rise above = none_of time next ticket es rise above (session_at ticket es) refl
