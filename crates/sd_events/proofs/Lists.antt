-- Sessions of which some fail.
use Rattle.std.proofs.Common.{◌≡◌, ◌≢◌, ℕ, zero, suc, ◌+◌, Bool, false, refl, sym, ap, subst, ◌∙◌, arith, Some, None, List, [], ◌∷◌, slice_get, slice_set}
use Rattle.sd_machine.proofs.Lookups.{chosen}
use Rattle.sd_world.specs.World.{WorldSession, session_at}
use Rattle.sd_world.specs.Drives.{FailsWhere, FailExactly}
use Rattle.sd_world.specs.Rules.{NumbersRise}
use Rattle.sd_world.proofs.Lookups.{number_least}

-- if none fails, the sessions are as they were
pub none_fails : (p : WorldSession → Bool) (es : List WorldSession)
    → ((at : ℕ) (e : WorldSession) → slice_get es at ≡ Some e → p e ≡ false) → FailExactly p es es
none_fails p [] nope = tt
none_fails p (e ∷ es) nope = (subst (λ b. FailsWhere b e e) (sym (nope 0 e refl)) refl, none_fails p es (λ at x there. nope (suc at) x there))

-- and only then can that be so
pub all_stay : (p : WorldSession → Bool) (es fs : List WorldSession)
    → ((at : ℕ) (e : WorldSession) → slice_get es at ≡ Some e → p e ≡ false) → FailExactly p es fs → fs ≡ es
all_stay p [] [] nope fail = refl
all_stay p [] (f ∷ fs) nope fail = absurd fail
all_stay p (e ∷ es) [] nope fail = absurd fail
all_stay p (e ∷ es) (f ∷ fs) nope fail =
    let head : FailsWhere false e f = subst (λ b. FailsWhere b e f) (nope 0 e refl) fail.0 in
    let tail = all_stay p es fs (λ at x there. nope (suc at) x there) fail.1 in
    ap (λ x. x ∷ fs) head ∙ ap (λ xs. e ∷ xs) tail

-- the same sessions fail by other words
pub fail_alike : (p q : WorldSession → Bool) (es fs : List WorldSession)
    → ((at : ℕ) (e : WorldSession) → slice_get es at ≡ Some e → p e ≡ q e) → FailExactly p es fs → FailExactly q es fs
fail_alike p q [] [] same fail = tt
fail_alike p q [] (f ∷ fs) same fail = fail
fail_alike p q (e ∷ es) [] same fail = fail
fail_alike p q (e ∷ es) (f ∷ fs) same fail =
    (subst (λ b. FailsWhere b e f) (same 0 e refl) fail.0, fail_alike p q es fs (λ at x there. same (suc at) x there) fail.1)

-- the one at a place fails, if it does, and no other
pub fail_one : (p : WorldSession → Bool) (time least next : ℕ) (es : List WorldSession) (at : ℕ) (e f : WorldSession)
    → NumbersRise time least next es → slice_get es at ≡ Some e → FailsWhere (p e) e f
    → ((x : WorldSession) → x.session.key.id ≢ e.session.key.id → p x ≡ false) → FailExactly p es (slice_set es at f)
fail_one p time least next [] at e f rise there fails others = absurd (cc there)
fail_one p time least next (x ∷ es) zero e f rise there fails others =
    let is : e ≡ x = cc there in (
      subst (λ (y : WorldSession). FailsWhere (p y) y f) is fails,
      none_fails p es (λ at y stands.
          let l = number_least time (x.session.key.id + 1) next es at y rise.2 stands in
          let same = ap (λ (z : WorldSession). z.session.key.id) is in
          others y (λ eq. absurd (omega (arith, l, eq, same)))),
    )
fail_one p time least next (x ∷ es) (suc k) e f rise there fails others =
    let l = number_least time (x.session.key.id + 1) next es k e rise.2 there in (
      subst (λ b. FailsWhere b x x) (sym (others x (λ eq. absurd (omega (arith, l, eq))))) refl,
      fail_one p time (x.session.key.id + 1) next es k e f rise.2 there fails others,
    )

-- none fails by a ticket that no session has
pub none_of_ticket : (p : WorldSession → Bool) (ticket : ℕ) (es : List WorldSession)
    → session_at ticket es ≡ None → ((x : WorldSession) → x.session.key.id ≢ ticket → p x ≡ false) → FailExactly p es es
none_of_ticket p ticket [] none others = tt
none_of_ticket p ticket (x ∷ es) none others =
    chosen (λ o. o ≡ None → FailExactly p (x ∷ es) (x ∷ es)) x.session.key.id ticket (Some x) (session_at ticket es)
    (λ eq nope. absurd (cc nope))
    (λ differs nope. (subst (λ b. FailsWhere b x x) (sym (others x differs)) refl, none_of_ticket p ticket es nope others))
    none
