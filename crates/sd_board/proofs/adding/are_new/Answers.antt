use Rattle.std.proofs.Common.{◌≡◌, ◌<◌, ℕ, zero, suc, inl, inr, refl, sym, ap, subst, ◌∙◌, arith, List, [], ◌∷◌, Some, length, slice_get}
use Rattle.std.proofs.lemmas.Option.{slice_get_read}
use Rattle.sd_board.specs.Slots.{IsNewAt}
use Rattle.sd_line.specs.Ends.{EndIs}
use Rattle.sd_world.proofs.Lookups.{one_or_two}
use Rattle.sd_board.proofs.adding.are_new.Goals as goal

-- what is there is below the length
get_below : (es : List EndIs) (k : ℕ) (e : EndIs) → slice_get es k ≡ Some e → k < length es
get_below [] k e is = absurd (cc is)
get_below (x ∷ es) zero e is = omega arith
get_below (x ∷ es) (suc k) e is = let rest = get_below es k e is in omega (arith, rest)

pub loop-at-preserved : goal.loop-at-preserved
loop-at-preserved g c = λ k e below is.
    let ends = c.args.ends.now in
    let at = c.loop-at.at in
    let test = c.loop-at-test.true in
    let end = c.loop-at.auto.at-end in
    let inside : at < length ends = omega (arith, test, end) in
    let there = slice_get_read ends (length ends) at c.index-ends-at.result refl inside c.index-ends-at.is in
    elim (one_or_two k at) [
      | inl same ↦
          let one : c.index-ends-at.result ≡ e = cc (sym there ∙ ap (slice_get ends) (sym same) ∙ is) in
          let new = subst (IsNewAt c.args.no at) one (c.is_new.ensures c.if-not-is_new.false) in
          subst (λ (n : ℕ). IsNewAt c.args.no n e) (sym same) new
      | inr apart ↦ c.loop-at.invariant k e (omega (arith, below, apart)) is
    ]

pub returns : goal.returns
returns g c = λ is k e there.
    let below = get_below c.args.ends.now k e there in
    c.loop-at.invariant k e (omega (arith, below)) there
