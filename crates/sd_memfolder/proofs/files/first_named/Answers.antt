use Rattle.std.proofs.Common.{◌≢◌, ℕ, zero, suc, arith, ◌∙◌, subst}
use Rattle.sd_memfolder.specs.Files.{StandsFirstAt}
use Rattle.sd_memfolder.proofs.Places.{file_of-drop, StandsFirstAt-drop, StandsFirstAt-drop_here, StandsFirstAt-within, StandsFirstAt-there}
use Rattle.sd_memfolder.proofs.files.first_named.Goals as goal

pub returns-then-is_named : goal.returns-then-is_named
returns-then-is_named c =
    let here = StandsFirstAt-drop_here _ _ _ _ c.loop-place-test.true c.index-files-place.is (c.is_named.ensures.0 c.if-is_named.true) in
    let P : ℕ → Type 0 = λ k. StandsFirstAt c.args.name.now c.args.files.now k in
    let at : StandsFirstAt c.args.name.now c.args.files.now c.loop-place.place = subst P (omega arith) (c.loop-place.invariant.first zero here) in
    record { place = at; within = StandsFirstAt-within _ _ _ at; there = StandsFirstAt-there _ _ _ at }

pub loop-place-preserved : goal.loop-place-preserved
loop-place-preserved c =
    let other : c.index-files-place.result.name ≢ c.args.name.now = λ h. (let t = c.is_named.ensures.1 h in let f = c.if-is_named.false in cc) in
    let P : ℕ → Type 0 = λ k. StandsFirstAt c.args.name.now c.args.files.now k in
    record {
      none = file_of-drop _ _ _ _ c.loop-place-test.true c.index-files-place.is other ∙ c.loop-place.invariant.none;
      first = λ j at. subst P (omega arith) (c.loop-place.invariant.first (suc j) (StandsFirstAt-drop _ _ _ _ _ c.loop-place-test.true c.index-files-place.is other at));
    }
