use Rattle.std.proofs.Common.{◌≡◌, ◌<◌, inl, inr, refl, sym, ap, subst, ◌∙◌, arith, length, slice_get}
use Rattle.std.proofs.lemmas.Option.{slice_get_read}
use Rattle.sd_jobs.specs.Jobs.{HasLine}
use Rattle.sd_world.proofs.Lookups.{one_or_two}
use Rattle.sd_jobs.proofs.EachLemmas.{get_below}
use Rattle.sd_jobs.proofs.jobs.have_lines.Goals as goal

pub returns-then-not-has_line-clause-no : goal.returns-then-not-has_line-clause-no
returns-then-not-has_line-clause-no g c = λ is.
    let jobs = c.args.jobs.now in
    let at = c.loop-at.at in
    let below : at < length jobs = omega arith in
    let there = slice_get_read jobs (length jobs) at c.index-jobs-at.result refl below c.index-jobs-at.is in
    (at, c.index-jobs-at.result, there, c.has_line.ensures.no c.if-not-has_line.true)

pub loop-at-preserved : goal.loop-at-preserved
loop-at-preserved g c = λ k job below is.
    let jobs = c.args.jobs.now in
    let at = c.loop-at.at in
    let test = c.loop-at-test.true in
    let end = c.loop-at.auto.at-end in
    let inside : at < length jobs = omega (arith, test, end) in
    let there = slice_get_read jobs (length jobs) at c.index-jobs-at.result refl inside c.index-jobs-at.is in
    elim (one_or_two k at) [
      | inl same ↦
          let one : c.index-jobs-at.result ≡ job = cc (sym there ∙ ap (slice_get jobs) (sym same) ∙ is) in
          subst (HasLine c.args.lines.now) one (c.has_line.ensures.yes c.if-not-has_line.false)
      | inr apart ↦ c.loop-at.invariant k job (omega (arith, below, apart)) is
    ]

pub returns-clause-yes : goal.returns-clause-yes
returns-clause-yes g c = λ is k job there.
    let below = get_below c.args.jobs.now k job there in
    c.loop-at.invariant k job (omega (arith, below)) there
