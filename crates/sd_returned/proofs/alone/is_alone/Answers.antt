use Rattle.std.proofs.Common.{◌≡◌, ◌<◌, inl, inr, refl, sym, ap, ◌∙◌, arith, length, slice_get}
use Rattle.std.proofs.lemmas.Option.{slice_get_read}
use Rattle.sd_jobs.proofs.EachLemmas.{get_below}
use Rattle.sd_jobs.specs.Jobs.{JobEndIs}
use Rattle.sd_line.specs.Ends.{EndIs}
use Rattle.sd_world.proofs.Lookups.{one_or_two}
use Rattle.sd_returned.proofs.EndLemmas.{end_of_job}
use Rattle.sd_returned.proofs.alone.is_alone.Goals as goal
use Rattle.sd_returned.proofs.alone.is_alone.Goals.{else-at-place-via-then-at-place+else-has_number, else-at-place-via-else-at-place}

pub loop-at-preserved : goal.loop-at-preserved
loop-at-preserved g c = λ at end k s below is stands own.
    let ends = c.args.ends.now in
    let pos = c.loop-at.at in
    let test = c.loop-at-test.true in
    let last = c.loop-at.auto.at-end in
    let inside : pos < length ends = omega (arith, test, last) in
    let there = slice_get_read ends (length ends) pos c.index-ends-at.result refl inside c.index-ends-at.is in
    elim (one_or_two at pos) [
      | inl same ↦
          let one : c.index-ends-at.result ≡ end = cc (sym there ∙ ap (slice_get ends) (sym same) ∙ is) in
          elim c.else-at-place.branch [
            | else-at-place-via-then-at-place+else-has_number w ↦
                absurd (w.has_number.ensures w.if-has_number.false k s
                (ap (λ l. slice_get l k) w.sessions.ensures ∙ ap (λ (e : JobEndIs). slice_get e.lane_end.sessions k) (c.end.view_is ∙ one) ∙ stands) own)
            | else-at-place-via-else-at-place w ↦ (let here = w.if-at-place.false in omega (arith, same, here))
          ]
      | inr apart ↦ c.loop-at.invariant at end k s (omega (arith, below, apart)) is stands own
    ]

pub returns : goal.returns
returns g c = λ is at end k s there stands own.
    let e = end_of_job c.args.ends.now at end there in
    let below = get_below c.args.ends.now at e.0 e.1 in
    c.loop-at.invariant at e.0 k s (omega (arith, below)) e.1 (ap (λ (x : EndIs). slice_get x.sessions k) e.2 ∙ stands) own
