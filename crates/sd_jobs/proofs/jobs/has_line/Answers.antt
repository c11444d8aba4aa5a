use Rattle.std.proofs.Common.{◌≡◌, ◌<◌, true≢false, refl, sym, ap, ◌∙◌, arith, length}
use Rattle.std.proofs.lemmas.Bool.{eqb-true, eq-eqb}
use Rattle.std.proofs.lemmas.Option.{slice_get_read}
use Rattle.sd_line.specs.Side.{LineIs}
use Rattle.sd_jobs.proofs.jobs.has_line.Goals as goal

pub returns-clause-yes : goal.returns-clause-yes
returns-clause-yes g c = λ is.
    let lines = c.args.lines.now in
    let at = c.job.inside.line in
    let line = c.index-lines-job.result in
    let below : at < length lines = omega (arith, c.if-job-lines.false) in
    let there = slice_get_read lines (length lines) at line refl below c.index-lines-job.is in
    rw (← c.job.view_is) (line, there, sym c.no.ensures ∙ sym c.get.ensures.value ∙ eqb-true _ _ is ∙ c.get-2.ensures.value ∙ c.no-2.ensures)

pub returns-clause-no : goal.returns-clause-no
returns-clause-no g c = rw (← c.job.view_is) (λ apart has.
    let lines = c.args.lines.now in
    let at = c.job.inside.line in
    let line = c.index-lines-job.result in
    let below : at < length lines = omega (arith, c.if-job-lines.false) in
    let there = slice_get_read lines (length lines) at line refl below c.index-lines-job.is in
    let same : has.0 ≡ line = cc (sym has.1 ∙ there) in
    let nos = c.get.ensures.value ∙ c.no.ensures ∙ has.2 ∙ ap (λ (l : LineIs). l.no) same ∙ sym c.no-2.ensures ∙ sym c.get-2.ensures.value in
    true≢false (sym (eq-eqb _ _ nos) ∙ apart))
