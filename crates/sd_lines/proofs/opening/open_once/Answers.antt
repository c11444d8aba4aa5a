use Rattle.std.proofs.Common.{◌≡◌, ℤ, ap, rules, subst, to_z, of_z, w64, List, ℕ, ◌∙◌}
use Rattle.sd_line.specs.Side.{LineIs}
use Rattle.sd_lines.specs.Held.{Begins}
use Rattle.sd_lines.proofs.HeldLemmas.{begins, not_prepared, numbered_in}
use Rattle.sd_lines.proofs.opening.open_once.Goals as goal

pub returns-in-Ok-Some-clause-ok : goal.returns-in-Ok-Some-clause-ok
returns-in-Ok-Some-clause-ok g c =
    let wide : to_z w64 (of_z w64 c.args.moment) ≡ c.args.moment = search rules in
    let media : c.line-line.result.now.media ≡ c.args.media.now = ap (λ (l : LineIs). l.media) c.line-line.ensures ∙ c.in-Some.ensures.1 in
    subst (λ (m : ℤ). Begins c.args.job c.args.pool.now c.args.media.now m c.in-Ok-Some.ticket c.in_ok-ticket.field-0.drive c.begin.result) wide
    (subst (λ (p : List ℕ). Begins c.args.job p c.args.media.now (to_z w64 (of_z w64 c.args.moment)) c.in-Ok-Some.ticket c.in_ok-ticket.field-0.drive c.begin.result) c.copy.ensures
    (begins c.in-Ok.ensures.ok media c.in_ok-ticket.ensures.ok.0 (numbered_in c.in-Ok-Some.field-0 c.in-Ok.prepared c.in-Ok-Some.ticket c.in-Ok-Some.prepared c.in-Ok-Some.field-0-is c.in-Ok-Some.ensures.ok) c.begin.ensures))

pub returns-in-Err-clause-err : goal.returns-in-Err-clause-err
returns-in-Err-clause-err g c = not_prepared c.line-line.result.now c.in_ok-ticket.field-0.end c.in-Err.field-0.why c.in-Err.field-0.end c.in-Err.ensures.err
