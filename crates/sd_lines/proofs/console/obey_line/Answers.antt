use Rattle.std.proofs.Common.{◌≡◌, ℤ, rules, subst, to_z, of_z, w64}
use Rattle.sd_lines.proofs.ConsoleLemmas.{line_answered}
use Rattle.sd_lines.specs.Console.{AnswersLine}
use Rattle.sd_lines.specs.Held.{last_of}
use Rattle.sd_lines.proofs.console.obey_line.Goals as goal

pub returns-in-Ok-clause-obeys : goal.returns-in-Ok-clause-obeys
returns-in-Ok-clause-obeys g c =
    let wide : to_z w64 (of_z w64 c.args.moment) ≡ c.args.moment = search rules in
    let old = last_of c.args.held.now in
    let new = last_of c.obey.new.held in
    subst (λ (m : ℤ). AnswersLine (λ d. g.D.Driver.meaning d) m c.args.line.now c.obey.result old new) wide
    (line_answered (λ d. g.D.Driver.meaning d) (to_z w64 (of_z w64 c.args.moment)) c.args.line.now c.in-Ok.command c.obey.result old new c.in-Ok.ensures.ok c.obey.ensures.obeys)
