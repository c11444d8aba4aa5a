use Rattle.std.proofs.Common.{◌≡◌, ℤ, refl, rules, subst, sym, ap, ◌∙◌, to_z, of_z, w64}
use Rattle.sd_append.specs.Port.{Said}
use Rattle.sd_lines.specs.Console.{AnswersLine}
use Rattle.sd_lines.specs.Held.{last_of}
use Rattle.sd_lines.proofs.ConsoleLemmas.{answered_lines}
use Rattle.sd_lines.specs.Taken.{taken_last}
use Rattle.sd_lines.proofs.HeldLemmas.{keeps_still, gives_up_told}
use Rattle.sd_lines.proofs.port.LinePort.console.Goals as goal

pub invariant_of-self : goal.invariant_of-self
invariant_of-self g c =
    let old = last_of c.self.inside.held in
    let new = last_of c.obey_line-answer.new.held in
    keeps_still c.self.inside.exchanges (Said (to_z w64 (of_z w64 c.self.inside.moment)) c.args.line.now c.obey_line-answer.result) old new c.self.invariant (gives_up_told old new c.obey_line-answer.ensures.own) (λ so_far. refl)
    ∙ ap taken_last (sym c.said.ensures)

pub returns-clause-lines : goal.returns-clause-lines
returns-clause-lines g c =
    answered_lines (λ d. g.D.Driver.meaning d) (to_z w64 (of_z w64 c.self.inside.moment)) c.args.line.now c.obey_line-answer.result (last_of c.self.inside.held) (last_of c.obey_line-answer.new.held)
    c.obey_line-answer.ensures.obeys

pub returns-clause-obeys : goal.returns-clause-obeys
returns-clause-obeys g c =
    let wide : to_z w64 (of_z w64 c.self.inside.moment) ≡ c.self.inside.moment = search rules in
    rw (← c.self.view_is) (subst
    (λ (m : ℤ). AnswersLine (λ d. g.D.Driver.meaning d) m c.args.line.now c.obey_line-answer.result (last_of c.self.inside.held) (last_of c.obey_line-answer.new.held)) wide
    c.obey_line-answer.ensures.obeys)
