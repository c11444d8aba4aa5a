use Rattle.std.proofs.Common.{rules, ap, ◌∙◌}
use Rattle.sd_session.specs.Session.{due_of, spooled_in}
use Rattle.sd_session.proofs.PartLemmas.{due_spooled}
use Rattle.sd_session.proofs.session.Session.has_due.Goals as goal

pub returns-then-has_bodies-clause-due : goal.returns-then-has_bodies-clause-due
returns-then-has_bodies-clause-due g c =
    let s = c.self.inside in
    (λ _ none. due_spooled s.ready (spooled_in s.spool) s.packer.waiting (c.if-has_bodies.ensures.bodies.0 (search rules)) (ap due_of c.self.view_is ∙ none), λ _. search rules)
