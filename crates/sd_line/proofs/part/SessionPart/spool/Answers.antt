use Rattle.std.proofs.Common.{subst}
use Rattle.std.specs.Prelude.{IfOk, IfErr}
use Rattle.sd_base.specs.Seen.{seen_of}
use Rattle.sd_session.specs.Spooling.{Spools, SpoolRefused}
use Rattle.sd_line.specs.Parts.{PartIs}
use Rattle.sd_line.proofs.PartLemmas.{spools_keep}
use Rattle.sd_line.proofs.part.SessionPart.spool.Goals as goal

pub invariant_of-self : goal.invariant_of-self
invariant_of-self g c =
    let p = c.self.inside in
    let step = c.spool_step in
    record {
      keeps = spools_keep g.N.Naming.time p.seat p.before.items p.session step.new.self (seen_of p.told) p.spools p.whole step.result step.ensures.ok step.ensures.err c.self.invariant.keeps;
      room = c.self.invariant.room;
    }

pub returns-clause-ok : goal.returns-clause-ok
returns-clause-ok g c =
    let step = c.spool_step in
    subst (λ (p : PartIs). IfOk step.result (λ answer. Spools answer p.session step.new.self)) c.self.view_is step.ensures.ok

pub returns-clause-err : goal.returns-clause-err
returns-clause-err g c =
    let step = c.spool_step in
    subst (λ (p : PartIs). IfErr step.result (λ why. SpoolRefused p.session why step.new.self)) c.self.view_is step.ensures.err
