use Rattle.std.proofs.Common.{subst}
use Rattle.std.specs.Prelude.{IfErr}
use Rattle.sd_base.specs.Seen.{seen_of}
use Rattle.sd_session.specs.Sending.{DespoolRefused}
use Rattle.sd_line.specs.Parts.{PartIs}
use Rattle.sd_line.proofs.PartLemmas.{pushes_keep}
use Rattle.sd_line.proofs.part.SessionPart.push.Goals as goal

pub invariant_of-self : goal.invariant_of-self
invariant_of-self g c =
    let p = c.self.inside in
    let step = c.push in
    record {
      keeps = pushes_keep g.N.Naming.time p.seat p.before.items p.session step.new.session (seen_of p.told) p.spools p.whole _ step.new.seat step.result step.ensures.ok step.ensures.err step.ensures.refused c.self.invariant.keeps;
      room = c.self.invariant.room;
    }

pub returns-clause-err : goal.returns-clause-err
returns-clause-err g c =
    let step = c.push in
    subst (λ (p : PartIs). IfErr step.result (λ why. DespoolRefused p.session why step.new.session)) c.self.view_is step.ensures.err
