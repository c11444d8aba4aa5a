use Rattle.std.proofs.Common.{ap, ◌∙◌}
use Rattle.std.proofs.lemmas.Result.{on_err_weaker}
use Rattle.sd_base.specs.Seen.{seen_of}
use Rattle.sd_line.proofs.PartLemmas.{part_of, cancels_keep}
use Rattle.sd_line.proofs.part.SessionPart.cancel.Goals as goal

pub invariant_of-self : goal.invariant_of-self
invariant_of-self g c =
    let p = c.self.inside in
    record {
      keeps = cancels_keep g.N.Naming.time p.seat p.before.items p.session c.cancel.new.self (seen_of p.told) p.spools p.whole c.cancel.result c.cancel.ensures.ok c.cancel.ensures.err c.self.invariant.keeps;
      room = c.self.invariant.room;
    }

pub returns-clause-err : goal.returns-clause-err
returns-clause-err g c =
    let p = c.self.inside in
    on_err_weaker c.cancel.result (λ e. ap (λ s. part_of p.seat p.before.items s (seen_of p.told) p.spools p.whole) e ∙ c.self.view_is) c.cancel.ensures.err
