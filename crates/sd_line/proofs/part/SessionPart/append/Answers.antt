use Rattle.std.proofs.Common.{sym, subst}
use Rattle.sd_base.specs.Seen.{seen_of}
use Rattle.sd_line.specs.Parts.{KeepsPart}
use Rattle.sd_line.proofs.PartLemmas.{part_of, appends_keep}
use Rattle.sd_line.proofs.part.SessionPart.append.Goals as goal

pub invariant_of-self-2 : goal.invariant_of-self-2
invariant_of-self-2 g c =
    let p = c.self.inside in
    let time = g.N.Naming.time in
    record {
      keeps = subst (λ rs. KeepsPart time (part_of p.seat p.before.items c.append.new.self rs p.spools p.whole)) (sym c.with.ensures)
          (appends_keep time p.seat p.before.items p.session c.append.new.self (seen_of p.told) p.spools p.whole c.args.rec.now c.in_ok-count.count c.in_ok-count.ensures.ok c.self.invariant.keeps);
      room = c.self.invariant.room;
    }
