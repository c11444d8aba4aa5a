use Rattle.std.proofs.Common.{sym, subst, None}
use Rattle.sd_base.specs.Seen.{seen_of}
use Rattle.sd_line.specs.Ends.{KeepsEnd}
use Rattle.sd_line.proofs.Keeps.{leaves}
use Rattle.sd_line.proofs.PartLemmas.{part_of}
use Rattle.sd_line.proofs.part.SessionPart.leave.Goals as goal

pub invariant_of-result : goal.invariant_of-result
invariant_of-result g c =
    let p = c.self.inside in
    subst (λ ss. KeepsEnd g.N.Naming.time (record { seat = p.seat; store = None; sessions = ss; whole = p.whole })) (sym c.push_reserved.ensures.items)
    (leaves g.N.Naming.time (part_of p.seat p.before.items p.session (seen_of p.told) p.spools p.whole) c.self.invariant.keeps)
