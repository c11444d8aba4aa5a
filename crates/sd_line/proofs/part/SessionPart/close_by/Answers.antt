use Rattle.std.proofs.Common.{sym, subst}
use Rattle.std.specs.Prelude.{Ok}
use Rattle.sd_base.specs.Seen.{seen_of}
use Rattle.sd_line.specs.Closes.{Closes, MayCloseBy}
use Rattle.sd_line.specs.Parts.{PartIs}
use Rattle.sd_line.specs.declared.closing.Closing.TheVariants.{Closed}
use Rattle.sd_line.proofs.PartLemmas.{closes_keep}
use Rattle.sd_line.proofs.part.SessionPart.close_by.Goals as goal

pub close_by-requires-after_bounds : goal.close_by-requires-after_bounds
close_by-requires-after_bounds g c κs within =
    (c.requires.0, subst (λ (x : PartIs). MayCloseBy c.requires.0 x.session c.args.receipt.now) (sym c.self.view_is) c.requires.1)

pub invariant_of-self : goal.invariant_of-self
invariant_of-self g c =
    let p = c.self.inside in
    let r = c.args.receipt.now in
    let journal = c.requires.0 in
    let may = subst (λ (x : PartIs). MayCloseBy journal x.session r) (sym c.self.view_is) c.requires.1 in
    record {
      keeps = closes_keep g.N.Naming.time p.seat p.before.items p.session c.close_by.new.session (seen_of p.told) p.spools p.whole ⊥ journal (Ok (Closed r)) (c.close_by.ensures journal may)
          c.self.invariant.keeps;
      room = c.self.invariant.room;
    }

pub returns-clause-closes : goal.returns-clause-closes
returns-clause-closes g c = λ journal may.
    let r = c.args.receipt.now in
    subst (λ (x : PartIs). Closes ⊥ journal x.session (Ok (Closed r)) c.close_by.new.session) c.self.view_is
    (c.close_by.ensures journal (subst (λ (x : PartIs). MayCloseBy journal x.session r) (sym c.self.view_is) may))
