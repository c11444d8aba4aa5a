use Rattle.std.proofs.Common.{ap, sym, subst, ◌∙◌, ◌≡◌}
use Rattle.std.specs.Prelude.{Ok, Option, Some}
use Rattle.sd_base.specs.Seen.{seen_of}
use Rattle.sd_session.specs.Session.{SessionView}
use Rattle.sd_drive.specs.Receipt.{ReceiptIs}
use Rattle.sd_line.specs.Closes.{Closes, IsDue, MayCloseBy}
use Rattle.sd_line.specs.Parts.{PartIs}
use Rattle.sd_line.specs.Tells.{AreApart}
use Rattle.sd_line.specs.declared.closing.Closing.TheVariants.{Closed}
use Rattle.sd_line.proofs.PartLemmas.{closes_keep}
use Rattle.sd_line.proofs.part.SessionPart.close_on.Goals as goal

pub close_by-requires-after_bounds : goal.close_by-requires-after_bounds
close_by-requires-after_bounds g c = λ lifetimes bound.
    let due : IsDue (AreApart c.args.side.now c.args.self.now.seat c.args.self.now.session.key) c.args.side.now.drive.journal c.args.self.now.session (Ok (Some c.in-Ok-Some.receipt)) c.receipt_on.new.self.session =
    subst (λ (o : Option ReceiptIs). IsDue (AreApart c.args.side.now c.args.self.now.seat c.args.self.now.session.key) c.args.side.now.drive.journal c.args.self.now.session (Ok o) c.receipt_on.new.self.session) c.in-Ok-Some.field-0-is c.in-Ok-Some.ensures.due in
    let journal = c.args.side.now.drive.journal in
    let same : c.self.inside.session ≡ c.args.self.now.session = ap (λ (x : PartIs). x.session) c.self.view_is ∙ due.1 in
    (journal, subst (λ (s : SessionView). MayCloseBy journal s c.in-Ok-Some.receipt) (sym same) due.0)

pub invariant_of-self : goal.invariant_of-self
invariant_of-self g c =
    let p = c.self.inside in
    let due : IsDue (AreApart c.args.side.now c.args.self.now.seat c.args.self.now.session.key) c.args.side.now.drive.journal c.args.self.now.session (Ok (Some c.in-Ok-Some.receipt)) c.receipt_on.new.self.session =
    subst (λ (o : Option ReceiptIs). IsDue (AreApart c.args.side.now c.args.self.now.seat c.args.self.now.session.key) c.args.side.now.drive.journal c.args.self.now.session (Ok o) c.receipt_on.new.self.session) c.in-Ok-Some.field-0-is c.in-Ok-Some.ensures.due in
    let r = c.in-Ok-Some.receipt in
    let journal = c.args.side.now.drive.journal in
    let same : p.session ≡ c.args.self.now.session = ap (λ (x : PartIs). x.session) c.self.view_is ∙ due.1 in
    let may = subst (λ (s : SessionView). MayCloseBy journal s r) (sym same) due.0 in
    record {
      keeps = closes_keep g.N.Naming.time p.seat p.before.items p.session c.close_by.new.session (seen_of p.told) p.spools p.whole ⊥ journal (Ok (Closed r)) (c.close_by.ensures journal may)
          c.self.invariant.keeps;
      room = c.self.invariant.room;
    }

pub returns-in-Ok-Some-clause-closes : goal.returns-in-Ok-Some-clause-closes
returns-in-Ok-Some-clause-closes g c =
    let p = c.self.inside in
    let due : IsDue (AreApart c.args.side.now c.args.self.now.seat c.args.self.now.session.key) c.args.side.now.drive.journal c.args.self.now.session (Ok (Some c.in-Ok-Some.receipt)) c.receipt_on.new.self.session =
    subst (λ (o : Option ReceiptIs). IsDue (AreApart c.args.side.now c.args.self.now.seat c.args.self.now.session.key) c.args.side.now.drive.journal c.args.self.now.session (Ok o) c.receipt_on.new.self.session) c.in-Ok-Some.field-0-is c.in-Ok-Some.ensures.due in
    let r = c.in-Ok-Some.receipt in
    let journal = c.args.side.now.drive.journal in
    let same : p.session ≡ c.args.self.now.session = ap (λ (x : PartIs). x.session) c.self.view_is ∙ due.1 in
    let may = subst (λ (s : SessionView). MayCloseBy journal s r) (sym same) due.0 in
    subst (λ (s : SessionView). Closes ⊥ journal s (Ok (Closed r)) c.close_by.new.session) same (c.close_by.ensures journal may)

pub returns-in-Ok-None-clause-closes : goal.returns-in-Ok-None-clause-closes
returns-in-Ok-None-clause-closes g c =
    subst (λ (o : Option ReceiptIs). IsDue (AreApart c.args.side.now c.args.self.now.seat c.args.self.now.session.key) c.args.side.now.drive.journal c.args.self.now.session (Ok o) c.receipt_on.new.self.session) c.in-Ok-None.field-0-is c.in-Ok-None.ensures.due
