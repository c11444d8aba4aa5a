use Rattle.std.proofs.Common.{◌≡◌, rules, subst}
use Rattle.std.specs.Prelude.{None, Option, Some, Ok, Err}
use Rattle.sd_base.specs.Seen.{seen_of}
use Rattle.sd_drive.specs.Receipt.{ReceiptIs}
use Rattle.sd_drive.specs.View.{DriveIs}
use Rattle.sd_line.specs.Closes.{IsDue}
use Rattle.sd_line.specs.Parts.{PartIs}
use Rattle.sd_line.specs.Tells.{AreApart, IsOfOwn, IsOfSent, tells_close}
use Rattle.sd_line.proofs.CloseLemmas.{apart_of, due_of}
use Rattle.sd_line.proofs.PartLemmas.{due_keep}
use Rattle.sd_line.proofs.TellLemmas.{own_blocks, own_of}
use Rattle.sd_line.proofs.part.SessionPart.receipt_on.Goals as goal

pub tell-requires-clause-own : goal.tell-requires-clause-own
tell-requires-clause-own g c = λ lifetimes bound.
    let p = c.self.inside in
    let due : IsDue ⊥ c.drive.result.now.journal p.session (Ok (Some c.in-Ok-Some.receipt)) c.receipt.new.session =
    subst (λ (o : Option ReceiptIs). IsDue ⊥ c.drive.result.now.journal p.session (Ok o) c.receipt.new.session) c.in-Ok-Some.field-0-is c.in-Ok-Some.ensures in
    subst (λ (d : DriveIs g.row.D.Denot). IsOfSent d.journal p.seat.seat.sent c.in-Ok-Some.receipt) c.drive.ensures
    (own_of g.N.Naming.time _ _ _ c.self.invariant.keeps due.0)

pub invariant_of-self-in-Err : goal.invariant_of-self-in-Err
invariant_of-self-in-Err g c =
    let p = c.self.inside in
    record {
      keeps = due_keep g.N.Naming.time p.seat p.before.items p.session c.receipt.new.session (seen_of p.told) p.spools p.whole ⊥ _ c.receipt.result c.receipt.ensures c.self.invariant.keeps;
      room = c.self.invariant.room;
    }

pub returns-in-Ok-None-clause-due : goal.returns-in-Ok-None-clause-due
returns-in-Ok-None-clause-due g c =
    due_of (AreApart c.args.side.now c.args.self.now.seat c.args.self.now.session.key) c.args.side.now.drive c.drive.result.now _ c.args.self.now c.receipt.new.session (Ok None) c.drive.ensures c.self.view_is
    (subst (λ (o : Option ReceiptIs). IsDue ⊥ c.drive.result.now.journal c.self.inside.session (Ok o) c.receipt.new.session) c.in-Ok-None.field-0-is c.in-Ok-None.ensures)

pub returns-in-Err-clause-due : goal.returns-in-Err-clause-due
returns-in-Err-clause-due g c =
    due_of (AreApart c.args.side.now c.args.self.now.seat c.args.self.now.session.key) c.args.side.now.drive c.drive.result.now _ c.args.self.now c.receipt.new.session (Err c.in-Err.why) c.drive.ensures c.self.view_is c.in-Err.ensures

pub returns-then-not-tell-clause-due : goal.returns-then-not-tell-clause-due
returns-then-not-tell-clause-due g c =
    apart_of c.args.side.now c.drive.result.now _ c.args.self.now c.receipt.new.session c.in-Ok-Some.receipt c.drive.ensures c.self.view_is
    (subst (λ (o : Option ReceiptIs). IsDue ⊥ c.drive.result.now.journal c.self.inside.session (Ok o) c.receipt.new.session) c.in-Ok-Some.field-0-is c.in-Ok-Some.ensures)
    (c.if-not-tell.ensures.apart (search rules))

pub returns-else-not-tell-clause-due : goal.returns-else-not-tell-clause-due
returns-else-not-tell-clause-due g c =
    due_of (AreApart c.args.side.now c.args.self.now.seat c.args.self.now.session.key) c.args.side.now.drive c.drive.result.now _ c.args.self.now c.receipt.new.session (Ok (Some c.in-Ok-Some.receipt))
    c.drive.ensures c.self.view_is
    (subst (λ (o : Option ReceiptIs). IsDue ⊥ c.drive.result.now.journal c.self.inside.session (Ok o) c.receipt.new.session) c.in-Ok-Some.field-0-is c.in-Ok-Some.ensures)

pub returns-else-not-tell-clause-told : goal.returns-else-not-tell-clause-told
returns-else-not-tell-clause-told g c =
    subst (λ (p : PartIs). c.tell.new.self ≡ tells_close c.args.side.now p.seat.seat.sent c.in-Ok-Some.receipt) c.self.view_is
    (c.if-not-tell.ensures.told (search rules))

pub returns-else-not-tell-clause-own : goal.returns-else-not-tell-clause-own
returns-else-not-tell-clause-own g c =
    let due : IsDue ⊥ c.drive.result.now.journal c.self.inside.session (Ok (Some c.in-Ok-Some.receipt)) c.receipt.new.session =
    subst (λ (o : Option ReceiptIs). IsDue ⊥ c.drive.result.now.journal c.self.inside.session (Ok o) c.receipt.new.session) c.in-Ok-Some.field-0-is c.in-Ok-Some.ensures in
    subst (λ (p : PartIs). IsOfOwn c.in-Ok-Some.receipt p.seat.seat.sent) c.self.view_is
    (own_blocks c.args.side.now.drive c.drive.result.now c.self.inside.seat.seat.sent c.self.inside.session c.in-Ok-Some.receipt c.drive.ensures due.0 (c.if-not-tell.ensures.own (search rules)))
