use Rattle.std.proofs.Common.{◌≡◌, ℕ, sym, subst, ◌∙◌, Option, Some}
use Rattle.std.specs.Prelude.{Ok, IfSome}
use Rattle.sd_drive.specs.Receipt.{ReceiptIs}
use Rattle.sd_line.proofs.ShowLemmas.{shows_due}
use Rattle.sd_line.specs.Tells.{IsOfOwn, ShowsClose, told_due}
use Rattle.sd_stations.proofs.closing.due_on.Goals as goal

pub returns-clause-shown : goal.returns-clause-shown
returns-clause-shown g c =
    let side = c.args.side.now in
    let new = c.receipt_on.new.side in
    let sent = c.args.part.now.seat.seat.sent in
    let receipt = c.in-Ok-Some.receipt in
    let told : new ≡ told_due side sent (Ok (Some receipt)) =
    subst (λ (d : Option ReceiptIs). new ≡ told_due side sent (Ok d)) c.in-Ok-Some.field-0-is c.in-Ok-Some.ensures.told in
    let own : IsOfOwn receipt sent =
    subst (λ (d : Option ReceiptIs). IfSome d (λ (r : ReceiptIs). IsOfOwn r sent)) c.in-Ok-Some.field-0-is c.in-Ok-Some.ensures.own in
    let shown : ShowsClose c.show.result side.no sent receipt = shows_due side new c.show.result sent receipt told own c.show.ensures.token in
    subst (λ (n : ℕ). ShowsClose c.show.result n sent receipt) (c.requires.1 ∙ sym c.requires.0) shown
