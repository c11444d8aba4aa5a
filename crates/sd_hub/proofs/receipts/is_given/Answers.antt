use Rattle.sd_hub.proofs.ReceiptLemmas.{given_by, not_given}
use Rattle.sd_hub.proofs.receipts.is_given.Goals as goal

pub returns-in-Some : goal.returns-in-Some
returns-in-Some g c =
    let journal = c.args.drive.now.journal in
    given_by journal c.args.receipt.now c.in-Some.own c.key.result c.blocks-2.result c.in_ok-own.own c.are_same.result c.in-Some.is c.key.ensures c.blocks-2.ensures
    c.in_ok-own.ensures.exactly c.in_ok-own.ensures.tells
    (rw (c.spans-in-Some.ensures, c.spans.ensures) at c.are_same.ensures)

pub returns-in-None : goal.returns-in-None
returns-in-None g c =
    let journal = c.args.drive.now.journal in (
      λ e. absurd (cc e),
      λ given. absurd (not_given journal c.args.receipt.now c.key.result c.blocks-2.result c.in_ok-own.own c.in-None.is c.key.ensures c.blocks-2.ensures c.in_ok-own.ensures.exactly given),
    )
