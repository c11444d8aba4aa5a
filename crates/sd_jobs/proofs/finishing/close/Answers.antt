use Rattle.std.proofs.Common.{subst}
use Rattle.std.specs.Prelude.{Ok}
use Rattle.sd_line.specs.Closes.{Closes}
use Rattle.sd_line.specs.Tells.{AreApart}
use Rattle.sd_line.specs.declared.closing.Closing.{Closing}
use Rattle.sd_line.proofs.ReceiptLemmas.{receipt_of}
use Rattle.sd_jobs.proofs.finishing.close.Goals as goal

pub returns-in-Ok-Closed-clause-ok : goal.returns-in-Ok-Closed-clause-ok
returns-in-Ok-Closed-clause-ok g c =
    let own = c.in-Ok-Closed.ensures.closes in
    let apart = AreApart own.side c.loop-turn.part.seat c.loop-turn.part.session.key in
    let closes = subst (λ (x : Closing). Closes apart own.side.drive.journal c.loop-turn.part.session (Ok x) c.close.new.self.session) c.in-Ok-Closed.field-0-is own.closes in
    (receipt_of apart own.side.drive.journal c.in-Ok-Closed.receipt c.loop-turn.part.session c.close.new.self.session closes).0
