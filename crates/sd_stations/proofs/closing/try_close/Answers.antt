use Rattle.sd_stations.proofs.ShutLemmas.{closes_by, shows_still}
use Rattle.sd_stations.proofs.closing.try_close.Goals as goal

pub returns-clause-goes_on : goal.returns-clause-goes_on
returns-clause-goes_on g c =
    (closes_by (λ d. d.receipt) c.args.part.now c.receipt.new.part c.close_by.new.self c.in-Ok-Some.field-0 c.in-Ok-Some.due c.in-Ok-Some.field-0-is
    c.in-Ok-Some.ensures.ok c.close_by.ensures.same c.close_by.ensures.closes c.receipt.ensures.goes_on).0

pub returns-clause-ok : goal.returns-clause-ok
returns-clause-ok g c =
    let closes = closes_by (λ d. d.receipt) c.args.part.now c.receipt.new.part c.close_by.new.self c.in-Ok-Some.field-0 c.in-Ok-Some.due c.in-Ok-Some.field-0-is
    c.in-Ok-Some.ensures.ok c.close_by.ensures.same c.close_by.ensures.closes c.receipt.ensures.goes_on in
    (closes.1, c.in-Ok.ensures)

pub returns-clause-shown : goal.returns-clause-shown
returns-clause-shown g c =
    shows_still (λ d. d.receipt) (λ d. d.token) c.args.part.now c.receipt.new.part c.close_by.new.self c.in-Ok-Some.field-0 c.in-Ok-Some.due
    c.in-Ok-Some.field-0-is c.in-Ok-Some.ensures.ok c.in-Ok-Some.ensures.shown c.close_by.ensures.same
