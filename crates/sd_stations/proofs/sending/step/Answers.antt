use Rattle.std.proofs.Common.{◌≡◌, [], rules}
use Rattle.std.specs.Prelude.{Err}
use Rattle.sd_line.proofs.GoLemmas.{goes_first, sends_on, spools_on}
use Rattle.sd_stations.proofs.SendLemmas.{not_pushed, spooled_on}
use Rattle.sd_stations.proofs.sending.step.Goals as goal

pub returns-clause-goes_on : goal.returns-clause-goes_on
returns-clause-goes_on g c =
    goes_first c.args.part.now c.spool.new.self c.push.new.self []
    (spools_on c.args.part.now c.spool.new.self c.spool.result c.spool.ensures.same c.spool.ensures.ok c.spool.ensures.err)
    (sends_on c.spool.new.self c.push.new.self _ c.push.result c.push.ensures.same c.push.ensures.ok c.push.ensures.err c.push.ensures.refused)

pub returns-in_err-pushed-clause-err : goal.returns-in_err-pushed-clause-err
returns-in_err-pushed-clause-err g c =
    let answer : c.from_residual-in_err-pushed.result ≡ Err c.in_err-pushed.field-0.0 = search rules in
    rw answer (not_pushed c.in_err-pushed.field-0.0 c.args.part.now.session c.spool.new.self.session c.push.new.self.session
    (spooled_on c.in_ok-spooled.spooled c.args.part.now.session c.spool.new.self.session c.in_ok-spooled.ensures.ok) c.in_err-pushed.ensures.err)
