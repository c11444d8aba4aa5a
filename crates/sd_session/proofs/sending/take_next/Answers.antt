use Rattle.std.proofs.Common.{rules}
use Rattle.sd_session.proofs.PartLemmas.{takes_waiting}
use Rattle.sd_session.proofs.sending.take_next.Goals as goal

pub returns-in-None-clause-ok : goal.returns-in-None-clause-ok
returns-in-None-clause-ok g c =
    takes_waiting c.take_body.result c.args.ready.now c.take.new.self c.args.spool.now c.args.packer.now c.take_body.new.self
    (search rules) (search rules) (search rules) c.take_body.ensures.variant c.take_body.ensures.first c.take_body.ensures.open_body c.take_body.ensures.room
