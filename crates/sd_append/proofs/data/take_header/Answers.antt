use Rattle.sd_append.proofs.TalkLemmas.{header_drops}
use Rattle.sd_append.proofs.data.take_header.Goals as goal

pub returns-in-None-clause-asked : goal.returns-in-None-clause-asked
returns-in-None-clause-asked g c =
    header_drops c.args.own c.give_up.result c.args.bytes.now (g.P.SessionPort.asked c.args.port.now) (g.P.SessionPort.asked c.give_up.new.port)
    (λ header has. absurd (cc (c.in-None.ensures.found header has))) c.give_up.ensures.asked
