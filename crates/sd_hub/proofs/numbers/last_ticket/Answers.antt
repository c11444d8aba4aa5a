use Rattle.sd_hub.proofs.Lasts.{ticket_is}
use Rattle.sd_hub.proofs.numbers.last_ticket.Goals as goal

pub returns-in-Some : goal.returns-in-Some
returns-in-Some g c =
    ticket_is c.args.sessions.now c.in-Some.last.now c.in-Some.ensures.value c.number.result c.new.result c.number.ensures c.requires c.new.ensures.within.1 c.new.ensures.value
