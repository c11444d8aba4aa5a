use Rattle.sd_core.proofs.Tickets.{on_ok_both, running_more, holder_listed, holder_over}
use Rattle.std.proofs.Common.{inr}
use Rattle.sd_core.proofs.listing.list_holder.Goals as goal

pub returns-then-not-goes_on-clause-lists : goal.returns-then-not-goes_on-clause-lists
returns-then-not-goes_on-clause-lists g c =
    holder_over c.args.sessions.now c.args.holder c.in-Some.ticket c.goes_on.result c.args.tickets.now.items c.in-Some.is c.goes_on.ensures c.if-not-goes_on.true

pub returns-clause-running : goal.returns-clause-running
returns-clause-running g c =
    on_ok_both c.list_ticket.result
    (λ rise listed. running_more c.args.sessions.now c.args.tickets.now.items c.list_ticket.new.tickets.items c.in-Some.ticket c.requires.running
    (c.goes_on.ensures.0 c.if-not-goes_on.false) rise listed)
    c.list_ticket.ensures.rise c.list_ticket.ensures.listed

pub returns-clause-stay : goal.returns-clause-stay
returns-clause-stay g c = on_ok_both c.list_ticket.result (λ rise listed t there. (listed t).1 (inr there)) c.list_ticket.ensures.rise c.list_ticket.ensures.listed

pub returns-clause-lists : goal.returns-clause-lists
returns-clause-lists g c =
    on_ok_both c.list_ticket.result
    (λ rise listed. holder_listed c.args.sessions.now c.args.holder c.in-Some.ticket c.args.tickets.now.items c.list_ticket.new.tickets.items c.in-Some.is listed)
    c.list_ticket.ensures.rise c.list_ticket.ensures.listed
