use Rattle.std.proofs.Common.{sym}
use Rattle.sd_tests.proofs.RefLemmas.{none_sent_there, sent_there}
use Rattle.sd_tests.proofs.seats.push_by_seat.Goals as goal

pub returns-clause-sent : goal.returns-clause-sent
returns-clause-sent g c = λ yes.
    let lane = c.lane-lane.result in
    let sent = c.push_by.ensures.sent yes in
    (sent.0, sent_there lane c.args.seat.now c.push_by.new.end.seat.now _ sent.0 c.lane-lane.ensures (c.push_by.ensures.opens lane c.lane-lane.ensures) (c.seat-1.given.1 (sym c.push_by.ensures.place)) (sent.1 lane))

pub returns-clause-not_sent : goal.returns-clause-not_sent
returns-clause-not_sent g c = λ no.
    let lane = c.lane-lane.result in
    none_sent_there lane c.args.seat.now c.push_by.new.end.seat.now _ c.lane-lane.ensures (c.push_by.ensures.opens lane c.lane-lane.ensures) (c.seat-1.given.1 (sym c.push_by.ensures.place)) (c.push_by.ensures.not_sent no lane)
