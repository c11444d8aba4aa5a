use Rattle.std.proofs.Common.{◌∙◌, rules}
use Rattle.sd_line.proofs.SeatLemmas.{lanes_new, seats_new}
use Rattle.sd_line.proofs.line.Line.new.Goals as goal

pub name_seats-requires-clause-named : goal.name_seats-requires-clause-named
name_seats-requires-clause-named g c = λ k seat is. (c.in-Ok-split.ensures.are_seats k seat is).0 ∙ c.requires.named.0

pub returns-clause-new : goal.returns-clause-new
returns-clause-new g c =
    seats_new c.args.no c.args.lanes.table c.args.lanes.lanes c.args.lanes.lanes c.name_seats.new.seats.items (search rules)

pub name_seats-requires-clause-unused : goal.name_seats-requires-clause-unused
name_seats-requires-clause-unused g c =
    lanes_new c.args.lanes.table c.args.lanes.lanes c.args.lanes.lanes c.in-Ok-split.split.lanes.items (search rules)
