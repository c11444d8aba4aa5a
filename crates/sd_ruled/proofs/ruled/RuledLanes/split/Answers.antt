use Rattle.std.proofs.Common.{ap, ◌∙◌}
use Rattle.sd_ruled.specs.Seats.{RuledView}
use Rattle.sd_ruled.proofs.Joins.{cut_are, cut_length}
use Rattle.sd_ruled.proofs.ruled.RuledLanes.split.Goals as goal

pub returns-clause-count : goal.returns-clause-count
returns-clause-count g c = cut_length _ _ _ _ _ _ c.cut_seats.ensures.seats (ap (λ (v : RuledView). v.lanes) c.self.view_is)

pub returns-clause-are_seats : goal.returns-clause-are_seats
returns-clause-are_seats g c = cut_are c.self.inside.pass.table_id c.args.self.table c.self.inside.lanes c.self.inside.pass.me.0.client.before c.self.inside.lanes c.cut_seats.new.seats.items c.cut_seats.ensures.seats (c.self.invariant.here ∙ ap (λ (v : RuledView). v.table) c.self.view_is)
