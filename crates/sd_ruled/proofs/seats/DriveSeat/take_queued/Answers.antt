use Rattle.crossbeam_queue.specs.Passes.{view}
use Rattle.sd_ruled.proofs.Steps.{takes, learns}
use Rattle.sd_ruled.proofs.Views.{took_first, took_none}
use Rattle.sd_ruled.proofs.seats.DriveSeat.take_queued.Goals as goal

pub pop_as-requires-clause-rule : goal.pop_as-requires-clause-rule
pop_as-requires-clause-rule g c = (takes _ _ c.self.invariant.takes, learns _ _)

pub returns-clause-first : goal.returns-clause-first
returns-clause-first g c =
    took_first c.self.inside.pass.table_id c.pop_as.new.pass.table_id c.self.inside.lanes (view c.self.inside.pass) (view c.pop_as.new.pass) c.pop_as.result c.args.self.now
    c.self.view_is c.self.invariant.lanes c.pop_as.ensures.queue.0 c.pop_as.ensures.rule

pub returns-clause-was_empty : goal.returns-clause-was_empty
returns-clause-was_empty g c =
    took_none c.self.inside.pass.table_id c.self.inside.lanes (view c.self.inside.pass) (view c.pop_as.new.pass) c.pop_as.result c.args.self.now c.self.view_is c.self.invariant.takes c.pop_as.ensures.rule
