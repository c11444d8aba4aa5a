use Rattle.sd_lines.proofs.HeldLemmas.{gone_by, gone_runs_not}
use Rattle.sd_lines.proofs.held.end_now.Goals as goal

pub leave-requires-after_bounds : goal.leave-requires-after_bounds
leave-requires-after_bounds g c κs within =
    gone_runs_not c.args.live c.cancel.new.self (gone_by c.args.live c.cancel.new.self c.cancel.result c.requires c.cancel.ensures.same c.cancel.ensures.ok c.cancel.ensures.why)

pub returns : goal.returns
returns g c = rw c.leave.ensures (gone_by c.args.live c.cancel.new.self c.cancel.result c.requires c.cancel.ensures.same c.cancel.ensures.ok c.cancel.ensures.why)
