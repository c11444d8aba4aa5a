use Rattle.std.proofs.Common.{arith}
use Rattle.sd_jobs.proofs.EndLemmas.{given_up}
use Rattle.sd_line.proofs.GoLemmas.{gives_up}
use Rattle.sd_jobs.proofs.running.give_up.Goals as goal

pub returns : goal.returns
returns g c =
    let q = c.cancel.new.self in
    let both = gives_up c.job.inside.part q c.cancel.result c.cancel.ensures.same c.cancel.ensures.ok c.cancel.ensures.why c.cancel.ensures.err in
    rw (← c.job.view_is) (rw c.end.ensures (given_up _ q (omega arith) both.0 both.1))
