use Rattle.std.proofs.Common.{slice_index_or}
use Rattle.sd_daemon.specs.Adopting.{AdoptsPlanned, KeepsSetup}
use Rattle.sd_daemon.proofs.StartLemmas.{moved}
use Rattle.sd_daemon.proofs.adopting.adopt_planned.Goals as goal

pub returns-then-load-eq0 : goal.returns-then-load-eq0
returns-then-load-eq0 g c = λ at u lt. let made = (c.for_each_mut.ensures at u lt).1 in
    moved (λ x y. KeepsSetup x y × AdoptsPlanned at c.args.planned.now x y) made.argument.now (slice_index_or c.args.drives.now at u)
    made.after_call.now (slice_index_or c.for_each_mut.new.s at u) made.argument_is made.left made.call

pub returns : goal.returns
returns g c = λ at u lt. let made = (c.for_each_mut.ensures at u lt).1 in
    moved (λ x y. KeepsSetup x y × AdoptsPlanned at c.args.planned.now x y) made.argument.now (slice_index_or c.args.drives.now at u)
    made.after_call.now (slice_index_or c.for_each_mut.new.s at u) made.argument_is made.left made.call
