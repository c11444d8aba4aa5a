use Rattle.std.proofs.Common.{refl, None}
use Rattle.sd_collect.proofs.CollectLemmas.{goes_over}
use Rattle.sd_collect.proofs.collector.Collector.cut.Goals as goal

pub returns-clause-goes_on : goal.returns-clause-goes_on
returns-clause-goes_on c = goes_over c.args.self.now (record c.args.self.now { due = None }) refl
