use Rattle.std.proofs.Common.{sym, ◌∙◌}
use Rattle.sd_append.proofs.TakeLemmas.{one_line-ascii}
use Rattle.sd_append.proofs.take.one_line.Goals as goal

pub returns-in-None-clause-none : goal.returns-in-None-clause-none
returns-in-None-clause-none c = absurd (c.in-None.ensures.none (one_line-ascii c.args.bytes.now (sym c.is_one_line.ensures ∙ c.if-not-is_one_line.false)))
