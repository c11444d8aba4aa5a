use Rattle.sd_append.proofs.CommandLemmas.{no_kind}
use Rattle.sd_append.proofs.read.kind_of.Goals as goal

pub returns-in-None-clause-none : goal.returns-in-None-clause-none
returns-in-None-clause-none c =
    no_kind c.args.line.now c.in_default.ensures.cases c.in_default-strip_prefix.ensures.cases c.in_default-strip_prefix-2.ensures.cases
    c.in_default-strip_prefix-3.ensures.cases c.in_default-strip_prefix-4.ensures.cases c.in-None.ensures.cases
