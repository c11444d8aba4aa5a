use Rattle.sd_script.proofs.CommandLemmas.{head_of_other}
use Rattle.sd_script.proofs.command.command_of.Goals as goal

pub returns-in-None-clause-found : goal.returns-in-None-clause-found
returns-in-None-clause-found c =
    rw c.in-Head.is (head_of_other c.args.word.now c.other_of.result c.in-None.ensures.none c.other_of.ensures.found)
