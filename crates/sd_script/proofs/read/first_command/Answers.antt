use Rattle.sd_text.proofs.ReadingLemmas.{no_word}
use Rattle.sd_script.proofs.AgainLemmas.{command_read, no_command}
use Rattle.sd_script.proofs.CommandLemmas.{command-some}
use Rattle.sd_script.specs.Command.{command_text}
use Rattle.sd_script.proofs.read.first_command.Goals as goal

pub returns-in_default-clause-none : goal.returns-in_default-clause-none
returns-in_default-clause-none c k rest e there =
    no_word c.args.words.now (command_text k) rest c.in_default.ensures e (command-some k)

pub returns-clause-found : goal.returns-clause-found
returns-clause-found c =
    command_read c.args.part c.args.words.now c.in-Ok.word.now c.word.new.self c.command_of.result c.in-Ok.ensures c.command_of.ensures.found

pub returns-clause-none : goal.returns-clause-none
returns-clause-none c =
    no_command c.args.part c.args.words.now c.in-Ok.word.now c.word.new.self c.command_of.result c.in-Ok.ensures c.command_of.ensures.none
