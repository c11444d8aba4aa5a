use Rattle.std.proofs.Common.{sym, ◌∙◌}
use Rattle.sd_script.proofs.LineLemmas.{no_console, kind_yes, kind_no}
use Rattle.sd_script.proofs.read.begins_as_console.Goals as goal

pub returns-in-None-clause-no : goal.returns-in-None-clause-no
returns-in-None-clause-no c =
    λ command has. absurd (no_console c.args.bytes.now c.in-Some.line.now c.new-words.result c.in-Some.ensures.found.0 c.new-words.ensures c.in-None.ensures.none command has)

pub returns-in-Some-first_command-clause-yes : goal.returns-in-Some-first_command-clause-yes
returns-in-Some-first_command-clause-yes c = λ own l has there.
    kind_yes c.args.bytes.now c.in-Some.line.now c.new-words.result c.in-Some-first_command.command c.first_command.new.words c.in-Some.ensures.found.0 c.new-words.ensures
    c.in-Some-first_command.ensures.found (sym c.is_console.ensures ∙ own) l has there

pub returns-in-Some-first_command-clause-no : goal.returns-in-Some-first_command-clause-no
returns-in-Some-first_command-clause-no c = λ command has.
    c.is_console.ensures
    ∙ kind_no c.args.bytes.now c.in-Some.line.now c.new-words.result c.in-Some-first_command.command c.first_command.new.words c.in-Some.ensures.found.0 c.new-words.ensures
    c.in-Some-first_command.ensures.found command has
