use Rattle.std.proofs.Common.{Err, Ok}
use Rattle.sd_script.specs.declared.line.ScriptLine.TheVariants.{Empty}
use Rattle.sd_script.specs.declared.line.LineFault.TheVariants.{BadCommand}
use Rattle.sd_script.proofs.LineLemmas.{empty_told, no_command_told, line_told, told_of}
use Rattle.sd_script.proofs.read.read_line.Goals as goal

pub returns-then-is_empty : goal.returns-then-is_empty
returns-then-is_empty c =
    let told = told_of c.args.part c.args.bytes.now (Ok Empty) (empty_told c.args.part c.args.bytes.now c.if-is_empty.ensures) in
    record { ok = told.ok; found = told.found; bad_name = told.bad_name; bad_command = told.bad_command }

pub returns-in_default-first_command : goal.returns-in_default-first_command
returns-in_default-first_command c =
    let told = told_of c.args.part c.args.bytes.now (Err BadCommand)
    (no_command_told c.args.part c.args.bytes.now c.in-Some.line.now c.new-words.result c.if-is_empty.ensures c.in-Some.ensures.found.0 c.new-words.ensures c.in_default-first_command.ensures.none) in
    record { ok = told.ok; found = told.found; bad_name = told.bad_name; bad_command = told.bad_command }

pub returns : goal.returns
returns c =
    let told = told_of c.args.part c.args.bytes.now c.line_of.result
    (line_told c.args.part c.args.bytes.now c.in-Some.line.now c.new-words.result c.in-Some-first_command.command c.first_command.new.words c.line_of.result
    c.if-is_empty.ensures c.in-Some.ensures.found c.new-words.ensures c.in-Some-first_command.ensures.found c.line_of.ensures) in
    record { ok = told.ok; found = told.found; bad_name = told.bad_name; bad_command = told.bad_command }
