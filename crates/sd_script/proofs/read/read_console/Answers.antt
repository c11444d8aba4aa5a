use Rattle.std.proofs.Common.{refl, Err}
use Rattle.sd_script.proofs.LineLemmas.{console_told, fault_told, told_console}
use Rattle.sd_script.proofs.read.read_console.Goals as goal

pub returns-in-Ok : goal.returns-in-Ok
returns-in-Ok c =
    let told = told_console c.args.bytes.now c.console_of.result
    (console_told c.args.bytes.now c.in-Ok.line c.console_of.result (c.if-not-begins_as_console.ensures.yes refl) c.in-Ok.ensures.ok c.console_of.ensures) in
    record { ok = told.ok; found = told.found; bad_name = told.bad_name; bad_command = told.bad_command }

pub returns-in-Err : goal.returns-in-Err
returns-in-Err c =
    let told = told_console c.args.bytes.now (Err c.in-Err.fault)
    (fault_told c.args.bytes.now c.read_line.result c.in-Err.fault (c.if-not-begins_as_console.ensures.yes refl) c.read_line.ensures.bad_name c.read_line.ensures.bad_command c.in-Err.is) in
    record { ok = told.ok; found = told.found; bad_name = told.bad_name; bad_command = told.bad_command }
