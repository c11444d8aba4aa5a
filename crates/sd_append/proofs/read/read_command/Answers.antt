use Rattle.sd_append.proofs.CommandLemmas.{begins, told_found, told_bad_command}
use Rattle.sd_append.proofs.read.read_command.Goals as goal

pub returns-clause-found : goal.returns-clause-found
returns-clause-found c =
    told_found c.args.packet.now c.in-Some-kind_of.kind c.in-Some-kind_of.rest.now c.command_of.result
    (begins c.args.packet.now c.trimmed.result.now c.in-Some.line.now c.in-Some-kind_of.kind c.in-Some-kind_of.rest.now c.trimmed.ensures c.in-Some.ensures.found c.in-Some-kind_of.ensures.found)
    c.command_of.ensures

pub returns-clause-bad_command : goal.returns-clause-bad_command
returns-clause-bad_command c =
    told_bad_command c.args.packet.now c.in-Some-kind_of.kind c.in-Some-kind_of.rest.now c.command_of.result
    (begins c.args.packet.now c.trimmed.result.now c.in-Some.line.now c.in-Some-kind_of.kind c.in-Some-kind_of.rest.now c.trimmed.ensures c.in-Some.ensures.found c.in-Some-kind_of.ensures.found)
    c.command_of.ensures
