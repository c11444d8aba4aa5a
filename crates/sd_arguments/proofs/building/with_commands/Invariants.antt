use Rattle.std.proofs.Common.{◌≡◌, ◌++◌, length}
use Rattle.std.specs.Vec.Iter.{into_iter_items, into_iter_len}
use Rattle.clap.specs.Built.{AddsInTurn}
use Rattle.sd_arguments.specs.Building.{AddsMade}
use Rattle.sd_arguments.proofs.building.with_commands.Given as goal

abbrev pub invariant-loop-command : goal.invariant-loop-command
invariant-loop-command l = (l.yielded ++ into_iter_items l.command-iterator ≡ into_iter_items l.initial.command-iterator)
    × AddsInTurn AddsMade l.initial.program l.yielded l.program
    × (into_iter_len l.command-iterator ≡ length (into_iter_items l.command-iterator))
