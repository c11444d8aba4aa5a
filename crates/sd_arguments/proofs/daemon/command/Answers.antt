use Rattle.std.proofs.Common.{subst, [], ◌∷◌, Ok, codes}
use Rattle.std.proofs.lemmas.Result.{IfOk-weaker}
use Rattle.clap.specs.Built.{AddsInTurn}
use Rattle.sd_arguments.specs.Building.{AddsMade, program_alone}
use Rattle.sd_arguments.specs.Daemon.{daemon_line, serve_shape}
use Rattle.sd_arguments.specs.Lines.{command_shape}
use Rattle.sd_arguments.proofs.BuildingLemmas.{versioned, with_all, with_version}
use Rattle.sd_arguments.proofs.daemon.command.Goals as goal

pub returns : goal.returns
unfolding daemon_line
returns c = IfOk-weaker c.with_commands.result _ _ (λ r h.
    with_all (with_version (program_alone (codes "sdd"))) c.version-program.result r (Ok c.check_command.result ∷ c.serve_command.result ∷ [])
    (command_shape (codes "check") [] ∷ serve_shape ∷ [])
    (subst (λ made. AddsInTurn AddsMade c.version-program.result made r) c.in_ok-commands.ensures.items h)
    (c.check_command.ensures.shape, c.check_command.ensures.local, (c.serve_command.ensures.shape, c.serve_command.ensures.local, tt))
    (versioned c.program.result c.version-program.result (program_alone (codes "sdd")) _ c.program.ensures c.version-program.ensures)) c.with_commands.ensures
