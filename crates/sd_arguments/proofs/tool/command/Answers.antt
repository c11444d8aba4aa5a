use Rattle.std.proofs.Common.{subst, [], ◌∷◌, Ok, codes}
use Rattle.std.proofs.lemmas.Result.{IfOk-weaker}
use Rattle.clap.specs.Built.{AddsInTurn}
use Rattle.sd_arguments.specs.Building.{AddsMade, program_alone}
use Rattle.sd_arguments.specs.Lines.{command_shape}
use Rattle.sd_arguments.specs.Tool.{list_shape, read_shape, salvage_shape, scan_shape, tool_line, verify_shape}
use Rattle.sd_arguments.proofs.BuildingLemmas.{versioned, with_all, with_version}
use Rattle.sd_arguments.proofs.tool.command.Goals as goal

pub returns : goal.returns
unfolding tool_line
returns c = IfOk-weaker c.with_commands.result _ _ (λ r h.
    with_all (with_version (program_alone (codes "sdtool"))) c.version-program.result r
    (Ok c.run_command.result ∷ c.list_command.result ∷ c.read_command.result ∷ c.salvage_command.result ∷ c.scan_command.result ∷ c.verify_command.result ∷ [])
    (command_shape (codes "run") [] ∷ list_shape ∷ read_shape ∷ salvage_shape ∷ scan_shape ∷ verify_shape ∷ [])
    (subst (λ made. AddsInTurn AddsMade c.version-program.result made r) c.in_ok-commands.ensures.items h) (
      c.run_command.ensures.shape,
      c.run_command.ensures.local,
      (
        c.list_command.ensures.shape,
        c.list_command.ensures.local,
        (
          c.read_command.ensures.shape,
          c.read_command.ensures.local,
          (
            c.salvage_command.ensures.shape,
            c.salvage_command.ensures.local,
            (
              c.scan_command.ensures.shape,
              c.scan_command.ensures.local,
              (c.verify_command.ensures.shape, c.verify_command.ensures.local, tt),
            ),
          ),
        ),
      ),
    )
    (versioned c.program.result c.version-program.result (program_alone (codes "sdtool")) _ c.program.ensures c.version-program.ensures)) c.with_commands.ensures
