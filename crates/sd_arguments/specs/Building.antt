-- How the command lines of both programs are built.
use Rattle.std.specs.Prelude.{◌≡◌, true, false, List, [], ◌∷◌, Result, IsOkAnd}
use Rattle.clap.specs.Built.{AddsSubcommand}
use Rattle.clap.specs.Simple.{App, new_shape}
use Rattle.clap.specs.Walk.{Text}
use Rattle.clap.specs.declared.builder.arg.Arg.{Arg}
use Rattle.clap.specs.declared.builder.command.Command.{Command}

-- none of the arguments is one of the subcommands' too
abbrev pub AreLocal : List Arg → Type 0
AreLocal [] = Unit {0}
AreLocal (x ∷ rest) = (x.global ≡ false) × AreLocal rest

-- a program that has no version and no subcommands yet
abbrev pub program_alone : Text → App
program_alone name = record {
  top = record (new_shape name) { arg_required_else_help = true; subcommand_required = true };
  subs = [];
}

-- the subcommand was made, and `new` is `old` with it as the last
abbrev pub AddsMade : {E : Type 0} → Command → Result Command E → Command → Type 0
AddsMade old made new = IsOkAnd made (λ sub. AddsSubcommand old sub new)
