-- What a command line of `sdtool` asks for.
use Rattle.std.specs.Prelude.{◌≡◌, ◌⊎◌, Bool, List, [], ◌∷◌, Some, codes, map, option_map}
use Rattle.clap.specs.Lexer.{usize_max}
use Rattle.clap.specs.Words.{App, IsAmong, Row, Rule, Shape, Text, fault_of, first_of, kind_of, new_rule, one_of}
use Rattle.clap.specs.declared.builder.ArgAction.TheVariants.{Append}
use Rattle.sd_arguments.specs.Lines.{IsFlagOf, IsGiven, NamesCommand, command_shape, file_rule, flag_rule, program_line, required_rule, texts_at}
use Rattle.sd_arguments.specs.declared.tool.ToolTask.{ToolTask}
use Rattle.sd_arguments.specs.declared.tool.ToolTask.TheVariants as asks

-- `[VOLUME]..`: any number of volumes
abbrev pub volumes_rule : Rule
volumes_rule = record (new_rule (codes "VOLUMES")) {
  action = Some Append;
  range = Some (record { start_inclusive = 0; end_inclusive = usize_max });
  value_names = 1;
}

-- `ls VOLUME [--progress]`
abbrev pub list_shape : Shape
list_shape = command_shape (codes "ls") (required_rule (codes "VOLUME") ∷ flag_rule (codes "progress") ∷ [])

-- `SPANS FOLDER [--progress]`
abbrev pub session_rules : List Rule
session_rules = required_rule (codes "SPANS") ∷ required_rule (codes "FOLDER") ∷ flag_rule (codes "progress") ∷ []

-- `read SPANS FOLDER [--progress]`
abbrev pub read_shape : Shape
read_shape = command_shape (codes "read") session_rules

-- `salvage SPANS FOLDER [--progress]`
abbrev pub salvage_shape : Shape
salvage_shape = command_shape (codes "salvage") session_rules

-- `scan FOLDER [VOLUME].. [--write TEXTS] [--progress]`
abbrev pub scan_shape : Shape
scan_shape =
    command_shape (codes "scan") (required_rule (codes "FOLDER") ∷ volumes_rule ∷ file_rule (codes "write") ∷ flag_rule (codes "progress") ∷ [])

-- `verify FOLDER [--expect FILE] [--json]`
abbrev pub verify_shape : Shape
verify_shape =
    command_shape (codes "verify") (required_rule (codes "FOLDER") ∷ file_rule (codes "expect") ∷ flag_rule (codes "json") ∷ [])

-- the command line of the tool
unfoldable pub tool_line : App
tool_line = program_line (codes "sdtool")
    (command_shape (codes "run") [] ∷ list_shape ∷ read_shape ∷ salvage_shape ∷ scan_shape ∷ verify_shape ∷ [])

-- one of the tool's subcommands
abbrev pub IsToolCommand : Text → Type 0
IsToolCommand name = (name ≡ codes "run") ⊎ ((name ≡ codes "ls") ⊎ ((name ≡ codes "read")
    ⊎ ((name ≡ codes "salvage") ⊎ ((name ≡ codes "scan") ⊎ (name ≡ codes "verify")))))

-- the words that this subcommand requires are there
pub record HasItsWords (name : Text) (given : List Row) : Type 0 where
  pub ls : name ≡ codes "ls" → IsGiven (codes "VOLUME") given
  pub read : name ≡ codes "read" → IsGiven (codes "SPANS") given × IsGiven (codes "FOLDER") given
  pub salvage : name ≡ codes "salvage" → IsGiven (codes "SPANS") given × IsGiven (codes "FOLDER") given
  pub scan : name ≡ codes "scan" → IsGiven (codes "FOLDER") given
  pub verify : name ≡ codes "verify" → IsGiven (codes "FOLDER") given

-- whether a reading is told of: `--progress` is given
abbrev pub IsProgress : List Row → Bool → Type 0
IsProgress given told = IsFlagOf (one_of (codes "progress") given) told

-- the task that this subcommand stands for, with the words for its arguments
abbrev pub IsToolTask : Text → List Row → ToolTask → Type 0
IsToolTask name given asks.Run = name ≡ codes "run"
IsToolTask name given (asks.List volume told) =
    (name ≡ codes "ls") × (first_of (codes "VOLUME") given ≡ Some volume.now) × IsProgress given told
IsToolTask name given (asks.Read spans folder told) =
    (name ≡ codes "read") × (first_of (codes "SPANS") given ≡ Some spans.now) × (first_of (codes "FOLDER") given ≡ Some folder.now)
    × IsProgress given told
IsToolTask name given (asks.Salvage spans folder told) =
    (name ≡ codes "salvage") × (first_of (codes "SPANS") given ≡ Some spans.now) × (first_of (codes "FOLDER") given ≡ Some folder.now)
    × IsProgress given told
IsToolTask name given (asks.Scan folder volumes texts told) =
    (name ≡ codes "scan") × (first_of (codes "FOLDER") given ≡ Some folder.now)
    × (map (λ v. v.now) volumes.items ≡ texts_at (codes "VOLUMES") given)
    × (option_map (λ w. w.now) texts ≡ first_of (codes "write") given) × IsProgress given told
IsToolTask name given (asks.Verify folder expected json) =
    (name ≡ codes "verify") × (first_of (codes "FOLDER") given ≡ Some folder.now)
    × (option_map (λ w. w.now) expected ≡ first_of (codes "expect") given) × IsFlagOf (one_of (codes "json") given) json
IsToolTask name given (asks.Print told) = ⊥
IsToolTask name given asks.NoMemory = ⊥

-- What the words ask for: if nothing is wrong with them, the task of the subcommand that they name; else one of the
-- causes that they give is told. There may be no memory to read any words.
abbrev pub AsksTool : List Text → ToolTask → Type 0
AsksTool words (asks.Print told) = IsAmong (kind_of told) (fault_of tool_line words)
AsksTool words asks.NoMemory = Unit {0}
AsksTool words task =
    (name : Text) × (given : List Row) × NamesCommand tool_line words name given × IsToolTask name given task
