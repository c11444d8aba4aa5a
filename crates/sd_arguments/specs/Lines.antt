-- The command lines of the programs, as the parser reads them.
use Rattle.std.specs.Prelude.{◌≡◌, ◌<◌, ◌^◌, ℕ, Bool, true, false, List, [], Option, Some, None, IsSome, codes, unwrap_or}
use Rattle.std.specs.Str.Parse.{IsNumeral, digits_value, without_leading_plus}
use Rattle.clap.specs.Words.{App, Row, Rule, Shape, Text, all_of, fault_of, first_of, new_rule, subcommand_of}
use Rattle.clap.specs.Simple.{new_shape}
use Rattle.clap.specs.declared.builder.ArgAction.TheVariants.{Set, SetTrue}

-- an argument that has to be given
abbrev pub required_rule : Text → Rule
required_rule name = record (new_rule name) { required = true }

-- a flag, `--name`
abbrev pub flag_rule : Text → Rule
flag_rule name = record (new_rule name) { long = Some name; action = Some SetTrue }

-- `--name FILE`: a word, if it is given
abbrev pub file_rule : Text → Rule
file_rule name = record (new_rule name) { long = Some name; action = Some Set; value_names = 1 }

-- a subcommand with these arguments
abbrev pub command_shape : Text → List Rule → Shape
command_shape name arguments = record (new_shape name) { rules = arguments }

-- A program with these subcommands. One of them has to be named; if no word is given, help is told.
abbrev pub program_line : Text → List Shape → App
program_line name commands = record {
  top = record (new_shape name) {
    is_leaf = false;
    has_version = true;
    arg_required_else_help = true;
    subcommand_required = true;
  };
  subs = commands;
}

-- Nothing is wrong with the words, and they name this subcommand. What they have for its arguments is `given`.
pub record NamesCommand (line : App) (words : List Text) (name : Text) (given : List Row) : Type 0 where
  pub faultless : fault_of line words ≡ []
  pub named : subcommand_of line words ≡ Some (name, given)

-- there is a word for the argument
abbrev pub IsGiven : Text → List Row → Type 0
IsGiven argument given = IsSome (first_of argument given)

-- the text spells a number of 32 bits
abbrev pub SpellsCount : Text → Type 0
SpellsCount text =
    IsNumeral 10 (without_leading_plus text) × (digits_value 10 (without_leading_plus text) < 2 ^ 32)

-- the number that the text spells, and 0 if there is no text or it spells none
abbrev pub IsCountOf : Option Text → ℕ → Type 0
IsCountOf None count = count ≡ 0
IsCountOf (Some text) count =
    (SpellsCount text → count ≡ digits_value 10 (without_leading_plus text)) × (¬ SpellsCount text → count ≡ 0)

-- whether a flag is given: its text is `true` if it is, and `false` if it isn't
abbrev pub IsFlagOf : Option Text → Bool → Type 0
IsFlagOf None is_given = is_given ≡ false
IsFlagOf (Some text) is_given =
    (text ≡ codes "true" → is_given ≡ true) × (text ≡ codes "false" → is_given ≡ false)

-- all words for an argument
abbrev pub texts_at : Text → List Row → List Text
texts_at argument given = unwrap_or (all_of argument given) []
