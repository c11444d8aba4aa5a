-- Where in its text a configuration is at fault.
use Rattle.std.specs.Prelude.{◌≡◌, ◌⊎◌, ◌≤◌, ℕ, ◌+◌, List, ◌∷◌, ◌++◌, length, take, count_by, Option, Some, None, codes}
use Rattle.std.specs.Fmt.{decimal}
use Rattle.std.specs.Str.{IsValidUpTo}
use Rattle.toml.specs.Data.{Members, get_member}
use Rattle.toml.specs.Parse.{parse_document}
use Rattle.sd_text.specs.Lines.{line, is_newline}
use Rattle.sd_conf.specs.FirstFault.{Fault, OwnFault, DriveTest, DriveFault, TablesFault}
use Rattle.sd_conf.specs.Values.{tables_at}
use Rattle.sd_conf.specs.declared.place.Place.{Place}
use Rattle.sd_conf.specs.declared.place.Place.TheVariants.{Line, Drive}

-- the line of a place in a text: one more than there are newlines before it
abbrev pub line_number : List ℕ → ℕ → ℕ
line_number text at = count_by is_newline (take at text) + 1

-- the text is refused at this line: at its first byte that is no UTF-8, or, as no TOML, at some place in it
abbrev pub IsRefusedAt : List ℕ → ℕ → Type 0
IsRefusedAt text number =
    (at : ℕ) × (number ≡ line_number text at)
    × (IsValidUpTo text at ⊎ ((parse_document text ≡ None) × (at ≤ length text)))

-- of the tables that of this number, from 1, is the first with a fault
pub record IsFaultyTable (tables : List Members) (number : ℕ) : Type 0 where
  pub before : List Members
  pub table : Members
  pub behind : List Members
  pub parts : tables ≡ before ++ table ∷ behind
  pub number_is : number ≡ length before + 1
  pub sound : TablesFault before None
  pub fault : Fault
  pub faulty : DriveFault table (Some fault)

-- nothing is wrong with the configuration's own keys, and of its drives' tables this is the first with a fault
pub record IsOfDrive (table : Members) (number : ℕ) : Type 0 where
  pub own : OwnFault table None
  pub drives : DriveTest table None
  pub first : IsFaultyTable (tables_at (get_member (codes "drive") table)) number

-- this is where the text is at fault
abbrev pub IsPlaceIn : List ℕ → Place → Type 0
IsPlaceIn text (Line number) = IsRefusedAt text number
IsPlaceIn text (Drive number) =
    (table : Members) × (parse_document text ≡ Some table) × IsOfDrive table number

-- a place without its newline
abbrev pub place_text : Place → List ℕ
place_text (Line number) = codes "the text is no TOML at line " ++ decimal number
place_text (Drive number) = codes "the key is in the table of drive " ++ decimal number

-- the line of a place, if there is one
abbrev pub place_lines : Option Place → List ℕ
place_lines None = codes ""
place_lines (Some place) = line (place_text place)
