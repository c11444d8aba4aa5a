-- The values at keys: what they say, and what may be wrong with one.
use Rattle.std.specs.Prelude.{ℕ, ℤ, pos, negsuc, Bool, false, ◌&&◌, ◌||◌, nat_le, if◌then◌else◌, List, [], ◌∷◌, length, Option, Some, None, option_map, option_and_then, unwrap_or}
use Rattle.toml.specs.Data.{Data, Items, no_items, item, Members, as_integer, as_str, as_array, as_table}
use Rattle.sd_base.specs.Limits.{most_volume, most_drives}
use Rattle.sd_conf.specs.declared.fault.FaultKind.{FaultKind}
use Rattle.sd_conf.specs.declared.fault.FaultKind.TheVariants.{Missing, Kind, Range}

-- what is wrong at a key that is required: it is missing, or what is wrong with its value
abbrev pub required : (Data → Option FaultKind) → Option Data → Option FaultKind
required wrong None = Some Missing
required wrong (Some value) = wrong value

-- what is wrong at a key that may be missing
abbrev pub optional : (Data → Option FaultKind) → Option Data → Option FaultKind
optional wrong None = None
optional wrong (Some value) = wrong value

-- Numbers.

-- the integer is within these limits
abbrev pub is_within : ℕ → ℕ → ℤ → Bool
is_within least most (pos n) = nat_le least n && nat_le n most
is_within least most (negsuc n) = false

-- it is a spool limit beside this block limit: 0 for no spooling, or room for a block
abbrev pub is_spool_limit : ℕ → ℤ → Bool
is_spool_limit block z = is_within 0 0 z || is_within block most_volume z

-- what is wrong with an integer, or with what is none
abbrev pub integer_fault : (ℤ → Bool) → Option ℤ → Option FaultKind
integer_fault is_good None = Some Kind
integer_fault is_good (Some z) = if is_good z then None else Some Range

-- what is wrong with a value that is to be an integer
abbrev pub number_fault : (ℤ → Bool) → Data → Option FaultKind
number_fault is_good value = integer_fault is_good (as_integer value)

-- an integer from 0 on; else this number
abbrev pub natural_or : ℕ → Option ℤ → ℕ
natural_or default (Some (pos n)) = n
natural_or default _ = default

-- the number at a key, or this one if the key is missing
abbrev pub number_or : ℕ → Option Data → ℕ
number_or default value = natural_or default (option_and_then as_integer value)

-- Texts.

-- nothing is wrong if there is a text
abbrev pub kind_unless : Option (List ℕ) → Option FaultKind
kind_unless None = Some Kind
kind_unless (Some text) = None

-- what is wrong with a value that is to be a text
abbrev pub text_fault : Data → Option FaultKind
text_fault value = kind_unless (as_str value)

-- the text at a key, if it has one
abbrev pub text_at : Option Data → Option (List ℕ)
text_at value = option_and_then as_str value

-- The tables of drives.

-- the tables that the items are, if each is one
abbrev pub tables_of : Items → Option (List Members)
tables_of no_items = Some []
tables_of (item value more) =
    option_and_then (λ table. option_map (λ others. table ∷ others) (tables_of more))
    (as_table value)

-- the tables of a value, if it is an array of such
abbrev pub tables_in : Data → Option (List Members)
tables_in value = option_and_then tables_of (as_array value)

-- what is wrong with how many tables there are, or with what is no array of tables
abbrev pub count_fault : Option (List Members) → Option FaultKind
count_fault None = Some Kind
count_fault (Some []) = Some Missing
count_fault (Some (table ∷ more)) =
    if nat_le (length (table ∷ more)) most_drives then None else Some Range

-- what is wrong with a value that is to be the array of the drives' tables
abbrev pub drives_fault : Data → Option FaultKind
drives_fault value = count_fault (tables_in value)

-- the tables at the key of drives
abbrev pub tables_at : Option Data → List Members
tables_at value = unwrap_or (option_and_then tables_in value) []
