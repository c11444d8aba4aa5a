-- The order of names: numbers in them count as numbers.
use Rattle.std.specs.Prelude.{ℕ, ◌==◌, Bool, false, ◌||◌, if◌then◌else◌, List, [], ◌∷◌, ◌++◌}
use Rattle.std.specs.Char.{is_ascii_digit}
use Rattle.std.specs.Cmp.Lexicographic.{slice_cmp}
use Rattle.std.specs.List.{prefix_len}
use Rattle.std.specs.List.Sorted.{IsSortedByKey}
use Rattle.std.specs.Ordering.{nat_cmp}

-- how many digits a text begins with
abbrev pub digits_before : List ℕ → ℕ
digits_before = prefix_len is_ascii_digit

-- what comes in a key before the rest of a name: before a number a byte 0, which is less than any character, and the count
-- of its digits, so that a number of more digits is greater; nothing within a number, or before another character
abbrev pub mark : Bool → List ℕ → List ℕ
mark in_number text =
    if in_number || digits_before text == 0 then [] else 0 ∷ digits_before text ∷ []

-- the key of the rest of a name, in a number or not: its characters, with marks before its numbers
abbrev pub key_from : Bool → List ℕ → List ℕ
key_from in_number [] = []
key_from in_number (c ∷ text) = mark in_number (c ∷ text) ++ c ∷ key_from (is_ascii_digit c) text

-- what a name is sorted by
abbrev pub sort_key : List ℕ → List ℕ
sort_key name = key_from false name

-- each name's key is at least that of the name before it, as with words in a dictionary
abbrev pub InOrder : List (List ℕ) → Type 0
InOrder = IsSortedByKey sort_key (slice_cmp nat_cmp)
