-- The text of a packet, and numbers in it.
use Rattle.std.specs.Prelude.{◌≡◌, ℕ, ◌<◌, ◌==◌, ◌||◌, Bool, if◌then◌else◌, List, [], ◌∷◌, length, slice_index, All, IsTrue}
use Rattle.std.specs.Char.{is_ascii_digit}

-- a newline or a zero byte
abbrev pub is_end : ℕ → Bool
is_end byte = byte == 10 || byte == 0

-- the bytes without the newline or the zero byte that may end them
abbrev pub trimmed : List ℕ → List ℕ
trimmed [] = []
trimmed (c ∷ []) = if is_end c then [] else c ∷ []
trimmed (c ∷ d ∷ cs) = c ∷ trimmed (d ∷ cs)

-- a digit
abbrev pub IsDigit : ℕ → Type 0
IsDigit c = IsTrue (is_ascii_digit c)

-- a number in decimal: one digit or more, and no zero before others
abbrev pub IsDecimal : List ℕ → Type 0
IsDecimal text =
    (0 < length text) × All IsDigit text × (slice_index text 0 ≡ 48 → length text ≡ 1)
