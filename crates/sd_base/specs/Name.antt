-- Names of volumes, pools and media types.
use Rattle.std.specs.Prelude.{◌≢◌, ℕ, ◌≤◌, ◌<◌, Bool, ◌||◌, ◌==◌, List, [], ◌∷◌, length, All, IsTrue}
use Rattle.std.specs.Char.{is_ascii_alphanumeric}
use Rattle.sd_base.specs.Limits.{most_name}

-- a letter, a digit, or one of - _ : .
abbrev pub is_name_char : ℕ → Bool
is_name_char c = is_ascii_alphanumeric c || c == 45 || c == 95 || c == 58 || c == 46

-- 1 to 127 such characters, and neither . nor ..
abbrev pub IsName : List ℕ → Type 0
IsName text =
    (0 < length text) × (length text ≤ most_name)
    × All (λ c. IsTrue (is_name_char c)) text × (text ≢ 46 ∷ []) × (text ≢ 46 ∷ 46 ∷ [])
