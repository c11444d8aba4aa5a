-- How the fields of a line are read, one after another.
use Rattle.std.specs.Prelude.{◌≡◌, ◌≢◌, slice_index, ℕ, ◌&&◌, nat_le, nat_lt, Bool, if◌then◌else◌, List, [], ◌∷◌, length, Option, Some, None, Result, MatchResult}
use Rattle.std.specs.Fmt.{decimal}
use Rattle.std.specs.Str.{bytes_eq}
use Rattle.std.specs.Str.Parse.{digits_value}
use Rattle.sd_text.specs.declared.words.BadField.{BadField}
use Rattle.sd_text.specs.Fields.{Fields}

infixl 10 ◌>>=◌
-- what is made of a value, if there is one
abbrev pub ◌>>=◌ : {A B : Type 0} → Option A → (A → Option B) → Option B
None >>= f = None
(Some x) >>= f = f x

-- the word is the decimal text of a number within these limits
abbrev pub is_number : ℕ → ℕ → List ℕ → Bool
is_number least most word =
    bytes_eq (decimal (digits_value 10 word)) word && nat_le least (digits_value 10 word)
    && nat_le (digits_value 10 word) most

-- it begins with no plus, and with a zero only if that is all
abbrev pub IsPlain : List ℕ → Type 0
IsPlain word = (slice_index word 0 ≢ 43) × (slice_index word 0 ≡ 48 → length word ≡ 1)

-- the number within these limits whose decimal text the word is
unfoldable pub number_in : ℕ → ℕ → List ℕ → Option ℕ
number_in least most word =
    if is_number least most word then Some (digits_value 10 word) else None

-- the next field, if it is such a number
unfoldable pub number_at : ℕ → ℕ → Fields → Option (ℕ × Fields)
number_at least most [] = None
number_at least most (word ∷ fs) = number_in least most word >>= λ n. Some (n, fs)

-- the next field, unless it is empty
unfoldable pub word_at : Fields → Option (List ℕ × Fields)
word_at [] = None
word_at (word ∷ fs) = if nat_lt 0 (length word) then Some (word, fs) else None

-- this value, unless a field is left
abbrev pub all_read : {A : Type 0} → A → Fields → Option A
all_read x [] = Some x
all_read x (word ∷ fs) = None

-- a number that is the only field
unfoldable pub only_number : ℕ → ℕ → Fields → Option ℕ
only_number least most fs = number_at least most fs >>= λ n. all_read n.0 n.1

-- what a step read, and the fields after it; or an error, if there is nothing to read
abbrev pub ReadsFirst : {X Y : Type 0} → (X → Y) → Result X BadField → Fields → Option (Y × Fields)
    → Type 0
ReadsFirst view result rest read =
    MatchResult result (λ x. read ≡ Some (view x, rest)) (λ e. read ≡ None)

-- what a step that reads all fields read; or an error, if there is nothing to read
abbrev pub ReadsAll : {X Y : Type 0} → (X → Y) → Result X BadField → Option Y → Type 0
ReadsAll view result read =
    MatchResult result (λ x. read ≡ Some (view x)) (λ e. read ≡ None)
