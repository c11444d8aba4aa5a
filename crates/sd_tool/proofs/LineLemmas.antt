-- What comes first of an input that is known.
use Rattle.std.proofs.Common.{◌≡◌, ℕ, ◌+◌, suc, subst, refl, List, [], ◌∷◌, ◌++◌, Option, None, Some, take}
use Rattle.std.specs.Prelude.{IfSome}
use Rattle.std.specs.Io.BufRead.{take_through}
use Rattle.std.specs.Io.KnownBytes.{IsAtEnd}
use Rattle.std.specs.Option.{option_map}
use Rattle.sd_tool.specs.Lines.{ComesFirst, IsLineOf, longest_line, next_bytes}
use Rattle.sd_tool.specs.declared.lines.Next.{Next}
use Rattle.sd_tool.specs.declared.lines.Next.TheVariants as next

none_left : (n : ℕ) (xs : List ℕ) → take (suc n) xs ≡ [] → xs ≡ []
none_left n [] is = refl
none_left n (x ∷ xs) is = absurd (cc is)

-- nothing is left if there is not even one byte more
pub at_end : (o : Option (List ℕ)) (limit n : ℕ) → limit ≡ suc n → IsAtEnd (option_map (take limit) o) → IfSome o (λ xs. xs ≡ [])
at_end None limit n is ends = tt
at_end (Some xs) limit n is ends = none_left n xs (subst (λ m. take m xs ≡ []) is ends)

comes : (input : List ℕ) (came : Next) (bytes : List ℕ) → IsLineOf (next_bytes input) came bytes → ComesFirst input came bytes
comes input next.End bytes line = absurd line
comes input came bytes line = line

-- the bytes that were read are those up to the next newline, or as many as may be
pub first_comes : (o : Option (List ℕ)) (limit : ℕ) (before read bytes : List ℕ) (came : Next) → limit ≡ longest_line + 1 → before ≡ []
    → IfSome (option_map (take limit) o) (λ xs. read ≡ before ++ take_through 10 xs) → IsLineOf read came bytes → IfSome o (λ input. ComesFirst input came bytes)
first_comes None limit before read bytes came limit_is before_is is line = tt
first_comes (Some xs) limit before read bytes came limit_is before_is is line =
    let all : read ≡ next_bytes xs = subst (λ m. read ≡ take_through 10 (take m xs)) limit_is (subst (λ (b : List ℕ). read ≡ b ++ take_through 10 (take limit xs)) before_is is) in
    comes xs came bytes (subst (λ (r : List ℕ). IsLineOf r came bytes) all line)
