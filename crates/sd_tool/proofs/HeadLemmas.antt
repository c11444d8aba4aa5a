-- What a head began with, line by line.
use Rattle.std.proofs.Common.{◌≡◌, ◌<◌, ℕ, sym, subst, arith, List, [], ◌∷◌, ◌++◌, length, Option, None, Some}
use Rattle.std.specs.Prelude.{IfSome}
use Rattle.sd_tool.specs.Head.{BeginsWith}
use Rattle.sd_tool.specs.Lines.{ComesFirst, came_with}
use Rattle.sd_tool.specs.declared.lines.Next.{Next}
use Rattle.sd_tool.specs.declared.lines.Next.TheVariants as next

-- nothing was read yet; or the first line that came is that of the input, if this is known
abbrev pub Began : Option (List ℕ) → Option (List ℕ) → List (List ℕ) → Type 0
Began old now [] = now ≡ old
Began old now (line ∷ later) = IfSome old (λ input. ComesFirst input next.Line line)

-- what came is a line
pub as_line : (now : Option (List ℕ)) (came : Next) (bytes : List ℕ)
    → IfSome now (λ input. ComesFirst input came bytes) → came ≡ next.Line → IfSome now (λ input. ComesFirst input next.Line bytes)
as_line now came bytes first is = subst (λ n. IfSome now (λ input. ComesFirst input n bytes)) is first

-- by a line more
pub began_more : (old now new : Option (List ℕ)) (came : List (List ℕ)) (line : List ℕ)
    → Began old now came → IfSome now (λ input. ComesFirst input next.Line line) → Began old new (came ++ line ∷ [])
began_more old now new [] line began first = subst (λ o. IfSome o (λ input. ComesFirst input next.Line line)) began first
began_more old now new (x ∷ came) line began first = began

told : (old : Option (List ℕ)) (x : List ℕ) (came : List (List ℕ)) (bytes : List ℕ) (first : Next)
    → IfSome old (λ input. ComesFirst input next.Line x) → IfSome old (λ input. BeginsWith input (x ∷ came) bytes first)
told None x came bytes first is = tt
told (Some input) x came bytes first is = is

alone : (old : Option (List ℕ)) (bytes : List ℕ) (first : Next)
    → IfSome old (λ input. ComesFirst input first bytes) → IfSome old (λ input. BeginsWith input (came_with first [] bytes) bytes first)
alone None bytes first is = tt
alone (Some input) bytes next.Line is = is
alone (Some input) bytes next.TooLong is = is
alone (Some input) bytes next.NoMemory is = is
alone (Some input) bytes next.Fault is = is
alone (Some input) bytes next.End is = is

behind : (old : Option (List ℕ)) (x : List ℕ) (came : List (List ℕ)) (bytes : List ℕ) (first : Next)
    → IfSome old (λ input. ComesFirst input next.Line x) → IfSome old (λ input. BeginsWith input (came_with first (x ∷ came) bytes) bytes first)
behind old x came bytes next.Line is = told old x (came ++ bytes ∷ []) bytes next.Line is
behind old x came bytes next.TooLong is = told old x came bytes next.TooLong is
behind old x came bytes next.NoMemory is = told old x came bytes next.NoMemory is
behind old x came bytes next.Fault is = told old x came bytes next.Fault is
behind old x came bytes next.End is = told old x came bytes next.End is

-- what came last is no setting
pub began_ends : (old now : Option (List ℕ)) (came after : List (List ℕ)) (bytes : List ℕ) (first : Next)
    → Began old now came → IfSome now (λ input. ComesFirst input first bytes) → after ≡ came_with first came bytes
    → IfSome old (λ input. BeginsWith input after bytes first)
began_ends old now [] after bytes first began is came_is =
    subst (λ (a : List (List ℕ)). IfSome old (λ input. BeginsWith input a bytes first)) (sym came_is)
    (alone old bytes first (subst (λ o. IfSome o (λ input. ComesFirst input first bytes)) began is))
began_ends old now (x ∷ came) after bytes first began is came_is =
    subst (λ (a : List (List ℕ)). IfSome old (λ input. BeginsWith input a bytes first)) (sym came_is)
    (behind old x came bytes first began)

-- what came last is a setting for which there is no memory
pub began_set : (old now : Option (List ℕ)) (came after : List (List ℕ)) (line : List ℕ) (first : Next)
    → Began old now came → IfSome now (λ input. ComesFirst input next.Line line) → after ≡ came ++ line ∷ []
    → IfSome old (λ input. BeginsWith input after line first)
began_set old now [] after line first began is came_is =
    subst (λ (a : List (List ℕ)). IfSome old (λ input. BeginsWith input a line first)) (sym came_is)
    (told old line [] line first (subst (λ o. IfSome o (λ input. ComesFirst input next.Line line)) began is))
began_set old now (x ∷ came) after line first began is came_is =
    subst (λ (a : List (List ℕ)). IfSome old (λ input. BeginsWith input a line first)) (sym came_is)
    (told old x (came ++ line ∷ []) line first began)

-- some line came
pub began_long : (old now : Option (List ℕ)) (came : List (List ℕ)) (bytes : List ℕ) (first : Next)
    → Began old now came → 0 < length came → IfSome old (λ input. BeginsWith input came bytes first)
began_long old now [] bytes first began long = absurd (omega (arith, long))
began_long old now (x ∷ came) bytes first began long = told old x came bytes first began
