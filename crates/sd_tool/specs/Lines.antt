-- The lines that came of an input.
use Rattle.std.specs.Prelude.{◌≡◌, ◌<◌, ◌≤◌, ℕ, ◌+◌, false, List, [], ◌∷◌, ◌++◌, length, take, ⊤}
use Rattle.std.specs.Io.BufRead.{ends_with_byte, strip_last, take_through}
use Rattle.sd_tool.specs.declared.lines.Next.{Next}
use Rattle.sd_tool.specs.declared.lines.Next.TheVariants as next

-- the line that came last, without its newline, and all lines that came so far
pub record LinesView : Type 0 where
  pub bytes : List ℕ
  pub came : List (List ℕ)

-- one line more came, if one did
abbrev pub came_with : Next → List (List ℕ) → List ℕ → List (List ℕ)
came_with next.Line lines line = lines ++ line ∷ []
came_with other lines line = lines

-- the length of the longest line that has a form
abbrev pub longest_line : ℕ
longest_line = 4000037

-- the bytes up to the next newline, or as many as the longest line has with its own
abbrev pub next_bytes : List ℕ → List ℕ
next_bytes input = take_through 10 (take (longest_line + 1) input)

-- The line of these bytes, which its newline may end; that it is longer than any line that has a form; or that it was
-- out of memory or a fault came.
abbrev pub IsLineOf : List ℕ → Next → List ℕ → Type 0
IsLineOf read next.Line bytes = (bytes ≡ strip_last 10 read) × (ends_with_byte 10 read ≡ false → length read ≤ longest_line)
IsLineOf read next.TooLong bytes = (ends_with_byte 10 read ≡ false) × (longest_line < length read)
IsLineOf read next.End bytes = ⊥
IsLineOf read other bytes = ⊤

-- What comes first of an input that is known: its first line, without its newline, which the last one may lack; that
-- this line is too long; or, exactly if nothing is left, that there is none. Memory may run out, and the input fail, at
-- any input.
abbrev pub ComesFirst : List ℕ → Next → List ℕ → Type 0
ComesFirst input next.End bytes = input ≡ []
ComesFirst input came bytes = IsLineOf (next_bytes input) came bytes
