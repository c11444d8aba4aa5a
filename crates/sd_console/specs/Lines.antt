-- A text, line by line, as packets.
use Rattle.std.specs.Prelude.{◌≡◌, ◌⊎◌, ℕ, nat_lt, IsTrue, Result, Ok, Err, List, length, map}
use Rattle.std.specs.List.{list_any}
use Rattle.sd_base.specs.Limits.{most_data}
use Rattle.sd_base.specs.declared.refusal.Refusal.{Refusal}
use Rattle.sd_base.specs.declared.refusal.Refusal.TheVariants.{Memory, PacketTooLong}
use Rattle.sd_text.specs.Lines.{line, lines_of}

-- the lines of a text, each with a newline
abbrev pub lines_in : List ℕ → List (List ℕ)
lines_in text = map line (lines_of text)

-- a line of the text is longer than any packet
abbrev pub HasLongLine : List ℕ → Type 0
HasLongLine text = IsTrue (list_any (λ l. nat_lt most_data (length l)) (lines_in text))

-- The answer has the lines of the text, or there is no memory for them. A line that is longer than any packet is refused
-- as one.
abbrev pub Shows : List ℕ → Result (List (List ℕ)) Refusal → Type 0
Shows text answer =
    (answer ≡ Ok (lines_in text))
    ⊎ (answer ≡ Err Memory)
    ⊎ ((answer ≡ Err PacketTooLong) × HasLongLine text)
