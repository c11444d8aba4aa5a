-- What is printed to a writer, and what a fault of the writer leaves of it.
use Rattle.std.specs.Prelude.{◌≡◌, ◌<◌, ℕ, Bool, true, false, List, ◌++◌, length, Option, ⊤}
use Rattle.std.specs.Io.KnownBytes.{Appends}
use Rattle.sd_text.specs.declared.printer.Printer.{Printer}

-- the bytes that the writer holds, if they are known, and whether writing has failed
pub record SaidView : Type 0 where
  pub written : Option (List ℕ)
  pub failed : Bool

-- what a printer's writer holds and whether writing has failed, by what is known of the writer
abbrev pub said_view : {W : Type 0} → (W → Option (List ℕ)) → Printer W → SaidView
said_view contents p = record { written = contents p.writer; failed = p.failed }

-- of some bytes these are left, and those before them were appended to what is known
abbrev pub SendsUpTo : Option (List ℕ) → Option (List ℕ) → List ℕ → List ℕ → Type 0
SendsUpTo old new bytes rest = (front : List ℕ) × (bytes ≡ front ++ rest) × Appends old new front

-- some first bytes of these were appended to what is known, and some are left
abbrev pub SendsFront : Option (List ℕ) → Option (List ℕ) → List ℕ → Type 0
SendsFront old new bytes = (rest : List ℕ) × (0 < length rest) × SendsUpTo old new bytes rest

-- `Says`, by what is known of the writer before and after, and by whether writing had failed and has failed
abbrev pub SaysBy : Option (List ℕ) → Option (List ℕ) → Bool → Bool → List ℕ → Type 0
SaysBy old new false false bytes = Appends old new bytes
SaysBy old new false true bytes = (rest : List ℕ) × SendsUpTo old new bytes rest
SaysBy old new true false bytes = ⊥
SaysBy old new true true bytes = new ≡ old

-- These bytes were printed: they come after what the writer held. If writing fails, a front of them is there. From
-- then on nothing more is written, and writing stays failed. If the writer's bytes aren't known, as those of a
-- process's own output, this tells nothing of them; but then too, what failed stays failed.
abbrev pub Says : SaidView → SaidView → List ℕ → Type 0
Says old new bytes = SaysBy old.written new.written old.failed new.failed bytes

-- `CutsShort`, by what is known of the writer before and after, and by whether writing had failed and has failed
abbrev pub CutsShortBy : Option (List ℕ) → Option (List ℕ) → Bool → Bool → List ℕ → Type 0
CutsShortBy old new false true bytes = SendsFront old new bytes
CutsShortBy old new failed fails bytes = ⊤

-- Writing these bytes fails only if they were not all written. If the writer's bytes aren't known, this says only
-- that there were some to write.
abbrev pub CutsShort : SaidView → SaidView → List ℕ → Type 0
CutsShort old new bytes = CutsShortBy old.written new.written old.failed new.failed bytes
