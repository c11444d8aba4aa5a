-- What the name of a file says.
use Rattle.std.specs.Prelude.{◌≡◌, ◌≢◌, ℕ, List}
use Rattle.sd_base.specs.Name.{IsName}
use Rattle.sd_notes.specs.Place.{MayHaveNote, note_name}
use Rattle.sd_notes.specs.declared.listing.Named.{Named}
use Rattle.sd_notes.specs.declared.listing.Named.TheVariants.{Volume, Note}

-- it is the name of this volume, or that of its note
abbrev pub IsNamed : List ℕ → Named → Type 0
IsNamed text (Volume name) = text ≡ name
IsNamed text (Note name) = (text ≡ note_name name) × MayHaveNote name

-- it is the name of no volume, nor that of a volume's note
abbrev pub NamesNothing : List ℕ → Type 0
NamesNothing text =
    (¬ IsName text) × ((name : List ℕ) → IsName name → MayHaveNote name → text ≢ note_name name)
