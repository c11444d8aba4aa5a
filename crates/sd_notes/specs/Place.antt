-- Where the note of a volume lies.
use Rattle.std.specs.Prelude.{◌≢◌, ℕ, List, ◌∷◌, ◌++◌, codes}

-- the name of a volume's note
abbrev pub note_name : List ℕ → List ℕ
note_name name = name ++ codes "~"

-- the name of a new note, before it takes the old one's place
abbrev pub new_name : List ℕ → List ℕ
new_name name = name ++ codes "~~"

-- a volume has a note, unless its name begins with a dot
abbrev pub MayHaveNote : List ℕ → Type 0
MayHaveNote name = (rest : List ℕ) → name ≢ 46 ∷ rest
