-- The lines of a text: the parts that its newlines end.
use Rattle.std.specs.Prelude.{ℕ, ◌==◌, Bool, if◌then◌else◌, List, [], ◌∷◌, ◌++◌, codes}
use Rattle.std.specs.List.{onto_first}

-- a text as a line
abbrev pub line : List ℕ → List ℕ
line text = text ++ codes "\n"

-- the character that ends a line
abbrev pub is_newline : ℕ → Bool
is_newline byte = byte == 10

-- the lines of a text, each without the newline that ends it; the last one may lack that
abbrev pub lines_of : List ℕ → List (List ℕ)
lines_of [] = []
lines_of (c ∷ text) = if is_newline c then [] ∷ lines_of text else onto_first c (lines_of text)
