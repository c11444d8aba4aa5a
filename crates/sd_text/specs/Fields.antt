-- The fields of a line: the parts between its blanks.
use Rattle.std.specs.Prelude.{◌≢◌, ℕ, ◌==◌, Bool, List, [], Option, Some, None, All}
use Rattle.std.specs.List.{join_with_byte, slice_split}
use denote.Ref.{Bor}

-- a number or a word, and the fields after it
abbrev pub Fields : Type 0
Fields = List (List ℕ)

-- the character that parts fields
abbrev pub is_blank : ℕ → Bool
is_blank byte = byte == 32

-- the parts between the blanks of a text
abbrev pub fields_of : List ℕ → Fields
fields_of text = slice_split is_blank text

-- the fields of the text that is left, or none if the line is read to its end
abbrev pub fields_left : Option (Bor (List ℕ)) → Fields
fields_left None = []
fields_left (Some rest) = fields_of rest.now

-- fields as one text again, parted by one blank
abbrev pub joined : Fields → List ℕ
joined fs = join_with_byte 32 fs

-- none of its characters is a blank
abbrev pub HasNoBlank : List ℕ → Type 0
HasNoBlank text = All (λ c. c ≢ 32) text
