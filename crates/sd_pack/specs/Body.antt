-- The body of a block, as data: its bytes, and which of a session's records they are of.
use Rattle.std.specs.Prelude.{ℕ, ◌≤◌, ℤ, pos, negsuc, List, [], ◌∷◌, ◌++◌, length}
use Rattle.sd_base.specs.Limits.{least_body, most_body}
use Rattle.sd_record.specs.Fragment.{Fragment, fragment_bytes, fragments_bytes}
use Rattle.sd_base.specs.FileIndex.{first_nonzero}

-- a body's bytes, and the first and last FileIndex of the records or parts in it, 0 and 0 if none
pub record PackedBody : Type 0 where
  pub bytes : List ℕ
  pub first : ℕ
  pub last : ℕ

-- no shorter than a header, and no longer than the room
pub record IsWithin (room : ℕ) (body : PackedBody) : Type 0 where
  pub least : least_body ≤ length body.bytes
  pub most : length body.bytes ≤ room

-- a block can hold it
abbrev pub IsBody : PackedBody → Type 0
IsBody body = IsWithin most_body body

-- the FileIndex of a record's fragment, and 0 of a label, whose index is negative
abbrev pub file_index : ℤ → ℕ
file_index (pos n) = n
file_index (negsuc n) = 0

-- the first FileIndex among fragments, 0 if none
abbrev pub first_file_index : List Fragment → ℕ
first_file_index [] = 0
first_file_index (f ∷ fs) = first_nonzero (file_index f.index) (first_file_index fs)

-- the last FileIndex among fragments, 0 if none
abbrev pub last_file_index : List Fragment → ℕ
last_file_index [] = 0
last_file_index (f ∷ fs) = first_nonzero (last_file_index fs) (file_index f.index)

-- the body of these fragments
abbrev pub body_of : List Fragment → PackedBody
body_of fs = record {
  bytes = fragments_bytes fs;
  first = first_file_index fs;
  last = last_file_index fs;
}

-- a body with one fragment more
abbrev pub with_fragment : PackedBody → Fragment → PackedBody
with_fragment body f = record {
  bytes = body.bytes ++ fragment_bytes f;
  first = first_nonzero body.first (file_index f.index);
  last = first_nonzero (file_index f.index) body.last;
}

-- nothing in it
abbrev pub empty_body : PackedBody
empty_body = record { bytes = []; first = 0; last = 0 }
