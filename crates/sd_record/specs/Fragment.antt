-- The fragments in a block's body, and how a record is cut into them.
use Rattle.std.specs.Prelude.{◌≡◌, ◌≢◌, ◌⊎◌, ℕ, ◌+◌, ◌-◌, ◌^◌, ◌≤◌, ◌<◌, ℤ, pos, negsuc, neg_ℤ, FitsSigned, List, [], ◌∷◌, ◌++◌, length, take, drop, min}
use Rattle.std.specs.Int.{w32}
use Rattle.std.specs.List.{flat_map}
use Rattle.sd_base.specs.Field.{u32_bytes, i32_bytes}
use Rattle.sd_base.specs.Record.{Record}

-- what a header says, and the data after it
pub record Fragment : Type 0 where
  pub index : ℤ
  pub stream : ℤ
  pub size : ℕ
  pub part : List ℕ

-- a header of twelve bytes, then the part
abbrev pub fragment_bytes : Fragment → List ℕ
fragment_bytes f = i32_bytes f.index ++ i32_bytes f.stream ++ u32_bytes f.size ++ f.part

-- the bytes of fragments that come one after another
abbrev pub fragments_bytes : List Fragment → List ℕ
fragments_bytes fs = flat_map fragment_bytes fs

-- a stream that no fragment has, since its negation would be itself
abbrev pub IsZeroStream : ℤ → Type 0
IsZeroStream stream = (stream ≡ pos 0) ⊎ (stream ≡ negsuc (2 ^ 31 - 1))

-- the numbers fit their fields, and the part is no longer than the header says
pub record IsFragment (f : Fragment) : Type 0 where
  pub index_fits : FitsSigned w32 f.index
  pub stream_fits : FitsSigned w32 f.stream
  pub stream_named : IsZeroStream f.stream → ⊥
  pub size_fits : f.size < 2 ^ 32
  pub part_within : length f.part ≤ f.size

-- data of it remain
abbrev pub GoesOn : Fragment → Type 0
GoesOn f = length f.part < f.size

-- what may be in one body: a fragment that goes on is its last
abbrev pub FitTogether : List Fragment → Type 0
FitTogether [] = Unit {0}
FitTogether (f ∷ fs) = IsFragment f × (GoesOn f → fs ≡ []) × FitTogether fs

-- the fragment's header says this index, this stream and how long `left` is, and its part begins `left`
pub record BeginsData (f : Fragment) (index stream : ℤ) (left : List ℕ) : Type 0 where
  pub index_is : f.index ≡ index
  pub stream_is : f.stream ≡ stream
  pub size_is : f.size ≡ length left
  pub part_first : left ≡ f.part ++ drop (length f.part) left

-- the fragments after a record's first: each says the negated stream and what remains, and none is empty
abbrev pub Continue : ℤ → ℤ → List ℕ → List Fragment → Type 0
Continue index stream left [] = left ≡ []
Continue index stream left (f ∷ fs) =
    BeginsData f index (neg_ℤ stream) left × (f.part ≢ [])
    × Continue index stream (drop (length f.part) left) fs

-- the fragments of a record: its data in one or more parts, of which the first alone may be empty
abbrev pub Fragments : Record → List Fragment → Type 0
Fragments r [] = ⊥
Fragments r (f ∷ fs) =
    BeginsData f (pos r.index) (pos r.stream) r.bytes
    × Continue (pos r.index) (pos r.stream) (drop (length f.part) r.bytes) fs

-- the fragments of records, one record after another
abbrev pub FragmentsOfAll : List Record → List Fragment → Type 0
FragmentsOfAll [] fs = fs ≡ []
FragmentsOfAll (r ∷ rs) fs =
    (first : List Fragment) × (rest : List Fragment)
    × (fs ≡ first ++ rest) × Fragments r first × FragmentsOfAll rs rest

-- the fragment is at `at`, and the next thing of the body at `next`; its part ends where its size or
-- the body does
pub record StandsAt (body : List ℕ) (at : ℕ) (f : Fragment) (next : ℕ) : Type 0 where
  pub bytes_there : drop at body ≡ fragment_bytes f ++ drop next body
  pub part_length : length f.part ≡ min f.size (length body - (at + 12))
  pub next_is : next ≡ at + 12 + length f.part
  pub fragment : IsFragment f

-- the header of these numbers is at `at`
abbrev pub IsHeaderAt : List ℕ → ℕ → ℤ → ℤ → ℕ → Type 0
IsHeaderAt body at index stream size =
    drop at body ≡ i32_bytes index ++ i32_bytes stream ++ u32_bytes size ++ drop (at + 12) body

-- a whole header is at `at`, and its stream is none that a fragment has
abbrev pub HasZeroStream : List ℕ → ℕ → Type 0
HasZeroStream body at =
    (at + 12 ≤ length body)
    × (stream : ℤ) × IsZeroStream stream × (take 4 (drop (at + 4) body) ≡ i32_bytes stream)

-- Laws.

-- a body is the bytes of one list of fragments at most
abbrev pub BodyIsOneList : Type 0
BodyIsOneList = (fs gs : List Fragment)
    → FitTogether fs → FitTogether gs → fragments_bytes fs ≡ fragments_bytes gs → fs ≡ gs

-- fragments that begin one list are of one record, and are the same
abbrev pub FragmentsAreOfOneRecord : Type 0
FragmentsAreOfOneRecord = (r s : Record) (fs gs xs ys : List Fragment)
    → Fragments r fs → Fragments s gs → fs ++ xs ≡ gs ++ ys → (r ≡ s) × (fs ≡ gs) × (xs ≡ ys)
