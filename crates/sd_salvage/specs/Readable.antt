-- Which blocks of spans can be read, whatever is damaged around them.
use Rattle.std.specs.Prelude.{◌≡◌, ◌⊎◌, ℕ, ◌+◌, ◌≤◌, Bool, true, ◌&&◌, nat_eq, nat_lt, if◌then◌else◌, Option, Some, None, List, [], ◌∷◌, ◌++◌, length, drop}
use Rattle.sd_base.specs.Limits.{block_header}
use Rattle.sd_block.specs.declared.head.Head.{Head}
use Rattle.sd_collect.specs.Whole.{Place}
use Rattle.sd_readback.specs.Reading.{Volumes}
use Rattle.sd_scan.specs.Run.{NoneBetween}
use Rattle.sd_span.specs.declared.span.Span.{Span}
use Rattle.sd_volume.specs.Image.{BeginsWithBlock, Block}

-- a block as it lies on a volume: where, and with which number
pub record Stored : Type 0 where
  pub at : ℕ
  pub number : ℕ
  pub block : Block

-- a block with that head and body at a place
abbrev pub stored : ℕ → Head → List ℕ → Stored
stored at head body = record { at = at; number = head.number; block = record { key = head.key; body = body } }

-- the place after it
abbrev pub end_of : Stored → ℕ
end_of b = b.at + (block_header + length b.block.body)

-- of the whole blocks from a place of a volume on, this is the first, and it ends before `end` or there
pub record IsNext (bytes : List ℕ) (from end : ℕ) (b : Stored) : Type 0 where
  pub behind : from ≤ b.at
  pub there : BeginsWithBlock (drop b.at bytes) b.block.key b.number b.block.body
  pub none_before : NoneBetween bytes from b.at
  pub within : end_of b ≤ end

-- the blocks that can be read from one place of a volume to another: each is the next whole one after that before it
abbrev pub AreReadable : List ℕ → ℕ → ℕ → List Stored → Type 0
AreReadable bytes from end [] = (b : Stored) → IsNext bytes from end b → ⊥
AreReadable bytes from end (b ∷ bs) = IsNext bytes from end b × AreReadable bytes (end_of b) end bs

-- what is found of a span: a block, or a place from which on some may be lost
pub data Piece : Type 0 where
  Read : Place → Block → Piece
  Lost : Place → Piece

-- a place of a volume
abbrev pub place : List ℕ → ℕ → Place
place volume at = record { volume = volume; at = at }

-- after that number this one is due; at the front of a span any is
abbrev pub is_due : Option ℕ → ℕ → Bool
is_due None number = true
is_due (Some last) number = nat_eq number (last + 1)

-- nothing is lost before a block that lies right there with the number that is due; else some may be
abbrev pub before : List ℕ → ℕ → Option ℕ → Stored → List Piece
before volume from last b = if nat_eq b.at from && is_due last b.number then [] else Lost (place volume from) ∷ []

-- what is left of a span from a place on may be lost
abbrev pub rest_of : List ℕ → ℕ → ℕ → List Piece
rest_of volume from end = if nat_lt from end then Lost (place volume from) ∷ [] else []

-- what is found from a place on, after a block with that number: the blocks, and the places from which on some may be lost
abbrev pub pieces_of : List ℕ → ℕ → Option ℕ → ℕ → List Stored → List Piece
pieces_of volume from last end [] = rest_of volume from end
pieces_of volume from last end (b ∷ bs) =
    before volume from last b ++ (Read (place volume b.at) b.block ∷ pieces_of volume (end_of b) (Some b.number) end bs)

-- what is found of a span: of a volume that isn't there, nothing
abbrev pub FindsInSpan : Volumes → Span → List Piece → Type 0
FindsInSpan volumes s pieces =
    ((volumes s.volume ≡ None) × (pieces ≡ Lost (place s.volume s.start) ∷ []))
    ⊎ ((bytes : List ℕ) × (bs : List Stored) × (volumes s.volume ≡ Some bytes) × AreReadable bytes s.start s.end bs
    × (pieces ≡ pieces_of s.volume s.start None s.end bs))

-- what is found of spans, one after another
abbrev pub FindsInSpans : Volumes → List Span → List Piece → Type 0
FindsInSpans volumes [] pieces = pieces ≡ []
FindsInSpans volumes (s ∷ ss) pieces =
    (here : List Piece) × (others : List Piece) × FindsInSpan volumes s here × FindsInSpans volumes ss others × (pieces ≡ here ++ others)
