-- What a reader of a volume holds, and that it holds the volume's bytes.
use Rattle.std.specs.Prelude.{◌≡◌, ℕ, ◌+◌, ◌≤◌, List, length, take, drop, Some}
use Rattle.sd_base.specs.Limits.{most_block}
use Rattle.sd_base.specs.declared.number.SessionKey.{SessionKey}
use Rattle.sd_block.specs.Image.{IsBlockImage}
use Rattle.sd_block.specs.declared.head.Head.{Head}
use Rattle.sd_driver.specs.Shelf.{Shelf, Held, BeginsWith}
use Rattle.sd_volume.specs.Image.{BeginsWithBlock}

-- A reader: the name of its volume, the place of the first byte that it holds, the bytes that it holds, and
-- those that it shows.
pub record ReaderView : Type 0 where
  pub name : List ℕ
  pub from : ℕ
  pub bytes : List ℕ
  pub shown : List ℕ

-- what it holds is what lies at its place of the volume, if there is such a volume
abbrev pub Shows : ReaderView → Shelf → Type 0
Shows reader shelf =
    (held : Held) → shelf.volume reader.name ≡ Some held
    → BeginsWith (drop reader.from held.bytes) reader.bytes

-- it shows the bytes from `at` on, so many of them, or as many as there are before the volume's end
abbrev pub ShowsPart : ℕ → ℕ → ReaderView → Shelf → Type 0
ShowsPart at count reader shelf =
    (held : Held) → shelf.volume reader.name ≡ Some held
    → reader.shown ≡ take count (drop at held.bytes)

-- it holds these bytes of the volume already
abbrev pub HoldsPart : ℕ → ℕ → ReaderView → Type 0
HoldsPart at count reader = (reader.from ≤ at) × (at + count ≤ reader.from + length reader.bytes)

-- it holds the bytes from `at` on, as many as it has room for, or as many as there are before the volume's end
abbrev pub HoldsFrom : ℕ → ReaderView → Shelf → Type 0
HoldsFrom at reader shelf =
    (held : Held) → shelf.volume reader.name ≡ Some held
    → reader.bytes ≡ take most_block (drop at held.bytes)

-- the bytes are a block with this head, all of them
pub record IsBlockOf (bytes : List ℕ) (head : Head) : Type 0 where
  pub body : List ℕ
  pub image : IsBlockImage most_block bytes head.key head.number body
  pub size_is : head.size ≡ length bytes

-- no whole block is at that place of the volume, whatever its number
abbrev pub NoBlockAt : ℕ → List ℕ → Shelf → Type 0
NoBlockAt at name shelf =
    (held : Held) → shelf.volume name ≡ Some held
    → (key : SessionKey) (number : ℕ) (body : List ℕ)
    → ¬ BeginsWithBlock (drop at held.bytes) key number body

-- a buffer of one block's greatest length, of which the first `held` bytes are the volume's, and those that are
-- shown are among them
pub record FitsBuffer (buffer : List ℕ) (held start count : ℕ) : Type 0 where
  pub length_is : length buffer ≡ most_block
  pub held_most : held ≤ most_block
  pub shown_most : start + count ≤ held
