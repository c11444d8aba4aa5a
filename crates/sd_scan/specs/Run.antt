-- Blocks that lie one after another on a volume, from any place of it on.
use Rattle.std.specs.Prelude.{◌≡◌, ℕ, ◌+◌, ◌<◌, ◌≤◌, List, [], ◌∷◌, ◌++◌, length, drop}
use Rattle.sd_base.specs.Limits.{block_header}
use Rattle.sd_base.specs.declared.number.SessionKey.{SessionKey}
use Rattle.sd_scan.specs.Found.{Found}
use Rattle.sd_volume.specs.Image.{AreImages, BeginsWithBlock, Block, NoBlockNext, images}

-- The blocks lie in the bytes one after another from `start` on, the first with that number and each of the others with
-- the next one, up to `end`, where the number `next` is due.
pub record StandUpTo (bytes : List ℕ) (start number end next : ℕ) (blocks : List Block) : Type 0 where
  pub blocks_are : AreImages number blocks
  pub bytes_are : drop start bytes ≡ images number blocks ++ drop end bytes
  pub end_is : end ≡ start + length (images number blocks)
  pub next_is : next ≡ number + length blocks

-- these are all of them: where they end, there is no block with the next number
abbrev pub RunTo : List ℕ → ℕ → ℕ → List Block → ℕ → Type 0
RunTo bytes start number blocks end =
    (next : ℕ) × StandUpTo bytes start number end next blocks × NoBlockNext next (drop end bytes)

-- blocks that lie one after another from a place of a volume on, as they are found there
abbrev pub found_from : List ℕ → ℕ → List Block → List Found
found_from volume start [] = []
found_from volume start (b ∷ bs) =
    record { volume = volume; start = start; block = b } ∷ found_from volume (start + (block_header + length b.body)) bs

-- no whole block is at that place, whatever its number
abbrev pub NoneAt : List ℕ → ℕ → Type 0
NoneAt bytes at = (key : SessionKey) (number : ℕ) (body : List ℕ) → ¬ BeginsWithBlock (drop at bytes) key number body

-- there is no whole block from one place on and before another
abbrev pub NoneBetween : List ℕ → ℕ → ℕ → Type 0
NoneBetween bytes from to = (at : ℕ) → from ≤ at → at < to → NoneAt bytes at

-- at this place there is a whole block with that number, and it is the first one from `from` on
pub record IsFirstWhole (bytes : List ℕ) (from at number : ℕ) : Type 0 where
  pub behind : from ≤ at
  pub key : SessionKey
  pub body : List ℕ
  pub there : BeginsWithBlock (drop at bytes) key number body
  pub none_before : NoneBetween bytes from at
