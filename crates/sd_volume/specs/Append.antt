-- What adding a block leaves of a volume.
use Rattle.std.specs.Prelude.{ℕ, ◌+◌, List, [], ◌∷◌, ◌++◌, length}
use Rattle.sd_base.specs.Limits.{block_header}
use Rattle.sd_driver.specs.Shelf.{Shelf}
use Rattle.sd_label.specs.declared.label.VolumeLabel.{VolumeLabel}
use Rattle.sd_volume.specs.declared.append.Appended.{Appended}
use Rattle.sd_volume.specs.declared.append.Appended.TheVariants.{At, NoRoom, Fault, Memory}
use Rattle.sd_volume.specs.Image.{Block}
use Rattle.sd_volume.specs.Volume.{VolumeView, StandsOn}

-- P of where the block was placed, if it was
abbrev pub IfPlaced : Appended → (ℕ → ℕ → Type 0) → Type 0
IfPlaced (At start size) P = P start size
IfPlaced NoRoom P = Unit {0}
IfPlaced Fault P = Unit {0}
IfPlaced Memory P = Unit {0}

-- P if the block was not placed
abbrev pub IfNotPlaced : Appended → Type 0 → Type 0
IfNotPlaced (At start size) P = Unit {0}
IfNotPlaced NoRoom P = P
IfNotPlaced Fault P = P
IfNotPlaced Memory P = P

-- where the block would end
abbrev pub end_with : VolumeView → List ℕ → ℕ
end_with v body = v.end + (block_header + length body)

-- whatever volume was there without a tail, that volume with this block more is there now
abbrev pub AddsBlock : Block → VolumeView → Shelf → VolumeView → Shelf → Type 0
AddsBlock block before old after new =
    (label : VolumeLabel) (blocks : List Block) → StandsOn before old label blocks []
    → StandsOn after new label (blocks ++ block ∷ []) []

-- whatever volume was there, its label and blocks are there still, and perhaps a tail after them
abbrev pub KeepsBlocks : VolumeView → Shelf → VolumeView → Shelf → Type 0
KeepsBlocks before old after new =
    (label : VolumeLabel) (blocks : List Block) (tail : List ℕ)
    → StandsOn before old label blocks tail
    → (rest : List ℕ) × StandsOn after new label blocks rest
