-- What purging a volume leaves of it.
use Rattle.std.specs.Prelude.{ℕ, List, []}
use Rattle.sd_driver.specs.Shelf.{Shelf}
use Rattle.sd_label.specs.declared.label.VolumeLabel.{VolumeLabel}
use Rattle.sd_volume.specs.declared.volume.VolumeStatus.{VolumeStatus}
use Rattle.sd_volume.specs.Image.{Block}
use Rattle.sd_volume.specs.Volume.{VolumeView, StandsOn}

-- the volume with no block: its next block is the first, right after its label block
abbrev pub emptied : VolumeStatus → VolumeView → VolumeView
emptied status v = record v { status = status; end = v.first; next_number = 1; last = 0 }

-- whatever volume was there, its label block alone is there now
abbrev pub LeavesLabel : VolumeView → Shelf → VolumeView → Shelf → Type 0
LeavesLabel before old after new =
    (label : VolumeLabel) (blocks : List Block) (tail : List ℕ)
    → StandsOn before old label blocks tail
    → StandsOn after new label [] []

-- whatever volume was there, its label block is there still, and perhaps a tail after it
abbrev pub KeepsLabel : VolumeView → Shelf → VolumeView → Shelf → Type 0
KeepsLabel before old after new =
    (label : VolumeLabel) (blocks : List Block) (tail : List ℕ)
    → StandsOn before old label blocks tail
    → (rest : List ℕ) × StandsOn after new label [] rest
