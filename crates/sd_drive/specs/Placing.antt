-- What placing a piece leaves of the shelf of an honest device.
use Rattle.std.specs.Prelude.{Result, Ok, Err}
use Rattle.sd_driver.specs.Shelf.{Shelf}
use Rattle.sd_lane.specs.declared.piece.Piece.{Piece}
use Rattle.sd_volume.specs.Append.{AddsBlock, KeepsBlocks}
use Rattle.sd_volume.specs.Volume.{VolumeView}
use Rattle.sd_drive.specs.declared.place.Placed.{Placed}
use Rattle.sd_drive.specs.declared.place.Placed.TheVariants.{At, NeedVolume, VolumeFull, VolumeError, Idle}
use Rattle.sd_drive.specs.View.{block_of_piece}

-- if the piece was placed, its block comes after the others; else the others are as they were
abbrev pub PlacesAt : {E : Type 0} → Result Placed E → Piece → VolumeView → Shelf → VolumeView → Shelf → Type 0
PlacesAt (Ok (At p)) piece v old after new = AddsBlock (block_of_piece piece) v old after new
PlacesAt (Ok NeedVolume) piece v old after new = KeepsBlocks v old after new
PlacesAt (Ok VolumeFull) piece v old after new = KeepsBlocks v old after new
PlacesAt (Ok VolumeError) piece v old after new = KeepsBlocks v old after new
PlacesAt (Ok Idle) piece v old after new = KeepsBlocks v old after new
PlacesAt (Err error) piece v old after new = KeepsBlocks v old after new
