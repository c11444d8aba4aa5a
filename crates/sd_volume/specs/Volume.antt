-- What is known of a volume without reading it, and what that says of its bytes on a shelf.
use Rattle.std.specs.Prelude.{◌≡◌, ℕ, ◌+◌, ◌*◌, ◌≤◌, List, [], length, Some}
use Rattle.sd_base.specs.Limits.{least_block, most_volume}
use Rattle.sd_driver.specs.Shelf.{Shelf, Held}
use Rattle.sd_label.specs.declared.label.VolumeLabel.{VolumeLabel}
use Rattle.sd_volume.specs.declared.volume.VolumeStatus.{VolumeStatus}
use Rattle.sd_volume.specs.declared.volume.VolumeStatus.TheVariants.{Append}
use Rattle.sd_volume.specs.Image.{Block, label_block, volume_end, VolumeImage}

-- A volume: its name, pool and media, as its label says them; whether blocks are added; where its blocks end,
-- which number the next one gets, where the first one begins, and where the last one begins, 0 if there is none.
pub record VolumeView : Type 0 where
  pub name : List ℕ
  pub pool : List ℕ
  pub media : List ℕ
  pub status : VolumeStatus
  pub end : ℕ
  pub next_number : ℕ
  pub first : ℕ
  pub last : ℕ

-- It is no longer than a volume may be, and has as many blocks as its numbers say, each of them at least the least one,
-- its label block too. So the next number fits a header.
pub record IsVolumeView (v : VolumeView) : Type 0 where
  pub first_least : least_block ≤ v.first
  pub first_most : v.first ≤ v.end
  pub end_most : v.end ≤ most_volume
  pub next_least : 1 ≤ v.next_number
  pub next_most : v.next_number * least_block ≤ v.end

-- The shelf has a volume of this name with this label, these blocks, perhaps of earlier runs, and this tail, and what is known
-- of it is so. While it takes blocks there is no tail; after a failed append there may be one, of any bytes.
pub record StandsOn (v : VolumeView) (shelf : Shelf)
    (label : VolumeLabel) (blocks : List Block) (tail : List ℕ) : Type 0 where
  pub held : Held
  pub there : shelf.volume v.name ≡ Some held
  pub image : VolumeImage held.bytes label blocks tail
  pub name_is : v.name ≡ label.name
  pub pool_is : v.pool ≡ label.pool
  pub media_is : v.media ≡ label.media
  pub end_is : v.end ≡ volume_end label blocks
  pub next_is : v.next_number ≡ 1 + length blocks
  pub first_is : v.first ≡ length (label_block label)
  pub no_tail : v.status ≡ Append → tail ≡ []
