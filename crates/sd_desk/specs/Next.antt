-- Which volume a drive takes next.
use Rattle.std.specs.Prelude.{◌≡◌, ℕ, List}
use Rattle.sd_volume.specs.Volume.{VolumeView}
use Rattle.sd_volume.specs.declared.volume.VolumeStatus.TheVariants.{Append}

-- blocks of this pool are added to the volume
pub record TakesBlocksOf (pool : List ℕ) (volume : VolumeView) : Type 0 where
  pub appendable : volume.status ≡ Append
  pub pool_is : pool ≡ volume.pool
