-- Which limits a drive may have.
use Rattle.std.specs.Prelude.{◌≢◌, ◌*◌, ◌≤◌}
use Rattle.sd_base.specs.Limits.{least_block_limit, most_block, most_number, most_volume}
use Rattle.sd_drive.specs.declared.limits.Limits.{Limits}

-- A drive, and so a world, may have these limits: in bounds, a volume for two blocks or more, a spool, if any, for one.
pub record AreLimits (limits : Limits) : Type 0 where
  pub block_least : least_block_limit ≤ limits.block
  pub block_most : limits.block ≤ most_block
  pub volume_least : 2 * limits.block ≤ limits.volume
  pub volume_most : limits.volume ≤ most_volume
  pub spool_least : limits.spool ≢ 0 → limits.block ≤ limits.spool
  pub spool_most : limits.spool ≤ most_volume
  pub time_least : 1 ≤ limits.time
  pub time_most : limits.time ≤ most_number
