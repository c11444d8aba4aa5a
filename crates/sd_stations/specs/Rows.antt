-- What is published of a drive's volumes.
use Rattle.std.specs.Prelude.{ℕ, Bool, true, false, if◌then◌else◌}
use Rattle.sd_drive.specs.Moves.{awaits_sync, is_at}
use Rattle.sd_drive.specs.View.{DriveIs}
use Rattle.sd_volume.specs.Volume.{VolumeView}
use Rattle.sd_volume.specs.declared.volume.VolumeStatus.{VolumeStatus}
use Rattle.sd_volume.specs.declared.volume.VolumeStatus.TheVariants.{Error}
use Rattle.sd_stations.specs.declared.row.Blocks.{Blocks}
use Rattle.sd_stations.specs.declared.row.Blocks.TheVariants.{Synced, Awaiting, Torn}
use Rattle.sd_stations.specs.declared.row.Extent.{Extent}
use Rattle.sd_stations.specs.declared.row.VolumeRow.{VolumeRow}

-- how far the blocks of a volume go
abbrev pub extent_of : VolumeView → Extent
extent_of v = record { end = v.end; last = v.last; next_number = v.next_number }

-- a volume that was labelled or adopted: the disk has all of it
abbrev pub new_row : VolumeView → VolumeRow
new_row v = record {
  name = v.name;
  pool = v.pool;
  media = v.media;
  status = v.status;
  extent = extent_of v;
  synced = extent_of v;
  is_torn = false;
}

-- the device failed with a volume of this status
abbrev pub is_error : VolumeStatus → Bool
is_error Error = true
is_error status = false

-- What became of the blocks of the volume at this place, by whether a sync may have failed for which some waited: while it is
-- loaded, some await a sync if the drive says so; once it is out, they are synced, unless that failed.
abbrev pub blocks_at : {D : Type 0} → Bool → ℕ → VolumeStatus → DriveIs D → Blocks
blocks_at failed at status d =
    if is_at d.loaded at
    then if awaits_sync d then Awaiting else Synced
    else if failed then if is_error status then Torn else Synced else Synced

-- how far the disk is known to have the blocks: all of them once they are synced, unless a sync failed before; else as far as
-- was known before
abbrev pub synced_after : Blocks → Bool → Extent → Extent → Extent
synced_after Synced torn extent old = if torn then old else extent
synced_after blocks torn extent old = old

-- whether a sync failed
abbrev pub torn_after : Blocks → Bool → Bool
torn_after Torn torn = true
torn_after blocks torn = torn

-- what is published of a volume after a turn or an event, by which this became of its blocks
abbrev pub row_after : Blocks → VolumeView → VolumeRow → VolumeRow
row_after blocks v row =
    record row {
      status = v.status;
      extent = extent_of v;
      synced = synced_after blocks row.is_torn (extent_of v) row.synced;
      is_torn = torn_after blocks row.is_torn;
    }
