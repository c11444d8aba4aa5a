-- What is shown of the volumes that a drive has from the start.
use Rattle.std.specs.Prelude.{false}
use Rattle.sd_volume.specs.Volume.{VolumeView}
use Rattle.sd_stations.specs.declared.status.Shown.{Shown}
use Rattle.sd_stations.specs.Rows.{new_row}

-- what is shown of a volume that came to the drive: no worker passes it over
abbrev pub shown : VolumeView → Shown
shown v = record { row = new_row v; is_passed_over = false }
