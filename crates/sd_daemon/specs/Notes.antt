-- What the note of a volume says while its daemon runs.
use Rattle.std.specs.Prelude.{◌≡◌, ◌⊎◌, ◌<◌, ◌≤◌, ◌-◌, ℕ, ℤ, ◌&&◌, not, nat_le, nat_lt, Bool, Option, Some, None, if◌then◌else◌}
use Rattle.sd_note.specs.declared.note.Note.{Note}
use Rattle.sd_stations.specs.declared.row.Extent.{Extent}
use Rattle.sd_stations.specs.declared.row.VolumeRow.{VolumeRow}
use Rattle.sd_daemon.specs.declared.volume_note.Known.{Known}

-- how far the disk is known to have a volume: as far as its drive says; or as far as it was synced for its note, if that is
-- further and no sync of the drive's failed
abbrev pub extent_known : Option Extent → Bool → Extent → Extent
extent_known None is_torn synced = synced
extent_known (Some own) is_torn synced = if not is_torn && nat_lt synced.end own.end then own else synced

-- No block of these is of a later time: none is there; or those behind the place are of this run; or none of them is.
abbrev pub greatest_time : Known → Extent → ℕ
greatest_time known extent =
    if nat_le extent.next_number 1 then 0
    else if nat_lt known.own_from extent.end then known.run else known.earlier

-- what a note says of these blocks
abbrev pub note_of : Known → Bool → Extent → Note
note_of known is_torn extent = record {
  moment = known.moment;
  end = extent.end;
  last = extent.last;
  next_number = extent.next_number;
  time = greatest_time known extent;
  torn = if is_torn then Some extent.end else None;
}

-- what the note of a volume is to say: where the blocks end that the disk is known to have
abbrev pub note_for : Known → VolumeRow → Note
note_for known row = note_of known row.is_torn (extent_known known.own_synced row.is_torn row.synced)

-- No block up to that place, where a volume's blocks ended at the start, is of a later time: by the note that was read then, if
-- it is of this label, ends at that place and is of an earlier run; else since each block there is of an earlier run.
abbrev pub EarlierTime : ℕ → ℤ → ℕ → Option Note → ℕ → Type 0
EarlierTime run moment end note time =
    ((given : Note) × (note ≡ Some given) × (given.moment ≡ moment) × (given.end ≡ end) × (given.time < run) × (time ≡ given.time))
    ⊎ (((given : Note) → note ≡ Some given → given.moment ≡ moment → given.end ≡ end → run ≤ given.time) × (time ≡ run - 1))

-- What is known of a volume after a sync for its note: it is synced as far as its blocks went when that began; or that failed,
-- and no sync for its note counts from then on.
abbrev pub known_after_sync : Known → Extent → Bool → Known
known_after_sync known extent is_synced =
    record known { own_synced = if is_synced then Some extent else None; may_sync = is_synced }
