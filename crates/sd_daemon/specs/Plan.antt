-- Which drive a volume is for, and what becomes of it at the start.
use Rattle.std.specs.Prelude.{ℕ, List, Bool, ◌&&◌, not, if◌then◌else◌, Option, Some, None, slice_get, position}
use Rattle.std.specs.List.{list_any}
use Rattle.std.specs.Option.{option_and_then}
use Rattle.std.specs.Str.{bytes_eq}
use Rattle.sd_base.specs.declared.refusal.Refusal.TheVariants.{AlreadyLabelled, OtherPoolOrMedia}
use Rattle.sd_conf.specs.declared.conf.DriveConf.{DriveConf}
use Rattle.sd_daemon.specs.Takeover.{asked_takeover, is_as_asked, takeover_of, takes_name}
use Rattle.sd_daemon.specs.declared.judging.FoundVolume.{FoundVolume}
use Rattle.sd_daemon.specs.declared.planning.Planned.{Planned}
use Rattle.sd_daemon.specs.declared.takeover.Takeover.{Takeover}
use Rattle.sd_daemon.specs.declared.takeover.Takeover.TheVariants.{Refused}

-- one of these drives has the folder
abbrev pub has_folder : List DriveConf → List ℕ → Bool
has_folder ds folder = list_any (λ d. bytes_eq d.folder folder) ds

-- a name is among these
abbrev pub has_name : List (List ℕ) → List ℕ → Bool
has_name names name = list_any (λ one. bytes_eq one name) names

-- the place of the first drive with this folder and of this media
abbrev pub first_for : List DriveConf → List ℕ → List ℕ → Option ℕ
first_for ds folder media = position (λ d. bytes_eq d.folder folder && bytes_eq d.media media) ds

-- The place of the drive that a volume is for, in the folder of the drive at that place: if its label is known, that of the
-- first drive of its media with this folder.
abbrev pub place_for : List DriveConf → ℕ → Option (List ℕ) → Option ℕ
place_for ds at None = Some at
place_for ds at (Some media) = option_and_then (λ (here : DriveConf). first_for ds here.folder media) (slice_get ds at)

-- a volume of this name has its drive already
abbrev pub is_planned : List Planned → List ℕ → Bool
is_planned planned name = list_any (λ one. takes_name one.takeover && bytes_eq one.name name) planned

-- a volume of this name is adopted though it is damaged
abbrev pub is_asked : List Planned → List ℕ → Bool
is_asked planned name = list_any (λ one. is_as_asked one.takeover && bytes_eq one.name name) planned

-- What becomes of a volume: nothing, if an earlier one has its name, or no drive its media; else what it was judged to be says
-- it, and for a damaged one the operator.
abbrev pub planned_takeover : List Planned → List (List ℕ) → FoundVolume → Bool → Takeover
planned_takeover planned asked volume has_drive =
    if is_planned planned volume.name then Refused AlreadyLabelled
    else if not has_drive && takes_name (takeover_of volume.judgement) then Refused OtherPoolOrMedia
    else if has_name asked volume.name then asked_takeover (takeover_of volume.judgement)
    else takeover_of volume.judgement
