-- What the drives of a daemon adopt at its start.
use Rattle.std.specs.Prelude.{◌≡◌, ◌⊎◌, ℕ, ◌<◌, List, [], ◌∷◌, ◌++◌, All, Contains, length, slice_index_or, true}
use Rattle.sd_filedrive.specs.Drive.{meaning_of}
use Rattle.sd_filedrive.specs.declared.drive.FolderDrive.{FolderDrive}
use Rattle.sd_folder.specs.declared.folder.Folder.{Ghosts}
use Rattle.sd_lines.specs.Unused.{UnusedIs}
use Rattle.sd_volume.specs.Volume.{VolumeView}
use Rattle.sd_daemon.specs.Takeover.{is_adopted}
use Rattle.sd_daemon.specs.declared.planning.Planned.{Planned}

-- nothing of a drive changes but its volumes and what is in its folder
pub record KeepsSetup {F H : Type 0} {g : Ghosts F H} (old new : UnusedIs (FolderDrive F H g)) : Type 0 where
  pub table_is : new.table ≡ old.table
  pub lanes_are : new.lanes ≡ old.lanes
  pub room_is : new.room ≡ old.room
  pub media_is : new.media ≡ old.media
  pub limits_are : new.limits ≡ old.limits
  pub honest_is : (meaning_of new.device).honest ≡ (meaning_of old.device).honest

-- the drive has the same volumes, or one of this name more
abbrev pub AddsAtMost : {D : Type 0} → List ℕ → UnusedIs D → UnusedIs D → Type 0
AddsAtMost name old new =
    (new.volumes ≡ old.volumes)
    ⊎ ((v : VolumeView) × (v.name ≡ name) × (new.volumes ≡ old.volumes ++ v ∷ []))

-- the drive has the same volumes; or the planned one more, if that is to be adopted
abbrev pub AdoptsOne : {D : Type 0} → Planned → UnusedIs D → UnusedIs D → Type 0
AdoptsOne p old new = (new.volumes ≡ old.volumes)
    ⊎ ((is_adopted p.takeover ≡ true) × AddsAtMost p.name old new)

-- a volume with this name is planned for the drive at that place, and is to be adopted
abbrev pub IsPlannedFor : ℕ → List Planned → VolumeView → Type 0
IsPlannedFor at planned v =
    (p : Planned) × Contains planned p × (p.drive ≡ at) × (is_adopted p.takeover ≡ true) × (v.name ≡ p.name)

-- the drive at that place has the volumes that it had, and after them some that are planned for it and to be adopted
abbrev pub AdoptsPlanned : {D : Type 0} → ℕ → List Planned → UnusedIs D → UnusedIs D → Type 0
AdoptsPlanned at planned old new =
    (more : List VolumeView) × (new.volumes ≡ old.volumes ++ more) × All (IsPlannedFor at planned) more

-- each drive keeps its setup, and adopts what is planned for it and nothing else
abbrev pub AllAdopt : {F H : Type 0} {g : Ghosts F H}
    → List Planned → List (UnusedIs (FolderDrive F H g)) → List (UnusedIs (FolderDrive F H g)) → Type 0
AllAdopt {F} {H} {g} planned olds news = (at : ℕ) (u : UnusedIs (FolderDrive F H g)) → at < length olds
    → KeepsSetup (slice_index_or olds at u) (slice_index_or news at u)
    × AdoptsPlanned at planned (slice_index_or olds at u) (slice_index_or news at u)
