-- A desk with the claims of one drive.
use Rattle.std.specs.Prelude.{◌≡◌, ◌≢◌, ℕ, false, List, [], None, Some, slice_get}
use Rattle.sd_desk.specs.Desk.{DeskView, claimed_by, is_purged_at}
use Rattle.sd_drive.specs.View.{DriveIs}
use Rattle.sd_volume.specs.Volume.{VolumeView}
use Rattle.sd_world.specs.World.{BayView, WorldView}

-- The names of these volumes are claimed for the drive 1, and no others. No volume was purged, and none was asked for.
pub record AreClaimed (volumes : List VolumeView) (desk : DeskView) : Type 0 where
  pub claims : (place : ℕ) (v : VolumeView) → slice_get volumes place ≡ Some v → claimed_by desk v.name ≡ Some 1
  pub others : (name : List ℕ) → ((place : ℕ) (v : VolumeView) → slice_get volumes place ≡ Some v → v.name ≢ name) → claimed_by desk name ≡ None
  pub unpurged : (name : List ℕ) → is_purged_at desk name ≡ false
  pub none_asked : desk.requests ≡ []

-- a world at whose desk the names of the first drive's volumes are claimed, and no others
abbrev pub ClaimsOwn : {D : Type 0} → WorldView D → Type 0
ClaimsOwn {D} w = (bay : BayView D) (d : DriveIs D) → slice_get w.bays 0 ≡ Some bay → bay.drive ≡ Some d → AreClaimed d.volumes w.desk
