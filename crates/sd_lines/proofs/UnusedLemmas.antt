-- A drive of which no line is made yet takes over a volume.
use Rattle.std.proofs.Common.{◌≡◌, refl, List, ℕ, None}
use Rattle.sd_drive.specs.Moves.{adopt_due, index_of}
use Rattle.sd_drive.specs.View.{DriveIs}

-- a name that the drive lacks is not refused, since no volume is loaded
pub due_not : {D : Type 0} (d : DriveIs D) (name : List ℕ) → index_of d.volumes name ≡ None → d.loaded ≡ None → adopt_due d name ≡ None
due_not d name none loaded = rw (none, loaded) refl
