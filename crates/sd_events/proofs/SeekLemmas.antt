-- A drive that seeks a volume.
use Rattle.std.proofs.Common.{◌≡◌, ℕ, None, List, refl, inl, inr}
use Rattle.sd_base.specs.declared.refusal.Refusal.{Refusal}
use Rattle.sd_drive.specs.Moves.{mount_due}
use Rattle.sd_driver.specs.Meaning.{Meaning}
use Rattle.sd_world.specs.Stations.{Station, Outcome}
use Rattle.sd_world.specs.Operators.{MountRefused, MountFails}

-- a mount that isn't refused at once fails
pub fails_later : {D : Type 0} (meaning : D → Meaning) (name : List ℕ) (why : Refusal) (s : Station D) (o : Outcome D)
    → mount_due s.drive name ≡ None → MountRefused meaning name why s o → MountFails meaning name why s o
fails_later meaning name why s o none (inr fails) = fails
fails_later meaning name why s o none (inl r) = absurd (let due = r.0 in cc (none, due))
