-- What comes of the emptying of a volume, and which sessions may be purged.
use Rattle.std.specs.Prelude.{◌≡◌, ◌⊎◌, ℕ, Bool, true, false, List}
use Rattle.sd_base.specs.declared.refusal.Refusal.{Refusal}
use Rattle.sd_base.specs.declared.refusal.Refusal.TheVariants.{DeviceFault}
use Rattle.sd_driver.specs.Meaning.{Meaning}
use Rattle.sd_drive.specs.View.{DriveIs}
use Rattle.sd_journal.specs.Journal.{Entry}
use Rattle.sd_machine.specs.declared.reply.Reply.{Reply}
use Rattle.sd_machine.specs.declared.reply.Reply.TheVariants.{Purged, Refused}
use Rattle.sd_session.specs.Session.{IsRunning}
use Rattle.sd_volume.specs.declared.volume.VolumeStatus.TheVariants.{Append, Error}
use Rattle.sd_world.specs.Drives.{PurgesNamed, PurgesNone, is_on}
use Rattle.sd_world.specs.World.{WorldSession}

-- the volume is emptied; or it is, and its device failed; or it isn't, and the drive stays as it was
abbrev pub Empties : {D : Type 0} → (D → Meaning) → List ℕ → Reply → DriveIs D → DriveIs D → Type 0
Empties {D} meaning name reply d after =
    ((reply ≡ Purged) × PurgesNamed meaning ⊥ Append name d after)
    ⊎ ((reply ≡ Refused DeviceFault) × PurgesNamed meaning (Unit {0}) Error name d after)
    ⊎ ((why : Refusal) × (reply ≡ Refused why) × PurgesNone meaning why d after)

-- the reply tells that the volume has no block any more
abbrev pub is_emptied : Reply → Bool
is_emptied Purged = true
is_emptied (Refused DeviceFault) = true
is_emptied reply = false

-- the session doesn't go on, if it is of the drive and a block of it was placed on the volume
abbrev pub NoneGoesOn : ℕ → List ℕ → List Entry → WorldSession → Type 0
NoneGoesOn drive name journal e = is_on drive name journal e ≡ true → IsRunning e.session.status → ⊥
