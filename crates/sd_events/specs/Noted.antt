-- A note that a volume is adopted by.
use Rattle.std.specs.Prelude.{ℕ, List}
use Rattle.sd_driver.specs.Meaning.{Meaning, IsHonest}
use Rattle.sd_drive.specs.View.{DriveIs}
use Rattle.sd_note.specs.declared.note.Note.{Note}
use Rattle.sd_volume.specs.Noted.{IsTrueNote}
use Rattle.sd_world.specs.World.{WorldView, BayView, IsOnline}

-- what the note says of the volume of this name is true on the device of that drive, if the device is honest
abbrev pub IsTrueAt : {D : Type 0} → (D → Meaning) → WorldView D → (drive : ℕ) → (name : List ℕ) → Note → Type 0
IsTrueAt {D} meaning w drive name note = (at : ℕ) (bay : BayView D) (d : DriveIs D) → IsOnline w drive at bay d
    → IsHonest (meaning d.device) → IsTrueNote note name (meaning d.device).shelf
