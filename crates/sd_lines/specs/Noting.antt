-- What becomes of a volume's note when the volume is labelled or taken over.
use Rattle.std.specs.Prelude.{◌≡◌, ◌⊎◌, ℕ, List, Bool, true, false, Result, Ok, Err}
use Rattle.sd_base.specs.declared.refusal.Refusal.{Refusal}
use Rattle.sd_machine.specs.declared.event.Event.{Event}
use Rattle.sd_machine.specs.declared.event.Event.TheVariants.{Label, Adopt}
use Rattle.sd_machine.specs.declared.reply.Reply.{Reply}
use Rattle.sd_machine.specs.declared.reply.Reply.TheVariants.{Labelled, Adopted, Refused}
use Rattle.sd_lines.specs.declared.notes.Taken.{Taken}

-- the volume is at the drive by this
abbrev pub is_done : Reply → Bool
is_done Labelled = true
is_done (Adopted end next) = true
is_done reply = false

-- the event labels a volume of this name at this drive, or takes it over
abbrev pub BringsVolume : ℕ → List ℕ → Event → Type 0
BringsVolume drive name (Label at other pool media moment) = (at ≡ drive) × (other ≡ name)
BringsVolume drive name (Adopt at other) = (at ≡ drive) × (other ≡ name)
BringsVolume drive name event = ⊥

-- The note couldn't be taken away, and that is the reply; or it was, and is back unless the volume is at the drive.
abbrev pub SettlesNote : (Result Taken Refusal → Type 0) → (Taken → Type 0) → Reply → Type 0
SettlesNote Answered HasBack reply =
    ((why : Refusal) × Answered (Err why) × (reply ≡ Refused why))
    ⊎ ((taken : Taken) × Answered (Ok taken) × (is_done reply ≡ false → HasBack taken))
