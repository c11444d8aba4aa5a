-- What a volume is, before it is adopted.
use Rattle.std.specs.Prelude.{◌≡◌, ◌≢◌, ℕ, ℤ, ◌⊎◌, List, length, MatchOption, Some}
use Rattle.sd_driver.specs.Shelf.{Held, Shelf}
use Rattle.sd_judge.specs.Alone.{JudgesAlone}
use Rattle.sd_judge.specs.Noted.{JudgesNoted}
use Rattle.sd_judge.specs.declared.volume.Judged.{Judged}
use Rattle.sd_judge.specs.declared.volume.Judgement.{Judgement}
use Rattle.sd_judge.specs.declared.volume.Judgement.TheVariants as judgement
use Rattle.sd_label.specs.declared.label.VolumeLabel.{VolumeLabel}
use Rattle.sd_note.specs.declared.note.Note.{Note}
use Rattle.sd_notes.specs.declared.reading.NoteRead.{NoteRead}
use Rattle.sd_notes.specs.declared.reading.NoteRead.TheVariants as read
use Rattle.sd_volume.specs.Adopt.{IsLabelled, IsVolumeOf}
use Rattle.sd_volume.specs.Image.{label_block}

-- this note was read, and has that moment
pub record CountsFor (note_read : NoteRead) (moment : ℤ) (note : Note) : Type 0 where
  pub is : note_read ≡ read.Note note
  pub moment_is : note.moment ≡ moment

-- no note was
abbrev pub NoneCounts : NoteRead → ℤ → Type 0
NoneCounts note_read moment = (note : Note) → ¬ CountsFor note_read moment note

-- what a file is that is no volume of its name: damaged at its front, if a note was read; else not ours
abbrev pub JudgesUnlabelled : NoteRead → Judgement → Type 0
JudgesUnlabelled note_read (judgement.Damaged at) = ((note : Note) × (note_read ≡ read.Note note)) × (at ≡ 0)
JudgesUnlabelled note_read judgement.NotOurs = (note : Note) → note_read ≢ read.Note note
JudgesUnlabelled note_read judgement.Whole = ⊥
JudgesUnlabelled note_read (judgement.Noted note) = ⊥
JudgesUnlabelled note_read judgement.NotThere = ⊥

-- what a volume with this label is: by its note, if that counts, and else by its own bytes
abbrev pub JudgesLabelled : NoteRead → List ℕ → VolumeLabel → Judgement → Type 0
JudgesLabelled note_read bytes label judged =
    ((note : Note) × CountsFor note_read label.moment note × JudgesNoted bytes note judged)
    ⊎ (NoneCounts note_read label.moment × JudgesAlone bytes (length (label_block label)) judged)

-- what these bytes are under that name
abbrev pub Judges : List ℕ → NoteRead → List ℕ → Judgement → Type 0
Judges name note_read bytes judged =
    ((label : VolumeLabel) × IsVolumeOf name bytes label × JudgesLabelled note_read bytes label judged)
    ⊎ (((label : VolumeLabel) → ¬ IsVolumeOf name bytes label) × JudgesUnlabelled note_read judged)

-- the volume of that name on the shelf was judged, and its label told, if one of its name begins it
pub record IsJudged (name : List ℕ) (note_read : NoteRead) (shelf : Shelf) (judged : Judged) : Type 0 where
  pub held : Held
  pub there : shelf.volume name ≡ Some held
  pub label : MatchOption judged.label
      ((label : VolumeLabel) → ¬ IsLabelled name held.bytes label) (IsLabelled name held.bytes)
  pub judges : Judges name note_read held.bytes judged.judgement
