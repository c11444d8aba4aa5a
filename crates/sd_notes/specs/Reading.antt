-- What is read of a note.
use Rattle.std.specs.Prelude.{ℕ, List}
use Rattle.sd_note.specs.Note.{IsNote, HasOtherForm, IsDamaged}
use Rattle.sd_notes.specs.declared.reading.NoteRead.{NoteRead}
use Rattle.sd_notes.specs.declared.reading.NoteRead.TheVariants.{None as NoFile, Note, OtherForm, Damaged, Unreadable}

-- what these bytes are, if they are read
abbrev pub IsReadOf : List ℕ → NoteRead → Type 0
IsReadOf bytes (Note note) = IsNote bytes note
IsReadOf bytes OtherForm = HasOtherForm bytes
IsReadOf bytes Damaged = IsDamaged bytes
IsReadOf bytes NoFile = ⊥
IsReadOf bytes Unreadable = ⊥
