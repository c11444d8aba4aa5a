-- Starts that adopt volumes by their notes.
use Rattle.std.specs.Prelude.{ℕ, ◌+◌, All, List, take}
use Rattle.sd_driver.specs.Shelf.{Shelf, Lasts, AfterStop}
use Rattle.sd_events.specs.Noted.{IsTrueAt}
use Rattle.sd_note.specs.declared.note.Note.{Note}
use Rattle.sd_span.specs.declared.span.Span.{Span}
use Rattle.sd_volume.specs.Noted.{IsTrueNote, IsTrueOf}
use Rattle.sd_world.specs.World.{WorldView}
use Rattle.sd_theorem.specs.Runs.{RunsOn, RunsStop, NonePurgesOf}
use Rattle.sd_theorem.specs.Start.{Meanings}

-- The note is true of these bytes of a volume, and since that moment every stop, also one inside a call, leaves them up to the
-- note's end on the shelf.
pub record NoteLasts (since : ℕ) (note : Note) (name bytes : List ℕ) (shelf : Shelf) : Type 0 where
  pub is_true : IsTrueOf note bytes
  pub lasts : Lasts since name (take note.end bytes) shelf

-- Laws.

-- Each volume of some spans has a note that lasts. Then whatever stops and runs follow that purge none of these volumes, what each
-- note says is true of what the last stop left. So it is at the start of a daemon over a device with that shelf, which is what an
-- adoption by a note asks there.
abbrev pub NotedShelf : Type 0 → Type 0 → Type 0 → Type 0 → Type 0
NotedShelf D Q S Z = (is : Meanings D Q S) (spans : List Span) (notes : List ℕ → Note) (bytes : List ℕ → List ℕ)
    (since : ℕ) (now left last : Shelf) (others : List Shelf)
    → All (λ (s : Span). NoteLasts since (notes s.volume) s.volume (bytes s.volume) now) spans
    → AfterStop since now left
    → RunsStop Z is spans left others last
    → All (λ (s : Span). IsTrueNote (notes s.volume) s.volume last) spans

-- Each volume of some spans has a note that lasts. Then whatever stops and runs follow that purge none of these volumes, in the
-- next run, as long as it purges none of them either, what each note says is true at the drive with the device.
abbrev pub NotedStarts : Type 0 → Type 0 → Type 0 → Type 0 → Type 0
NotedStarts D Q S Z = (is : Meanings D Q S) (spans : List Span) (notes : List ℕ → Note) (bytes : List ℕ → List ℕ)
    (since : ℕ) (now left last : Shelf) (others : List Shelf) (again : WorldView D)
    → All (λ (s : Span). NoteLasts since (notes s.volume) s.volume (bytes s.volume) now) spans
    → AfterStop since now left
    → RunsStop Z is spans left others last
    → (runs : RunsOn Z is last again)
    → NonePurgesOf spans runs.deeds
    → All (λ (s : Span). IsTrueAt is.device again (runs.at + 1) s.volume (notes s.volume)) spans
