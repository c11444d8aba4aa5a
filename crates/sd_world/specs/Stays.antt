-- What stays of the spans of closed sessions: their bytes, on any stop, and their volumes, at the operator's desk.
use Rattle.std.specs.Prelude.{◌≡◌, ℕ, All, Some, List, ◌++◌}
use Rattle.sd_base.specs.declared.number.SessionKey.{SessionKey}
use Rattle.sd_desk.specs.Desk.{DeskView, claimed_by}
use Rattle.sd_driver.specs.Meaning.{Meaning}
use Rattle.sd_drive.specs.Shelf.{Kept}
use Rattle.sd_drive.specs.View.{DriveIs}
use Rattle.sd_journal.specs.Journal.{placements}
use Rattle.sd_machine.specs.Machine.{Machine}
use Rattle.sd_readback.specs.Reading.{volumes_on}
use Rattle.sd_world.specs.Lasting.{SpansLast}
use Rattle.sd_span.specs.Spans.{spans_of}
use Rattle.sd_span.specs.declared.placement.Placement.{Placement}
use Rattle.sd_span.specs.declared.span.Span.{Span}
use Rattle.sd_world.specs.World.{WorldView, BayView, IsOnline}
use Rattle.sd_world.specs.Kept.{IsClosedAt}
use Rattle.sd_world.specs.Rules.{IsWorld}
use Rattle.sd_world.specs.Matches.{Matches}
use Rattle.sd_world.specs.Reads.{HasHonestDrive}

-- the volume of each span is claimed for the drive
abbrev pub AreClaimed : DeskView → ℕ → List Span → Type 0
AreClaimed desk drive spans = All (λ (s : Span). claimed_by desk s.volume ≡ Some drive) spans

-- Laws.

-- the spans of a closed session, whose drive is honest, last from this moment on
abbrev pub ClosedSpansLast : Type 0 → Type 0
ClosedSpansLast D =
    (meaning : D → Meaning) (w : WorldView D) (m : Machine) (key : SessionKey) (spans : List Span)
    (at : ℕ) (bay : BayView D) (d : DriveIs D)
    → Matches meaning w m
    → (closed : IsClosedAt w key spans)
    → HasHonestDrive meaning w closed.e.drive at bay d
    → SpansLast (meaning d.device).shelf.moment (volumes_on (meaning d.device).shelf) (meaning d.device).shelf spans

-- the volumes of the spans that a drive's journal gives of a session, or gave at any earlier moment, are claimed for it
abbrev pub PlacedIsFound : Type 0 → Type 0
PlacedIsFound D =
    (meaning : D → Meaning) (w : WorldView D) (key : SessionKey)
    (drive at : ℕ) (bay : BayView D) (d : DriveIs D) (ps more : List Placement)
    → IsWorld w
    → IsOnline w drive at bay d
    → Kept (meaning d.device) d.volumes d.loaded d.journal
    → placements d.journal ≡ ps ++ more
    → AreClaimed w.desk drive (spans_of key ps)

-- the volumes of a closed session's spans are claimed for its drive
abbrev pub ClosedIsFound : Type 0 → Type 0
ClosedIsFound D =
    (meaning : D → Meaning) (w : WorldView D) (key : SessionKey) (spans : List Span)
    (at : ℕ) (bay : BayView D) (d : DriveIs D)
    → IsWorld w
    → (closed : IsClosedAt w key spans)
    → IsOnline w closed.e.drive at bay d
    → Kept (meaning d.device) d.volumes d.loaded d.journal
    → AreClaimed w.desk closed.e.drive spans
