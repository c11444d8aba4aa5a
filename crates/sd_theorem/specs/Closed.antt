-- What a scan tells of the sessions of a world: what a drive's journal says of their bodies, and the spans of closed ones.
use Rattle.std.specs.Prelude.{◌≡◌, ◌≢◌, ℕ, true, Option, List, [], ◌++◌, length, All}
use Rattle.sd_base.specs.Record.{Record}
use Rattle.sd_base.specs.declared.number.SessionKey.{SessionKey}
use Rattle.sd_drive.specs.Shelf.{IsLaidOut}
use Rattle.sd_drive.specs.View.{DriveIs, names}
use Rattle.sd_driver.specs.Meaning.{Meaning}
use Rattle.sd_driver.specs.Shelf.{Shelf}
use Rattle.sd_scan.specs.declared.report.Start.{Start as StartLabel}
use Rattle.sd_journal.specs.Journal.{live}
use Rattle.sd_label.specs.Cutting.{total_bytes}
use Rattle.sd_machine.specs.Machine.{Machine, empty_machine}
use Rattle.sd_machine.specs.Step.{Run}
use Rattle.sd_readback.specs.Reading.{blocks_of, volumes_on}
use Rattle.sd_scan.specs.Lines.{found_text}
use Rattle.sd_scan.specs.Scan.{Scans}
use Rattle.sd_scan.specs.declared.line.Found.{Found}
use Rattle.sd_scan.specs.declared.told.Told.TheVariants as told
use Rattle.sd_scan.specs.declared.outcome.Outcome.{Outcome}
use Rattle.sd_session.specs.declared.status.Status.TheVariants as status
use Rattle.sd_span.specs.JobMedia.{jobmedia_text}
use Rattle.sd_span.specs.Spans.{placements_of}
use Rattle.sd_span.specs.declared.placement.Placement.{Placement}
use Rattle.sd_span.specs.declared.span.Span.{Span}
use Rattle.sd_theorem.specs.Start.{IsMadeOf, Meanings, Start, StartsHonest}
use Rattle.sd_theorem.specs.Told.{WereToldClosed}
use Rattle.sd_volume.specs.Image.{AreImages, Block, images}
use Rattle.sd_volume.specs.Volume.{VolumeView}
use Rattle.sd_text.specs.Lines.{line}
use Rattle.sd_world.specs.Deeds.{Deed, LeadsTo, events_in, replies_in}
use Rattle.sd_world.specs.Kept.{IsClosedAt}
use Rattle.sd_world.specs.Matches.{IsHonestAt, Matches}
use Rattle.sd_world.specs.Reads.{HasHonestDrive, ReadsToAll}
use Rattle.sd_world.specs.Rules.{IsWorld}
use Rattle.sd_world.specs.Sessions.{SpansAt}
use Rattle.sd_world.specs.World.{BayView, HasTicket, IsOnline, WorldSession, WorldView}
use Rattle.sd_theorem.specs.Placed.{SayIndexes, placements_over}

-- ---- what placements say

-- What a drive placed of a session says the first and the last FileIndex of each body, unless the session failed or was purged;
-- while the drive is online, and its device and spools are honest. Of blocks that are gone nothing is said.
abbrev pub PlacementsSay : Type 0 → Type 0
PlacementsSay D =
    (meaning : D → Meaning) (w : WorldView D) (m : Machine) (ticket : ℕ) (e : WorldSession)
    (at : ℕ) (bay : BayView D) (d : DriveIs D)
    → Matches meaning w m
    → HasTicket w ticket e
    → e.session.status ≢ status.Failed
    → e.session.status ≢ status.Purged
    → IsOnline w e.drive at bay d
    → IsHonestAt meaning w at bay d
    → SayIndexes e.session.key (meaning d.device).shelf (live d.journal)

-- ---- complete volumes

-- What is scanned of the volume is what is on the drive's shelf, as the drive's placements say; and it has no block of
-- the session but those that were placed there: none was there before, and none is whole in what a failed append left
-- after them.
pub record IsComplete (key : SessionKey) (shelf scanned : Shelf) (ps : List Placement) (v : VolumeView) : Type 0 where
  pub bytes_are : volumes_on scanned v.name ≡ volumes_on shelf v.name
  pub laid : IsLaidOut shelf ps v
  pub none_earlier : blocks_of key laid.earlier ≡ []
  pub none_behind : (more : List Block) (rest : List ℕ) → AreImages v.next_number more → laid.tail ≡ images v.next_number more ++ rest
      → blocks_of key more ≡ []

-- each of these volumes is complete, and they are all on which the session was placed, in that order
pub record HaveSession (key : SessionKey) (shelf scanned : Shelf) (ps : List Placement) (vs : List VolumeView) : Type 0 where
  pub complete : All (IsComplete key shelf scanned ps) vs
  pub in_order : placements_over key ps vs ≡ placements_of key ps

-- ---- what is printed of sessions

-- a line of the session, and after it the JobMedia text of these spans
pub record PrintsSpans (key : SessionKey) (spans : List Span) (due : List ℕ) : Type 0 where
  pub found : Found
  pub key_is : found.key ≡ key
  pub front : List ℕ
  pub behind : List ℕ
  pub due_is : due ≡ front ++ (line (found_text found) ++ (jobmedia_text key spans ++ behind))

-- Of a session of a world that neither failed nor was purged, whose drive is online and honest, a scan of complete volumes prints the
-- spans that the world tells of it, if there are any.
abbrev pub ScanTellsSession : Type 0 → Type 0
ScanTellsSession D =
    (meaning : D → Meaning) (w : WorldView D) (m : Machine) (ticket : ℕ) (e : WorldSession) (spans : List Span)
    (at : ℕ) (bay : BayView D) (d : DriveIs D)
    (scanned : Shelf) (vs : List VolumeView) (due : List ℕ) (outcome : Outcome)
    → IsWorld w
    → Matches meaning w m
    → HasTicket w ticket e
    → e.session.status ≢ status.Failed
    → e.session.status ≢ status.Purged
    → SpansAt w e spans
    → spans ≢ []
    → IsOnline w e.drive at bay d
    → IsHonestAt meaning w at bay d
    → HaveSession e.session.key (meaning d.device).shelf scanned (live d.journal) vs
    → Scans told.All scanned (names vs) due outcome
    → PrintsSpans e.session.key spans due

-- ---- closed sessions

-- what a line says of a session that ended with these records, after that start label
abbrev pub ended_with : SessionKey → Option StartLabel → List Record → Found
ended_with key start records = record { key = key; start = start; ended = true; records = length records; bytes = total_bytes records }

-- The machine's session of the key is closed. A scan printed that it ended with just its records, and these spans; and by them the
-- volumes that were scanned read to the records.
pub record TellsClosed (scanned : Shelf) (m : Machine) (key : SessionKey) (spans : List Span) (due : List ℕ) : Type 0 where
  pub reads : ReadsToAll (volumes_on scanned) m key spans
  pub prints : PrintsSpans key spans due
  pub start : Option StartLabel
  pub found_is : prints.found ≡ ended_with key start reads.s.records

-- So does a scan of complete volumes tell of a session that is closed in a world with these spans, whose drive is honest.
abbrev pub ScanTellsClosed : Type 0 → Type 0
ScanTellsClosed D =
    (meaning : D → Meaning) (w : WorldView D) (m : Machine) (key : SessionKey) (spans : List Span)
    (at : ℕ) (bay : BayView D) (d : DriveIs D)
    (scanned : Shelf) (vs : List VolumeView) (due : List ℕ) (outcome : Outcome)
    → Matches meaning w m
    → (closed : IsClosedAt w key spans)
    → HasHonestDrive meaning w closed.e.drive at bay d
    → HaveSession key (meaning d.device).shelf scanned (live d.journal) vs
    → Scans told.All scanned (names vs) due outcome
    → TellsClosed scanned m key spans due

-- So it does of every session that a daemon told to be closed with these spans, whatever it did before and since, while
-- the session is closed and its drive online, if all that the daemon was made of was honest; the machine is that of its
-- events and replies.
abbrev pub ScanTellsTold : Type 0 → Type 0 → Type 0 → Type 0 → Type 0
ScanTellsTold D Q S Z =
    (is : Meanings D Q S) (start : Start D Q S Z) (first w : WorldView D) (deeds : List Deed)
    (key : SessionKey) (spans : List Span) (e : WorldSession) (at : ℕ) (bay : BayView D) (d : DriveIs D)
    (scanned : Shelf) (vs : List VolumeView) (due : List ℕ) (outcome : Outcome)
    → IsMadeOf is start first
    → StartsHonest is start
    → LeadsTo is.device first deeds w
    → WereToldClosed key spans deeds
    → HasTicket w key.id e
    → e.session.status ≡ status.Closed
    → IsOnline w e.drive at bay d
    → HaveSession key (is.device d.device).shelf scanned (live d.journal) vs
    → Scans told.All scanned (names vs) due outcome
    → (m : Machine) × Run (empty_machine start.time) (events_in deeds) (replies_in deeds) m × TellsClosed scanned m key spans due
