-- What the spans of closed and cancelled sessions read to, by the list machine that a world matches.
use Rattle.std.specs.Prelude.{◌≡◌, ◌≢◌, ℕ, Bool, true, Some, List, [], ◌++◌, map}
use Rattle.sd_base.specs.Record.{Record}
use Rattle.sd_base.specs.declared.number.SessionKey.{SessionKey}
use Rattle.sd_driver.specs.Meaning.{Meaning}
use Rattle.sd_drive.specs.Shelf.{Kept, block_at}
use Rattle.sd_drive.specs.View.{DriveIs}
use Rattle.sd_journal.specs.Journal.{placements}
use Rattle.sd_label.specs.Cutting.{WholeOf}
use Rattle.sd_machine.specs.Machine.{Machine, MachineSession, session_of}
use Rattle.sd_readback.specs.Faults.{AreCountable}
use Rattle.sd_readback.specs.Reading.{Volumes, Reads, blocks_of, volumes_on}
use Rattle.sd_session.specs.declared.status.Status.TheVariants.{Closed, Cancelled}
use Rattle.sd_span.specs.Spans.{placements_of, spans_of}
use Rattle.sd_span.specs.declared.placement.Placement.{Placement}
use Rattle.sd_span.specs.declared.span.Span.{Span}
use Rattle.sd_world.specs.World.{WorldView, WorldSession, BayView, IsOnline, session_at}
use Rattle.sd_world.specs.Kept.{IsClosedAt}
use Rattle.sd_world.specs.Rules.{IsWorld}
use Rattle.sd_world.specs.Sessions.{SpansAt}
use Rattle.sd_world.specs.Matches.{Matches, IsHonestAt}
use Rattle.sd_world.specs.Grows.{AllGrow}
use Rattle.sd_world.specs.Seats.{SeatsStay}

-- the drive is online in the bay, keeps what every drive keeps, and its device and spools are honest
pub record HasHonestDrive {D : Type 0} (meaning : D → Meaning) (w : WorldView D)
    (drive at : ℕ) (bay : BayView D) (d : DriveIs D) : Type 0 where
  pub online : IsOnline w drive at bay d
  pub kept : Kept (meaning d.device) d.volumes d.loaded d.journal
  pub honest : IsHonestAt meaning w at bay d

-- the machine's session of the key is closed, and the spans read to exactly its records, with the end label
pub record ReadsToAll (volumes : Volumes) (m : Machine) (key : SessionKey) (spans : List Span) : Type 0 where
  pub s : MachineSession
  pub there : session_of key.id m.sessions ≡ Some s
  pub key_is : s.key ≡ key
  pub closed : s.status ≡ Closed
  pub reads : Reads volumes key spans s.records true

-- the session of this key is cancelled
pub record HasCancelled {D : Type 0} (w : WorldView D) (key : SessionKey) : Type 0 where
  pub e : WorldSession
  pub there : session_at key.id w.sessions ≡ Some e
  pub key_is : e.session.key ≡ key
  pub cancelled : e.session.status ≡ Cancelled

-- The machine's session of the key is cancelled. The spans read to what is whole in these bodies, and that begins the
-- session's records.
pub record ReadsToFront (volumes : Volumes) (m : Machine) (key : SessionKey)
    (bodies : List (List ℕ)) (spans : List Span) : Type 0 where
  pub s : MachineSession
  pub there : session_of key.id m.sessions ≡ Some s
  pub key_is : s.key ≡ key
  pub cancelled : s.status ≡ Cancelled
  pub records : List Record
  pub others : List Record
  pub ended : Bool
  pub records_begin : s.records ≡ records ++ others
  pub whole : WholeOf bodies records ended
  pub reads : Reads volumes key spans records ended

-- Laws.

-- the spans of a closed session, whose drive is honest, read to exactly the records of the machine's session
abbrev pub ClosedReads : Type 0 → Type 0
ClosedReads D =
    (meaning : D → Meaning) (w : WorldView D) (m : Machine) (key : SessionKey) (spans : List Span)
    (at : ℕ) (bay : BayView D) (d : DriveIs D)
    → Matches meaning w m
    → (closed : IsClosedAt w key spans)
    → HasHonestDrive meaning w closed.e.drive at bay d
    → ReadsToAll (volumes_on (meaning d.device).shelf) m key spans

-- these are no more records and data bytes than the session's end label can tell
abbrev pub ClosedIsCountable : Type 0
ClosedIsCountable =
    (volumes : Volumes) (m : Machine) (key : SessionKey) (spans : List Span)
    → (all : ReadsToAll volumes m key spans)
    → AreCountable all.s.records

-- The spans of a cancelled session, whose drive is honest, as the drive's journal gives them now, or gave them at any
-- earlier moment when its placements were the first of those of now, read to records that begin those of the machine's
-- session, if there was a placement of the session.
abbrev pub CancelledReads : Type 0 → Type 0
CancelledReads D =
    (meaning : D → Meaning) (w : WorldView D) (m : Machine) (key : SessionKey)
    (at : ℕ) (bay : BayView D) (d : DriveIs D) (ps more : List Placement)
    → IsWorld w
    → Matches meaning w m
    → (cancelled : HasCancelled w key)
    → HasHonestDrive meaning w cancelled.e.drive at bay d
    → placements d.journal ≡ ps ++ more
    → placements_of key ps ≢ []
    → ReadsToFront (volumes_on (meaning d.device).shelf) m key
    (blocks_of key (map (block_at (meaning d.device).shelf) ps)) (spans_of key ps)

-- So do the spans that were told of the session at an earlier moment, in whatever status it was then, if there were
-- any: a reply that tells spans is good at every later moment, once the session is cancelled.
abbrev pub ToldSpansRead : Type 0 → Type 0
ToldSpansRead D =
    (meaning : D → Meaning) (old w : WorldView D) (m : Machine) (e : WorldSession) (spans : List Span)
    (at : ℕ) (bay : BayView D) (d : DriveIs D)
    → session_at e.session.key.id old.sessions ≡ Some e
    → SpansAt old e spans
    → spans ≢ []
    → SeatsStay old w
    → AllGrow old w
    → IsWorld w
    → Matches meaning w m
    → HasCancelled w e.session.key
    → HasHonestDrive meaning w e.drive at bay d
    → (bodies : List (List ℕ)) × ReadsToFront (volumes_on (meaning d.device).shelf) m e.session.key bodies spans
