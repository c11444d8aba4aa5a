-- How the part of a session goes on while records are given to it, and what its session comes to.
use Rattle.std.specs.Prelude.{◌≡◌, ◌⊎◌, ℕ, List, [], ◌++◌}
use Rattle.sd_base.specs.Record.{Record}
use Rattle.sd_base.specs.declared.number.SessionKey.{SessionKey}
use Rattle.sd_base.specs.declared.refusal.Refusal.TheVariants.{SpoolFault, SessionFailed}
use Rattle.sd_drive.specs.Receipt.{ReceiptIs}
use Rattle.sd_journal.specs.Journal.{Entry, placed_of, placements, synced_of}
use Rattle.sd_lane.specs.declared.piece.Piece.{Piece}
use Rattle.sd_line.specs.Side.{SeatIs}
use Rattle.sd_line.specs.Parts.{PartIs}
use Rattle.sd_line.specs.declared.stop.Stop.{Stop}
use Rattle.sd_line.specs.declared.stop.Stop.TheVariants.{Done, OutOfTurns, Refused, NoThread}
use Rattle.sd_session.specs.Session.{SessionView, IsRunning, CancelsSession, parts_of}
use Rattle.sd_session.specs.declared.status.Status.TheVariants.{Closed, Failed}
use Rattle.sd_span.specs.Spans.{spans_of}
use Rattle.sd_span.specs.declared.span.Span.{Span}

-- the seat that sent these pieces more
abbrev pub sends_more : List Piece → SeatIs → SeatIs
sends_more more s = record s { seat = record s.seat { sent = s.seat.sent ++ more } }

-- A part that went on. Its session took these records more and has the key that it had; its seat sent some pieces more;
-- the sessions that used the lane before are the same.
pub record GoesOn (old : PartIs) (taken : List Record) (new : PartIs) : Type 0 where
  pub more : List Piece
  pub seat_is : new.seat ≡ sends_more more old.seat
  pub before_is : new.before ≡ old.before
  pub whole_is : new.whole ≡ old.whole
  pub told_is : new.told ≡ old.told ++ taken
  pub key_is : new.session.key ≡ old.session.key

-- A journal has just so many blocks of a session, each of them synced, and gives these spans of it.
pub record SpansAll (key : SessionKey) (blocks : ℕ) (spans : List Span) : Type 0 where
  pub journal : List Entry
  pub placed_are : placed_of key journal ≡ blocks
  pub synced_are : synced_of key journal ≡ blocks
  pub spans_are : spans ≡ spans_of key (placements journal)

-- The session is closed: no body is left with it, and these spans are of all that it sent.
pub record ClosedBy (s : SessionView) (spans : List Span) : Type 0 where
  pub closed : s.status ≡ Closed
  pub none_left : parts_of s ≡ []
  pub span_all : SpansAll s.key s.sent spans

-- the session is closed by the spans of the receipt, which is for all that it sent
pub record IsReceiptOf (s : SessionView) (r : ReceiptIs) : Type 0 where
  pub closed_by : ClosedBy s r.spans
  pub key_is : r.key ≡ s.key
  pub blocks_are : r.blocks ≡ s.sent

-- What is known of a session whose job was stopped before it was done: if that was a fault of the spool, or the drive
-- had lost a block, the session is failed.
abbrev pub StopsShort : Stop → SessionView → Type 0
StopsShort Done s = ⊥
StopsShort OutOfTurns s = Unit {0}
StopsShort (Refused why) s = ((why ≡ SpoolFault) ⊎ (why ≡ SessionFailed)) → s.status ≡ Failed
StopsShort NoThread s = ⊥

-- the session is cancelled, if it went on; nothing of it was taken or sent
abbrev pub IsGivenUp : PartIs → PartIs → Type 0
IsGivenUp old new = (new ≡ record old { session = new.session })
    × ((IsRunning old.session.status × CancelsSession old.session new.session)
    ⊎ ((IsRunning old.session.status → ⊥) × (new.session ≡ old.session)))
