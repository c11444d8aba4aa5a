-- What a close of a session's part answers, by the journal of its drive.
use Rattle.std.specs.Prelude.{◌≡◌, ◌≢◌, ◌⊎◌, false, IsTrue, List, [], Option, Some, None, Result, Ok, Err}
use Rattle.sd_base.specs.declared.refusal.Refusal.{Refusal}
use Rattle.sd_base.specs.declared.refusal.Refusal.TheVariants.{SessionFailed, Memory}
use Rattle.sd_drive.specs.Receipt.{ReceiptIs}
use Rattle.sd_journal.specs.Journal.{Entry, placements, placed_of, fails, progress_of}
use Rattle.sd_line.specs.declared.closing.Closing.{Closing}
use Rattle.sd_line.specs.declared.closing.Closing.TheVariants.{Closed, NotYet}
use Rattle.sd_session.specs.Session.{SessionView, MayClose, ClosesSession, FailsSession, parts_of, status_refusal}
use Rattle.sd_session.specs.declared.status.Status.TheVariants.{Ended as IsEnded}
use Rattle.sd_span.specs.Spans.{spans_of}
use Rattle.sd_span.specs.declared.progress.Progress.{Progress}

-- how far the blocks of a session are
abbrev pub progress_in : List Entry → SessionView → Progress
progress_in journal s = progress_of s.key journal

-- something of the session is on its way: a body that it has itself, or one that it sent and that isn't synced; or the drive placed
-- another number of blocks with its key than it sent, which only a second session of that key can bring about; or the drive and the
-- seat of its lane are apart
abbrev pub IsOnItsWay : Type 0 → List Entry → SessionView → Type 0
IsOnItsWay apart journal s =
    (parts_of s ≢ []) ⊎ ((progress_in journal s).synced ≢ s.sent) ⊎ (placed_of s.key journal ≢ s.sent) ⊎ apart

-- What a close comes to, by the drive's journal. Closed, with a receipt for all that was sent: if the session is ended
-- and didn't fail, and nothing of it is on its way. Not yet: if something is. Else it is refused, for its status, or
-- since the drive lost a block of it, by which it fails; or, if it would be closed, because it was out of memory.
abbrev pub Closes : Type 0 → List Entry → SessionView → Result Closing Refusal → SessionView → Type 0
Closes apart journal s (Ok (Closed receipt)) new =
    ClosesSession s (progress_in journal s) new × (placed_of s.key journal ≡ s.sent)
    × (receipt ≡ record { key = s.key; spans = spans_of s.key (placements journal); blocks = s.sent })
Closes apart journal s (Ok NotYet) new =
    (s.status ≡ IsEnded) × (fails s.key journal ≡ false) × IsOnItsWay apart journal s × (new ≡ s)
Closes apart journal s (Err why) new =
    ((s.status ≢ IsEnded) × (why ≡ status_refusal s.status) × (new ≡ s))
    ⊎ ((s.status ≡ IsEnded) × IsTrue (fails s.key journal) × (why ≡ SessionFailed) × FailsSession s new)
    ⊎ (MayClose s (progress_in journal s) × (placed_of s.key journal ≡ s.sent) × (why ≡ Memory) × (new ≡ s))

-- The session may be closed by the journal, with this receipt for all that it sent.
pub record MayCloseBy (journal : List Entry) (s : SessionView) (receipt : ReceiptIs) : Type 0 where
  pub may : MayClose s (progress_in journal s)
  pub placed_are : placed_of s.key journal ≡ s.sent
  pub receipt_is : receipt ≡ record { key = s.key; spans = spans_of s.key (placements journal); blocks = s.sent }

-- What is answered to who asks for the receipt by which a session may be closed: as a close would be, but that it isn't
-- closed yet.
abbrev pub IsDue : Type 0 → List Entry → SessionView → Result (Option ReceiptIs) Refusal → SessionView → Type 0
IsDue apart journal s (Ok (Some receipt)) new = MayCloseBy journal s receipt × (new ≡ s)
IsDue apart journal s (Ok None) new = Closes apart journal s (Ok NotYet) new
IsDue apart journal s (Err why) new = Closes apart journal s (Err why) new
