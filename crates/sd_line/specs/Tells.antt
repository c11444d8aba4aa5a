-- What a close tells under the lock of its line.
use Rattle.std.specs.Prelude.{◌≡◌, ◌≢◌, ◌⊎◌, ◌≤◌, ℕ, true, List, [], ◌∷◌, ◌++◌, length, Option, Some, None, option_to_list, Result, Ok, Err, IfOk}
use Rattle.std.specs.List.{AllByRecursion}
use Rattle.atomic_table.specs.Seated.{TableId}
use Rattle.sd_base.specs.Key.{is_key}
use Rattle.sd_base.specs.declared.number.SessionKey.{SessionKey}
use Rattle.sd_base.specs.declared.refusal.Refusal.{Refusal}
use Rattle.sd_closes.specs.Pieces.{keyed}
use Rattle.sd_driver.specs.Meaning.{Meaning}
use Rattle.sd_drive.specs.Receipt.{ReceiptIs}
use Rattle.sd_drive.specs.View.{DriveIs}
use Rattle.sd_journal.specs.Journal.{Entry, placements, placed_of, synced_of}
use Rattle.sd_lane.specs.Queue.{pieces_of}
use Rattle.sd_lane.specs.declared.piece.Piece.{Piece}
use Rattle.sd_line.specs.Closes.{Closes}
use Rattle.sd_line.specs.Counts.{most_count}
use Rattle.sd_line.specs.Parts.{PartIs}
use Rattle.sd_ledger.specs.Ledger.{IsAmong}
use Rattle.sd_line.specs.Side.{CloseIs, KeepsSide, SideIs, SeatIs, ToldTokenIs}
use Rattle.sd_line.specs.declared.closing.Closing.{Closing}
use Rattle.sd_line.specs.declared.closing.Closing.TheVariants.{Closed, NotYet}
use Rattle.sd_session.specs.Session.{SessionView}
use Rattle.sd_span.specs.Spans.{spans_of}

-- The drive and the seat of the session's lane differ: not as many pieces of the lane were taken as its seat sent; or it sent
-- more than is counted; or the drive has a piece of the session in its hand.
abbrev pub AreApart : {D : Type 0} → SideIs D → SeatIs → SessionKey → Type 0
AreApart side seat key =
    (length (pieces_of seat.seat.lane side.seat.taken) ≢ length seat.seat.sent) ⊎ (most_count ≤ length seat.seat.sent)
    ⊎ (keyed key (option_to_list side.drive.hand) ≢ [])

-- The receipt is of a session whose pieces are the last that its lane sent, one at least: the journal has as many blocks of
-- it, each of them synced, and gives the spans.
pub record IsOfSent (journal : List Entry) (sent : List Piece) (r : ReceiptIs) : Type 0 where
  pub before : List Piece
  pub own : List Piece
  pub sent_are : sent ≡ before ++ own
  pub own_are : AllByRecursion (λ (p : Piece). is_key r.key p.key ≡ true) own
  pub some_sent : 1 ≤ length own
  pub placed_are : placed_of r.key journal ≡ length own
  pub synced_are : synced_of r.key journal ≡ length own
  pub spans_are : r.spans ≡ spans_of r.key (placements journal)

-- of all that the lane sent, the receipt is of as many pieces as have its key: so those before the session's own have another
abbrev pub IsOfOwn : ReceiptIs → List Piece → Type 0
IsOfOwn r sent = length (keyed r.key sent) ≡ r.blocks

-- so it is of the receipt by which a session was closed
abbrev pub HasOwn : Closing → List Piece → Type 0
HasOwn (Closed r) sent = IsOfOwn r sent
HasOwn NotYet sent = Unit {0}

-- the close of a session is told, whose lane sent all these, by this receipt
abbrev pub tells_close : {D : Type 0} → SideIs D → List Piece → ReceiptIs → SideIs D
tells_close {D} side sent receipt =
    let told : List (CloseIs D) = side.told ++ record { drive = side.drive; sent = sent; receipt = receipt } ∷ [] in
    record side { told = told; book = record side.book { entries = side.book.entries ++ told ∷ [] } }

-- so it is if a receipt is answered, and else nothing is told
abbrev pub told_due : {D : Type 0} → SideIs D → List Piece → Result (Option ReceiptIs) Refusal → SideIs D
told_due side sent (Ok (Some receipt)) = tells_close side sent receipt
told_due side sent (Ok None) = side
told_due side sent (Err why) = side

-- The token shows that a close was told at the drive of this number, by this receipt, of a session whose lane had sent all these,
-- as many of them with its key as the receipt is of.
pub record ShowsClose {D : Type 0} (token : ToldTokenIs D) (no : ℕ) (sent : List Piece) (r : ReceiptIs) : Type 0 where
  pub no_is : token.no ≡ no
  pub before : List (CloseIs D)
  pub drive : DriveIs D
  pub shown : IsAmong (before ++ record { drive = drive; sent = sent; receipt = r } ∷ []) token.shown.shown
  pub own : IsOfOwn r sent

-- and so if the answer is that the session is closed
abbrev pub told_closed : {D : Type 0} → SideIs D → List Piece → Result Closing Refusal → SideIs D
told_closed side sent (Ok (Closed receipt)) = tells_close side sent receipt
told_closed side sent (Ok NotYet) = side
told_closed side sent (Err why) = side

-- A close for which the lock was taken: what lay under it, by which the answer is as it is, and what lies there since, where the
-- close is told. Both keep what such a value keeps.
pub record ClosesUnder {D : Type 0} (meaning : D → Meaning) (table : ℕ → TableId) (time : ℕ → ℕ) (part : PartIs) (result : Result Closing Refusal) (new : SessionView) : Type 0 where
  pub side : SideIs D
  pub no_is : side.no ≡ part.seat.no
  pub keeps : KeepsSide meaning table time side
  pub closes : Closes (AreApart side part.seat part.session.key) side.drive.journal part.session result new
  pub own : IfOk result (λ closing. HasOwn closing part.seat.seat.sent)
  pub stands : KeepsSide meaning table time (told_closed side part.seat.seat.sent result)
