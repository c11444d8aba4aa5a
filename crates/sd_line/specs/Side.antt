-- What contracts see of a line, and what the value under its lock keeps.
use Rattle.std.specs.Prelude.{◌≡◌, ◌⊎◌, ◌≤◌, ℕ, ◌+◌, false, List, [], ◌∷◌, ◌++◌, map, Option, Some}
use Rattle.atomic_table.specs.Seated.{TableId}
use Rattle.std.specs.List.{AllByRecursion}
use Rattle.sd_base.specs.Limits.{most_drives, most_lanes}
use Rattle.sd_base.specs.declared.number.SessionKey.{SessionKey}
use Rattle.sd_closes.specs.Pieces.{bodies_in, keyed}
use Rattle.sd_closes.specs.Stands.{StandsTold, ToldClose}
use Rattle.sd_driver.specs.Meaning.{Meaning, IsHonest}
use Rattle.sd_drive.specs.Limits.{AreLimits}
use Rattle.sd_drive.specs.Receipt.{ReceiptIs}
use Rattle.sd_drive.specs.Shelf.{blocks}
use Rattle.sd_drive.specs.View.{DriveIs, items, item_of_piece, block_of_piece}
use Rattle.sd_drive.specs.declared.limits.Limits.{Limits}
use Rattle.sd_journal.specs.Journal.{Item, has_purged, with_key}
use Rattle.sd_lane.specs.declared.piece.Piece.{Piece}
use Rattle.sd_ledger.specs.Ledger.{LedgerIs, TokenIs}
use Rattle.sd_lane.specs.declared.piece.Queued.{Queued}
use Rattle.sd_ruled.specs.Seats.{QueueIs, LaneSeatIs, DriveSeatIs}
use Rattle.sd_volume.specs.Image.{Block}

-- a close that was told: the drive as it was then, all that the lane of its session had sent, and the receipt
pub record CloseIs (D : Type 0) : Type 0 where
  pub drive : DriveIs D
  pub sent : List Piece
  pub receipt : ReceiptIs

-- what lies under the lock: the drive, its number, its seat at the queue, the closes that were told, of which nothing is held, and
-- the ledger of these, in which each close wrote all of them down
pub record SideIs (D : Type 0) : Type 0 where
  pub no : ℕ
  pub drive : DriveIs D
  pub seat : DriveSeatIs
  pub told : List (CloseIs D)
  pub book : LedgerIs (List (CloseIs D))

-- a line, but for what its lock hides: the number of its drive, that drive's media and limits, which nothing changes, and the
-- queue before it
pub record LineIs : Type 0 where
  pub no : ℕ
  pub media : List ℕ
  pub limits : Limits
  pub queue : QueueIs

-- the seat of a lane, with the number of the line's drive
pub record SeatIs : Type 0 where
  pub no : ℕ
  pub seat : LaneSeatIs

-- there is room for the session's next placement; or, if out of memory, for no more than there was
abbrev pub MayReady : SessionKey → List SessionKey → List SessionKey → Type 0
MayReady key old new = (new ≡ with_key key old) ⊎ (new ≡ old)

-- the queue of no line
abbrev pub no_table : TableId
no_table = record { words = 0; slots = 0; views_name = 0; atom = 0; block = 0; offset = 0; slot_names = [] }

-- the seats of the drive of this number
abbrev pub seats_at : ℕ → List LaneSeatIs → List SeatIs
seats_at own seats = map (λ s. record { no = own; seat = s }) seats

-- the seat that sent one piece more
abbrev pub sends_one : Piece → SeatIs → SeatIs
sends_one piece s = record s { seat = record s.seat { sent = s.seat.sent ++ piece ∷ [] } }

-- what placements have of the pieces that were taken, in order
abbrev pub items_taken : List Queued → List Item
items_taken taken = map (λ q. item_of_piece q.piece) taken

-- the blocks that these pieces become, none of which is gone
abbrev pub blocks_taken : List Queued → List (Option Block)
blocks_taken taken = map (λ q. Some (block_of_piece q.piece)) taken

-- the closes that the kit's log tells: with each drive another log, of the lane's seat and of the receipt
abbrev pub closes_at : {D : Type 0} → DriveIs D → List (LaneSeatIs × ReceiptIs) → List (CloseIs D)
closes_at d items = map (λ (i : LaneSeatIs × ReceiptIs). record { drive = d; sent = i.0.sent; receipt = i.1 }) items

-- and those of all of it
abbrev pub closes_of : {D : Type 0} → List (DriveIs D × List (LaneSeatIs × ReceiptIs)) → List (CloseIs D)
closes_of [] = []
closes_of (i ∷ is) = closes_at i.0 i.1 ++ closes_of is

-- what a close told: the bodies are those of the session's pieces, and the moment is the device's at the close
abbrev pub told_close : {D : Type 0} → (D → Meaning) → CloseIs D → ToldClose
told_close meaning c = record {
  key = c.receipt.key;
  spans = c.receipt.spans;
  bodies = bodies_in (keyed c.receipt.key c.sent);
  since = (meaning c.drive.device).shelf.moment;
}

-- each of these closes stands at the device
abbrev pub TellsStand : {D : Type 0} → (D → Meaning) → D → List (CloseIs D) → Type 0
TellsStand meaning device told = AllByRecursion (λ c. StandsTold (meaning device) (told_close meaning c)) told

-- a token that shows closes: of which drive, and what it shows
pub record ToldTokenIs (D : Type 0) : Type 0 where
  pub no : ℕ
  pub shown : TokenIs (List (CloseIs D))

-- the number under which the ledger of the closes at this drive is named: no drive's
abbrev pub book_of : ℕ → ℕ
book_of own = own + most_drives

-- What the value under the lock keeps, whatever threads do. Its seat is of the queue that is named
-- for its number, which has so many lanes at most, and its drive of the run; the drive's limits are
-- such as a drive may have. The drive's journal and then its hand follow the pieces that the seat
-- took: they have, in order, each one's key, indexes and length. No block is gone, since no line
-- purges a volume. And while the device is honest, the block at each placement, and then the one of
-- the piece in the hand, has that piece's key and body. What was told at closes stands: since then each stop leaves the told
-- spans, and on what it leaves they read to the records whose bodies the session sent.
pub record KeepsSide {D : Type 0} (meaning : D → Meaning) (table : ℕ → TableId) (time : ℕ → ℕ) (s : SideIs D) : Type 0 where
  pub here : s.seat.table ≡ table s.no
  pub lanes : s.seat.lanes ≤ most_lanes
  pub run : s.drive.limits.time ≡ time s.no
  pub limits : AreLimits s.drive.limits
  pub follows : items s.drive.journal s.drive.hand ≡ items_taken s.seat.taken
  pub none_gone : (key : SessionKey) → has_purged key s.drive.journal ≡ false
  pub holds : IsHonest (meaning s.drive.device) → blocks (meaning s.drive.device).shelf s.drive.journal s.drive.hand ≡ blocks_taken s.seat.taken
  pub stands : TellsStand meaning s.drive.device s.told
  pub booked : s.book.id ≡ table (book_of s.no)
  pub written : AllByRecursion (TellsStand meaning s.drive.device) s.book.entries
