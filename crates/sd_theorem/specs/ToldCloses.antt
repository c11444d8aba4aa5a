-- At every moment while threads run: what was told closed comes back.
use Rattle.std.specs.Prelude.{◌≡◌, ℕ, List, Some, slice_get}
use Rattle.atomic_table.specs.Seated.{TableId}
use Rattle.sd_driver.specs.Meaning.{Meaning, IsHonest}
use Rattle.sd_drive.specs.Receipt.{ReceiptIs}
use Rattle.sd_ledger.specs.Ledger.{IsAmong}
use Rattle.sd_line.specs.Ends.{RestsOn}
use Rattle.sd_line.specs.Goes.{IsReceiptOf}
use Rattle.sd_line.specs.Parts.{PartIs, KeepsPart}
use Rattle.sd_line.specs.Side.{CloseIs, KeepsSide, SideIs, TellsStand, ToldTokenIs}
use Rattle.sd_line.specs.Tells.{IsOfOwn, ShowsClose}
use Rattle.sd_session.specs.Session.{store_of}
use Rattle.sd_session.specs.declared.status.Status.TheVariants.{Closed}
use Rattle.sd_world.specs.Honest.{StoreIsTrue}
use Rattle.sd_theorem.specs.Returns.{Returns}
use Rattle.sd_theorem.specs.Start.{Meanings}

-- The close was told of the session of this part: under the lock it is among those that were told, whenever that is taken; it
-- tells what the part's lane had sent, and a receipt of the part's session for all that this sent; and the session is closed.
pub record WasToldClosed {D : Type 0} (meaning : D → Meaning) (table : ℕ → TableId) (time : ℕ → ℕ) (side : SideIs D) (part : PartIs) (c : CloseIs D) : Type 0 where
  pub keeps : KeepsSide meaning table time side
  pub place : ℕ
  pub among : slice_get side.told place ≡ Some c
  pub part_keeps : KeepsPart time part
  pub closed : part.session.status ≡ Closed
  pub sent_is : c.sent ≡ part.seat.seat.sent
  pub key_is : c.receipt.key ≡ part.session.key
  pub blocks_are : c.receipt.blocks ≡ part.session.sent
  pub own : IsOfOwn c.receipt c.sent

-- The close was told of the session of this part, as a token shows: each close that the token shows stands under the lock, whenever
-- that is taken; it shows one of all that the part's lane had sent, by this receipt; and the session is closed by that.
pub record WasShownClosed {D : Type 0} (meaning : D → Meaning) (time : ℕ → ℕ) (side : SideIs D) (token : ToldTokenIs D) (part : PartIs) (r : ReceiptIs) : Type 0 where
  pub stands : (told : List (CloseIs D)) → IsAmong told token.shown.shown → TellsStand meaning side.drive.device told
  pub shows : ShowsClose token part.seat.no part.seat.seat.sent r
  pub part_keeps : KeepsPart time part
  pub receipt_is : IsReceiptOf part.session r

-- Laws.

-- While the drive's device is honest, and the session doesn't spool or its lane's store is honest, the session returns from the
-- moment on that it was told closed: what any stop leaves, also one inside a call, and the stops of later runs that purged none
-- of its volumes, reads to exactly the records that the session was told to be taken, with its end label; and a later run that
-- adopted the volumes gives them.
abbrev pub ToldClosesComeBack : Type 0 → Type 0 → Type 0 → Type 0 → Type 0
ToldClosesComeBack D Q S Z = (is : Meanings D Q S) (table : ℕ → TableId) (time : ℕ → ℕ) (side : SideIs D) (part : PartIs) (c : CloseIs D)
    → WasToldClosed is.device table time side part c
    → IsHonest (is.device side.drive.device)
    → RestsOn part.spools (StoreIsTrue (store_of part.session))
    → Returns Z is c.receipt.key c.receipt.spans part.told (is.device c.drive.device).shelf (is.device side.drive.device).shelf

-- So it does from the moment on of which a token shows that it was told closed then.
abbrev pub ShownClosesComeBack : Type 0 → Type 0 → Type 0 → Type 0 → Type 0
ShownClosesComeBack D Q S Z = (is : Meanings D Q S) (time : ℕ → ℕ) (side : SideIs D) (token : ToldTokenIs D) (part : PartIs) (r : ReceiptIs)
    → (w : WasShownClosed is.device time side token part r)
    → IsHonest (is.device side.drive.device)
    → RestsOn part.spools (StoreIsTrue (store_of part.session))
    → Returns Z is r.key r.spans part.told (is.device w.shows.drive.device).shelf (is.device side.drive.device).shelf
