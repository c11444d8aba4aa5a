-- The receipts of the sessions that were closed at a drive.
use Rattle.std.specs.Prelude.{ℕ, List}
use Rattle.sd_drive.specs.Receipt.{ReceiptIs}

-- those that are kept, in the order of the closes; and for how many more there is room that was promised
pub record ReceiptsAre : Type 0 where
  pub kept : List ReceiptIs
  pub promised : ℕ
