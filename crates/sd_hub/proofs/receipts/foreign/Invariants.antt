use Rattle.std.proofs.Common.{◌≡◌, ◌<◌, ℕ, Some, slice_get}
use Rattle.sd_drive.specs.Receipt.{ReceiptIs}
use Rattle.sd_hub.specs.Settles.{IsGiven}
use Rattle.sd_hub.proofs.receipts.foreign.Given as goal

-- the drive gives the receipts so far
abbrev pub invariant-loop-at : goal.invariant-loop-at
invariant-loop-at g l = (k : ℕ) → k < l.at → (r : ReceiptIs) → slice_get l.receipts k ≡ Some r → IsGiven l.drive.journal r
