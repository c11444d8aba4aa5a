-- Which fault a line has, by what is found of it.
use Rattle.std.proofs.Common.{◌≡◌, ◌≢◌, ℕ, zero, suc, ◌<◌, refl, sym, ap, subst, ◌∙◌, inl, inr, Option, Some, None, List, [], ◌∷◌, ◌++◌, drop, take, slice_get}
use Rattle.std.specs.List.{remove}
use Rattle.std.specs.Prelude.{IfNone, IfSome}
use Rattle.sd_base.proofs.ChoiceLemmas.{same_some}
use Rattle.sd_base.specs.declared.number.SessionKey.{SessionKey}
use Rattle.sd_drive.specs.Receipt.{ReceiptIs}
use Rattle.sd_drive.specs.View.{DriveIs}
use Rattle.sd_line.specs.Side.{LineIs, SideIs}
use Rattle.sd_line.specs.Ends.{EndIs}
use Rattle.sd_hub.specs.Settles.{AllThere, AreDistinct, AreSettled, CheckedIs, FaultOf, HasKeys, HasLanes, HasSynced, HasUnsettled, IsGiven, IsMissing, checked_of, sessions_to, times_of}
use Rattle.sd_hub.specs.declared.fault.SettleFault.TheVariants.{MissingLane, DoubleKey, Unsynced, Foreign}

-- Of the lanes and of their sessions: the line has this number and so many lanes.
module _ {D : Type 0} (line : LineIs) (side : SideIs D) (ends : List EndIs) (receipts : List ReceiptIs) (no lanes : ℕ) (own : line.no ≡ no) (many : lanes ≡ side.seat.lanes) where
  -- what is found by that number, of the line
  of_line : (P : ℕ → ℕ → Type 0) → P no lanes → P line.no side.seat.lanes
  of_line P h = subst (λ (m : ℕ). P m side.seat.lanes) (sym own) (subst (λ (n : ℕ). P no n) many h)

  pub lane_missing : (lane : ℕ) → side.no ≡ no → IsMissing no lanes ends lane → FaultOf (checked_of line side ends receipts) (MissingLane lane) receipts
  lane_missing lane same missing = (refl, inl (same ∙ sym own, of_line (λ m n. IsMissing m n ends lane) missing))

  pub no_lane : side.no ≢ no → FaultOf (checked_of line side ends receipts) (MissingLane 1) receipts
  no_lane apart = (refl, inr ((λ e. apart (e ∙ own)), refl))

  pub has_lanes : side.no ≡ no → AllThere no lanes ends → HasLanes (checked_of line side ends receipts)
  has_lanes same there = record { no_is = same ∙ sym own; there = of_line (λ m n. AllThere m n ends) there }

  pub key_double : (key : SessionKey) → HasLanes (checked_of line side ends receipts) → 1 < times_of key (sessions_to no lanes ends)
      → FaultOf (checked_of line side ends receipts) (DoubleKey key) receipts
  key_double key has twice = (refl, has, of_line (λ m n. 1 < times_of key (sessions_to m n ends)) twice)

  pub has_keys : HasLanes (checked_of line side ends receipts) → AreDistinct (sessions_to no lanes ends) → HasKeys (checked_of line side ends receipts)
  has_keys has apart = record { lanes = has; distinct = of_line (λ m n. AreDistinct (sessions_to m n ends)) apart }

  pub key_unsynced : (key : SessionKey) → HasKeys (checked_of line side ends receipts) → HasUnsettled side.drive.journal (sessions_to no lanes ends) key
      → FaultOf (checked_of line side ends receipts) (Unsynced key) receipts
  key_unsynced key has unsettled = (refl, has, of_line (λ m n. HasUnsettled side.drive.journal (sessions_to m n ends) key) unsettled)

  pub has_synced : HasKeys (checked_of line side ends receipts) → AreSettled side.drive.journal (sessions_to no lanes ends) → HasSynced (checked_of line side ends receipts)
  has_synced has settled = record { keys = has; settled = of_line (λ m n. AreSettled side.drive.journal (sessions_to m n ends)) settled }

-- Of the receipts.

out_at : {A : Type 0} (xs : List A) (at : ℕ) (x : A) → slice_get xs at ≡ Some x → xs ≡ take at xs ++ x ∷ drop (suc at) xs
out_at [] at x there = absurd (cc there)
out_at (y ∷ xs) zero x there = ap (λ z. z ∷ xs) (same_some there)
out_at (y ∷ xs) (suc at) x there = ap (λ l. y ∷ l) (out_at xs at x there)

pub is_foreign : {D : Type 0} (c : CheckedIs D) (at : ℕ) (found out : ReceiptIs) → HasSynced c → slice_get c.receipts at ≡ Some found → (IsGiven c.side.drive.journal found → ⊥)
    → slice_get c.receipts at ≡ Some out → FaultOf c (Foreign out) (remove c.receipts at)
is_foreign c at found out synced there not there' =
    let same : found ≡ out = same_some (sym there ∙ there') in
    (synced, subst (λ (r : ReceiptIs). IsGiven c.side.drive.journal r → ⊥) same not, (take at c.receipts, drop (suc at) c.receipts, out_at c.receipts at out there', refl))

-- what is known of the drive and of the receipts, by other names for them
pub all_given : {D : Type 0} (found : Option ℕ) (d d' : DriveIs D) (rs rs' : List ReceiptIs) → found ≡ None → d ≡ d' → rs ≡ rs'
    → IfNone found ((at : ℕ) (r : ReceiptIs) → slice_get rs at ≡ Some r → IsGiven d.journal r) → (at : ℕ) (r : ReceiptIs) → slice_get rs' at ≡ Some r → IsGiven d'.journal r
all_given (Some x) d d' rs rs' is same alike given at r there = absurd (cc is)
all_given {D} None d d' rs rs' is same alike given at r there =
    subst (λ (x : DriveIs D). IsGiven x.journal r) same (given at r (ap (λ (l : List ReceiptIs). slice_get l at) alike ∙ there))

pub one_foreign : {D : Type 0} (found : Option ℕ) (at : ℕ) (d d' : DriveIs D) (rs rs' : List ReceiptIs) → found ≡ Some at → d ≡ d' → rs ≡ rs'
    → IfSome found (λ k. (r : ReceiptIs) × (slice_get rs k ≡ Some r) × (IsGiven d.journal r → ⊥)) → (r : ReceiptIs) × (slice_get rs' at ≡ Some r) × (IsGiven d'.journal r → ⊥)
one_foreign None at d d' rs rs' is same alike one = absurd (cc is)
one_foreign {D} (Some k) at d d' rs rs' is same alike (r, there, not) =
    let here : k ≡ at = same_some is in
    (r, ap (λ (l : List ReceiptIs). slice_get l at) (sym alike) ∙ (ap (slice_get rs) (sym here) ∙ there), subst (λ (x : DriveIs D). IsGiven x.journal r → ⊥) same not)
