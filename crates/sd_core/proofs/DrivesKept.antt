-- What is known of each drive, place by place.
use Rattle.std.proofs.Common.{◌≡◌, ℕ, ◌+◌, ◌<◌, inl, inr, sym, ap, subst, ◌∙◌, arith, Some, List, get_or, slice_get, IfSome}
use Rattle.std.proofs.lemmas.Option.{get_or_from_slice_get}
use Rattle.sd_driver.specs.Meaning.{Meaning}
use Rattle.sd_drive.specs.Shelf.{Kept}
use Rattle.sd_drive.specs.View.{DriveIs}
use Rattle.sd_world.specs.World.{BayView}
use Rattle.sd_world.proofs.Lookups.{one_or_two}

-- a drive keeps what every drive keeps
abbrev pub Keeps : {D : Type 0} → (D → Meaning) → DriveIs D → Type 0
Keeps meaning d = Kept (meaning d.device) d.volumes d.loaded d.journal

-- each of the drives in the first bays keeps it
abbrev pub FirstKeep : {D : Type 0} → (D → Meaning) → List (BayView D) → ℕ → Type 0
FirstKeep {D} meaning bays n = (at : ℕ) (bay : BayView D) (d : DriveIs D) → at < n → slice_get bays at ≡ Some bay → bay.drive ≡ Some d → Keeps meaning d

-- so does one more
pub keep_more : {D : Type 0} (meaning : D → Meaning) (bays : List (BayView D)) (n : ℕ) (read : BayView D) → FirstKeep meaning bays n
    → read ≡ get_or bays n read → IfSome read.drive (Keeps meaning) → FirstKeep meaning bays (n + 1)
keep_more {D} meaning bays n read first is here at bay d below there online =
    elim (one_or_two at n) [
      | inl same ↦
          let one : read ≡ bay = is ∙ ap (λ k. get_or bays k read) (sym same) ∙ get_or_from_slice_get bays at bay read there in
          let on : read.drive ≡ Some d = ap (λ (b : BayView D). b.drive) one ∙ online in
          let K : _ → Type 0 = λ o. IfSome o (Keeps meaning) in
          subst K on here
      | inr apart ↦ first at bay d (omega (arith, below, apart)) there online
    ]
