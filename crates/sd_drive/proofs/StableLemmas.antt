-- A call that changed no volume shows that the shelf left stable what it said.
use Rattle.std.proofs.Common.{◌≡◌, suc, ◌⊎◌, inl, inr, ap, sym, ◌∙◌, arith}
use Rattle.sd_driver.specs.Shelf.{Shelf, stable_bytes, SameShelf, OtherShelf, Passes}
use Rattle.sd_drive.specs.Shelf.{LeavesStable}

-- no volume changed, so no moment passed
same_moment : (old new : Shelf) → Passes old new → SameShelf old new → new.moment ≡ old.moment
same_moment old new passes same = of passes.moments
  where
    of : (SameShelf old new × (new.moment ≡ old.moment)) ⊎ (OtherShelf old new × (new.moment ≡ suc old.moment)) → new.moment ≡ old.moment
    of (inl stays) = stays.1
    of (inr other) = absurd (other.0.1 (same other.0.0))

pub shown_by_unload : (old new : Shelf) → Passes old new → SameShelf old new → LeavesStable old
shown_by_unload old new passes same name =
    let when = same_moment old new passes same in
    sym (passes.past old.moment name (omega arith)) ∙ ap (λ m. new.kept m name) (sym when) ∙ passes.now name ∙ ap stable_bytes (same name)
