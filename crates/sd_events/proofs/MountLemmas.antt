-- A mount that is answered.
use Rattle.std.proofs.Common.{◌≡◌, ◌⊎◌, Option, Some, None, refl, inl, inr}
use Rattle.sd_base.specs.declared.refusal.Refusal.{Refusal}

-- a refusal is due, or none is
pub due_or : (o : Option Refusal) → (o ≡ None) ⊎ ((f : Refusal) × (o ≡ Some f))
due_or None = inl refl
due_or (Some f) = inr (f, refl)
