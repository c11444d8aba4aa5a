-- Small facts on tickets and statuses.
use Rattle.std.proofs.Common.{◌≡◌, ◌≢◌, ℕ, ◌==◌, cond, sym, subst, inl, inr}
use Rattle.std.proofs.lemmas.Bool.Decides.{eqb_tells}
use Rattle.sd_session.specs.declared.status.Status.{Status}
use Rattle.sd_session.specs.declared.status.Status.TheVariants.{Closed}
use Rattle.sd_session.specs.Session.{IsRunning}
use Rattle.sd_machine.specs.Kept.{IsClosedOrPurged}

-- what a test of two numbers chooses has what both sides have
pub chosen : {X : Type 0} (P : X → Type 0) (a b : ℕ) (x y : X) → (a ≡ b → P x) → (a ≢ b → P y) → P (cond (a == b) x y)
chosen P a b x y same other =
    elim (eqb_tells a b) [
      | inl p ↦ subst (λ c. P (cond c x y)) (sym p.0) (same p.1)
      | inr p ↦ subst (λ c. P (cond c x y)) (sym p.0) (other p.1)
    ]

-- who goes on isn't closed
pub not_closed : (status : Status) → IsRunning status → status ≡ Closed → ⊥
not_closed status (inl is) e = cc
not_closed status (inr is) e = cc

-- who goes on is neither closed nor purged
pub not_over : (status : Status) → IsRunning status → IsClosedOrPurged status → ⊥
not_over status (inl is) (inl e) = cc
not_over status (inl is) (inr e) = cc
not_over status (inr is) (inl e) = cc
not_over status (inr is) (inr e) = cc
