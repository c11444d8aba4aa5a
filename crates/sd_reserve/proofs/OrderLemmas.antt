-- Drives are ordered by whether a volume of the pool is loaded, and then by their sessions.
use Rattle.std.proofs.Common.{◌≡◌, ◌⊎◌, inl, inr, ℕ, ◌<◌, ◌≤◌, List, sym, ◌∙◌, arith}
use Rattle.std.proofs.lemmas.Bool.{cases_lt}
use Rattle.sd_reserve.specs.Reserve.{rank, Precedes}
use Rattle.sd_reserve.proofs.FirstLemmas.{IsOrder}

less_trans : (a s b t c u : ℕ) → (a < b) ⊎ ((a ≡ b) × (s < t)) → (b < c) ⊎ ((b ≡ c) × (t < u)) → (a < c) ⊎ ((a ≡ c) × (s < u))
less_trans a s b t c u (inl x) (inl y) = inl (omega arith)
less_trans a s b t c u (inl x) (inr (e, y)) = inl (omega arith)
less_trans a s b t c u (inr (e, x)) (inl y) = inl (omega arith)
less_trans a s b t c u (inr (e, x)) (inr (e', y)) = inr (e ∙ e', omega arith)

-- what isn't below the second is above the first
less_past : (a s b t c u : ℕ) → (a < b) ⊎ ((a ≡ b) × (s < t)) → ((c < b) ⊎ ((c ≡ b) × (u < t)) → ⊥) → (a < c) ⊎ ((a ≡ c) × (s < u))
less_past a s b t c u x never = elim (cases_lt c b) [
  | inl lt ↦ absurd (never (inl lt))
  | inr le ↦ (elim (cases_lt b c) [
    | inl above ↦ less_above a s b t c u x above
    | inr le' ↦ (let e : c ≡ b = omega arith in elim (cases_lt u t) [
      | inl lt ↦ absurd (never (inr (e, lt)))
      | inr more ↦ less_level a s b t c u x e more
    ])
  ])
]
  where
    less_above : (a s b t c u : ℕ) → (a < b) ⊎ ((a ≡ b) × (s < t)) → b < c → (a < c) ⊎ ((a ≡ c) × (s < u))
    less_above a s b t c u (inl x) above = inl (omega arith)
    less_above a s b t c u (inr (e, x)) above = inl (omega arith)

    less_level : (a s b t c u : ℕ) → (a < b) ⊎ ((a ≡ b) × (s < t)) → c ≡ b → t ≤ u → (a < c) ⊎ ((a ≡ c) × (s < u))
    less_level a s b t c u (inl x) e more = inl (omega arith)
    less_level a s b t c u (inr (e', x)) e more = inr (e' ∙ sym e, omega arith)

pub precedes_is_order : (pool : List ℕ) → IsOrder (Precedes pool)
precedes_is_order pool = record {
  trans = λ x y z. less_trans (rank pool x) x.sessions (rank pool y) y.sessions (rank pool z) z.sessions;
  past = λ x y z. less_past (rank pool x) x.sessions (rank pool y) y.sessions (rank pool z) z.sessions;
}
