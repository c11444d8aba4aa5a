-- The kinds of call that a plan counts apart.
use Rattle.std.specs.Prelude.{ℕ, Bool}

-- what a plan has to know of the kinds of call: the place of each one's count, and which of them append
pub record Kinds (K : Type 0) : Type 0 where
  pub place : K → ℕ
  pub appends : K → Bool
