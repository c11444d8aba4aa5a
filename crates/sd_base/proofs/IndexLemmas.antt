-- The first of numbers that is not 0.
use Rattle.std.proofs.Common.{◌≡◌, ℕ, zero, suc, refl}
use Rattle.sd_base.specs.FileIndex.{first_nonzero}

pub first_nonzero-zero : (x : ℕ) → first_nonzero x 0 ≡ x
first_nonzero-zero zero = refl
first_nonzero-zero (suc x) = refl

pub first_nonzero_assoc : (x y z : ℕ) → first_nonzero (first_nonzero x y) z ≡ first_nonzero x (first_nonzero y z)
first_nonzero_assoc zero y z = refl
first_nonzero_assoc (suc x) y z = refl
