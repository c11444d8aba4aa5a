-- What sums mean.
use Rattle.std.specs.Prelude.{ℕ, List, [], ◌∷◌, drop, fold, bit_xor}
use Rattle.sd_crc.specs.Crc32.{byte_step}

-- Two lists of bytes added place by place, by exclusive or. If one is longer, the rest of it stays.
abbrev pub added : List ℕ → List ℕ → List ℕ
added [] ys = ys
added (x ∷ xs) [] = x ∷ xs
added (x ∷ xs) (y ∷ ys) = bit_xor x y ∷ added xs ys

-- The bytes that follow 300 sums, with what those add to them: each sum, to the bytes 145, 183, 211
-- and 300 places after it.
abbrev pub with_sums : List ℕ → List ℕ → List ℕ
with_sums sums bytes =
    added (drop 155 sums) (added (drop 117 sums) (added (drop 89 sums) (added sums bytes)))

-- The register after the bytes that follow 300 sums.
unfoldable pub register_after : List ℕ → List ℕ → ℕ
register_after sums bytes = fold byte_step 0 (with_sums sums bytes)
