-- How a count of failures tells of them. It stays at the greatest value of 64 bits.
use Rattle.std.specs.Prelude.{◌≡◌, ◌↔◌, ℕ, ◌+◌, ◌<◌, ◌≤◌, ◌-◌, ◌^◌, ◌⊎◌, min}

-- a count rose, or is at the greatest value of 64 bits
abbrev pub Rose : ℕ → ℕ → Type 0
Rose old new = (old < new) ⊎ (new ≡ 2 ^ 64 - 1)

-- the count doesn't fall; a call failed exactly if a failure was counted, or if the count can't rise any more
pub record CountsUp (failed : Type 0) (old new : ℕ) : Type 0 where
  pub later : old ≤ new
  pub rose : failed ↔ Rose old new

-- if a call failed, the count rose by one, and if it didn't, the count is as it was
pub record CountsOnce (failed : Type 0) (old new : ℕ) : Type 0 where
  pub rose : failed → new ≡ min (old + 1) (2 ^ 64 - 1)
  pub stayed : ¬ failed → new ≡ old

-- no further failure can be counted
abbrev pub IsSpent : ℕ → Type 0
IsSpent count = count ≡ 2 ^ 64 - 1

-- a count, as far as 64 bits can say it
abbrev pub counted : ℕ → ℕ
counted n = min n (2 ^ 64 - 1)
