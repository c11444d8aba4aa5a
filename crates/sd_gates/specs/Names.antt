-- The names of lines of which none is made yet.
use Rattle.std.specs.Prelude.{◌≡◌, ◌≤◌, ◌+◌, ℕ, List, Some, slice_get}
use Rattle.atomic_table.specs.Seated.{TableId}
use Rattle.sd_base.specs.Limits.{most_drives}
use Rattle.sd_line.specs.Named.{AreNamedFor, TablesIs}

-- the queue and the ledger of each drive, in order, are named for its number, and each run has the time 1000
pub record AreNamed (table : ℕ → TableId) (time : ℕ → ℕ) (all : List TablesIs) : Type 0 where
  pub tables : (k : ℕ) (one : TablesIs) → slice_get all k ≡ Some one → k + 1 ≤ most_drives → AreNamedFor table (k + 1) one
  pub times : (no : ℕ) → time no ≡ 1000
