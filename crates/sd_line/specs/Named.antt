-- What is named for the drive of a number before its line is made.
use Rattle.std.specs.Prelude.{◌≡◌, ℕ}
use Rattle.atomic_table.specs.Seated.{TableId}
use Rattle.sd_line.specs.Side.{book_of}

-- the tables of a queue and of a ledger
pub record TablesIs : Type 0 where
  pub queue : TableId
  pub book : TableId

-- they are those that are named for the drive of this number
pub record AreNamedFor (table : ℕ → TableId) (no : ℕ) (t : TablesIs) : Type 0 where
  pub queue_is : t.queue ≡ table no
  pub book_is : t.book ≡ table (book_of no)
