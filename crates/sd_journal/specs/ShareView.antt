-- What contracts see of what a journal keeps of one session.
use Rattle.std.specs.Prelude.{ℕ, List, Bool}
use Rattle.sd_journal.specs.declared.stretch.Stretch.{Stretch}

-- all that clauses say of it
pub record ShareView : Type 0 where
  pub stretches : List Stretch
  -- how many blocks of the session were placed
  pub placed : ℕ
  -- its last FileIndex that is not 0, 0 if none
  pub last : ℕ
  -- there is room for one stretch more
  pub ready : Bool
