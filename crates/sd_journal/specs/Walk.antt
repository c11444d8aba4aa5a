-- How a session's own blocks are found among cells: one cell after the other.
use Rattle.std.specs.Prelude.{ℕ, List, [], ◌∷◌, ◌++◌, if◌then◌else◌}
use Rattle.sd_base.specs.Key.{is_key}
use Rattle.sd_base.specs.declared.number.SessionKey.{SessionKey}
use Rattle.sd_journal.specs.Cells.{behind, told_by}
use Rattle.sd_journal.specs.Noted.{index_after}
use Rattle.sd_journal.specs.declared.cells.Cell.{Cell}
use Rattle.sd_journal.specs.declared.cells.Tail.{Tail}
use Rattle.sd_journal.specs.declared.cells.Walked.{Walked}
use Rattle.sd_journal.specs.declared.noted.Noted.{Noted}

-- what was found so far
pub record Walk : Type 0 where
  -- the session's blocks
  pub own : List Noted
  -- where the last block ends
  pub tail : Tail
  -- the session's last FileIndex that is not 0
  pub was : ℕ

-- what a walk among cells holds
abbrev pub walk_of : Walked → Walk
walk_of w = record { own = w.own.items; tail = w.tail; was = w.was }

-- with one block more, which is the session's or another's
abbrev pub with_next : SessionKey → Walk → Noted → Walk
with_next key w n = record {
  own = if is_key key n.key then w.own ++ n ∷ [] else w.own;
  tail = behind n;
  was = index_after key w.was n;
}

-- with the block that one cell more tells
abbrev pub walk_step : List Noted → SessionKey → Walk → Cell → Walk
walk_step whole key w c = with_next key w (told_by whole c w.was w.tail)
