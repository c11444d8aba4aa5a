-- What contracts see of a board, and what it keeps.
use Rattle.std.specs.Prelude.{◌≡◌, ℕ, ◌+◌, ◌-◌, ◌≤◌, Option, Some, List, length, slice_get, slice_set}
use Rattle.sd_base.specs.Limits.{most_drives}
use Rattle.sd_line.specs.Ends.{EndIs}
use Rattle.sd_board.specs.Lines.{LinesIs}
use Rattle.sd_board.specs.Names.{NamesIs}
use Rattle.sd_board.specs.Slots.{DriveLanesIs, MayLie, lies_in}
use Rattle.sd_board.specs.declared.sent.Sent.{Sent}

-- A board: the names of volumes; the lanes of the drives 1, 2 and on; and the lines of the sessions.
pub record BoardIs : Type 0 where
  pub names : NamesIs
  pub drives : List DriveLanesIs
  pub lines : LinesIs

-- the drives are numbered 1, 2 and on
abbrev pub AreNumbered : List DriveLanesIs → Type 0
AreNumbered ds = (at : ℕ) (d : DriveLanesIs) → slice_get ds at ≡ Some d → d.no ≡ at + 1

-- what a board keeps of its drives
pub record KeepsBoard (b : BoardIs) : Type 0 where
  pub most : length b.drives ≤ most_drives
  pub numbered : AreNumbered b.drives

-- the slot of this end is there and empty, and its last session goes on no more
abbrev pub MayRest : List DriveLanesIs → EndIs → Type 0
MayRest ds e = (d : DriveLanesIs) × (slice_get ds (e.seat.no - 1) ≡ Some d) × MayLie d e

-- the end lies in its slot from now on, and nothing else changes
abbrev pub Rests : List DriveLanesIs → EndIs → Option Sent → List DriveLanesIs → Type 0
Rests ds e way ds' = (d : DriveLanesIs) × (slice_get ds (e.seat.no - 1) ≡ Some d) × MayLie d e
    × (ds' ≡ slice_set ds (e.seat.no - 1) (lies_in e way d))
