-- The numbers of sessions; and the lines of the board, which tell of each session its status, and how many records it took.
use Rattle.std.specs.Prelude.{◌≡◌, ◌≢◌, ℕ, ◌+◌, ◌-◌, ◌≤◌, Some, List, [], ◌∷◌, ◌++◌, length, slice_get}
use Rattle.sd_base.specs.Limits.{most_number}
use Rattle.sd_session.specs.declared.status.Status.{Status}
use Rattle.sd_session.specs.declared.status.Status.TheVariants.{Active}
use Rattle.sd_machine.specs.declared.view.SessionLine.{SessionLine}
use Rattle.sd_board.specs.Changes.{change_at}
use Rattle.sd_board.specs.declared.posted.Posted.{Posted}
use Rattle.sd_board.specs.declared.lines.Numbered.{Numbered}
use Rattle.sd_board.specs.declared.lines.Numbered.TheVariants.{Given, Elsewhere, Next, NoneLeft, NoRoom}

-- A line for each session that has a number, in the order of the numbers; and to how many sessions without one a line is
-- promised: each of them has room for it, whatever others open meanwhile.
pub record LinesIs : Type 0 where
  pub sessions : List Posted
  pub promised : ℕ

-- how many numbers were given
abbrev pub count_of : LinesIs → ℕ
count_of l = length l.sessions

-- the number that is given next
abbrev pub next_number : LinesIs → ℕ
next_number l = count_of l + 1

-- Numbers were given from 1 on, one after the other: none was left out, and none was given twice.
pub record KeepsLines (l : LinesIs) : Type 0 where
  pub most : count_of l ≤ most_number
  pub tickets : (at : ℕ) (p : Posted) → slice_get l.sessions at ≡ Some p → p.ticket ≡ at + 1

-- a line is promised to one session more
abbrev pub promised_more : LinesIs → LinesIs
promised_more l = record l { promised = l.promised + 1 }

-- and to one less
abbrev pub promised_less : LinesIs → LinesIs
promised_less l = record l { promised = l.promised - 1 }

-- the line of a session that has just been opened, by this lane of this drive
abbrev pub new_line : ℕ → ℕ → ℕ → Posted
new_line ticket drive lane = record { ticket = ticket; drive = drive; lane = lane; status = Active; records = 0 }

-- the lines once a number was given: one more, which is promised no longer
abbrev pub given_in : ℕ → ℕ → ℕ → LinesIs → LinesIs
given_in ticket drive lane l = record { sessions = l.sessions ++ new_line ticket drive lane ∷ []; promised = l.promised - 1 }

-- What giving a number comes to at the lines. It is given exactly if it is the next one; another one isn't, and the next one is
-- told. There is always room for a line that was promised. If the number isn't given, nothing changes. (Of drives the lines know
-- nothing.)
abbrev pub GivesNumber : Numbered → ℕ → ℕ → ℕ → LinesIs → LinesIs → Type 0
GivesNumber Given ticket drive lane old new = (ticket ≡ next_number old) × (new ≡ given_in ticket drive lane old)
GivesNumber Elsewhere ticket drive lane old new = ⊥
GivesNumber (Next next) ticket drive lane old new = (next ≡ next_number old) × (ticket ≢ next) × (new ≡ old)
GivesNumber NoneLeft ticket drive lane old new = (count_of old ≡ most_number) × (new ≡ old)
GivesNumber NoRoom ticket drive lane old new = (old.promised ≡ 0) × (new ≡ old)

-- the line says this
abbrev pub says : Status → ℕ → Posted → Posted
says status records p = record p { status = status; records = records }

-- the lines once that of a ticket says this, if there is one
abbrev pub posted_in : ℕ → Status → ℕ → LinesIs → LinesIs
posted_in ticket status records l = record l { sessions = change_at (says status records) (ticket - 1) l.sessions }

-- what a status shows of it
abbrev pub session_line : Posted → SessionLine
session_line p = record { ticket = p.ticket; status = p.status; records = p.records }
