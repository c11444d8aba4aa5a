-- How far the fragments of a session have come.
use Rattle.std.specs.Prelude.{◌≡◌, ◌≢◌, ◌⊎◌, ℕ, pos, ◌+◌, ◌^◌, ◌≤◌, Option, Some, None, List, [], ◌∷◌, ◌++◌, length}
use Rattle.std.specs.List.{AllByRecursion}
use Rattle.sd_base.specs.Record.{Record, IsRecord}
use Rattle.sd_base.specs.Limits.{most_number, most_data}
use Rattle.sd_record.specs.Fragment.{Fragment, Continue, Fragments, FragmentsOfAll}
use Rattle.sd_label.specs.declared.label.SessionLabel.{SessionLabel}
use Rattle.sd_label.specs.declared.label.Totals.{Totals}
use Rattle.sd_label.specs.Label.{session_label_fragment}
use Rattle.sd_label.specs.Cutting.{Standing, Between, Within, AtEnd, IsStart, IsSession, total_bytes}
use Rattle.sd_unpack.specs.declared.stage.Due.{Due}
use Rattle.sd_unpack.specs.declared.stage.Stage.{Stage}
use Rattle.sd_unpack.specs.declared.stage.Stage.TheVariants.{Fresh, Whole, Partway, Closed}

-- a record that could begin so: its index and its stream are in range, and so is what has come of
-- its data with what is due, which is a byte or more
pub record CouldBeRecord (due : Due) (so_far : List ℕ) : Type 0 where
  pub index_least : 1 ≤ due.index
  pub index_most : due.index ≤ most_number
  pub stream_least : 1 ≤ due.stream
  pub stream_most : due.stream ≤ most_number
  pub left_least : 1 ≤ due.left
  pub data_most : length so_far + due.left ≤ most_data

-- the record that is due, once these are its last bytes
abbrev pub due_record : Due → List ℕ → Record
due_record due bytes = record { index = due.index; stream = due.stream; bytes = bytes }

-- The first fragments of the record that is due, with the data in them. Whatever the bytes are that
-- are still to come, and however they are cut: with them these are that record's fragments.
pub record Opens (behind : List Fragment) (due : Due) (so_far : List ℕ) : Type 0 where
  pub some_there : behind ≢ []
  pub due_is : CouldBeRecord due so_far
  pub whatever_comes : (rest : List ℕ) (more : List Fragment) → length rest ≡ due.left
      → Continue (pos due.index) (pos due.stream) rest more
      → Fragments (due_record due (so_far ++ rest)) (behind ++ more)

-- the fragments of a session whose last record isn't whole
pub record IsPartway (fs : List Fragment) (records : List Record) (due : Due) (so_far : List ℕ)
    : Type 0 where
  pub start : SessionLabel
  pub parts : List Fragment
  pub behind : List Fragment
  pub order : fs ≡ session_label_fragment start ∷ (parts ++ behind)
  pub start_is : IsStart start
  pub records_are : AllByRecursion IsRecord records
  pub parts_are : FragmentsOfAll records parts
  pub behind_is : Opens behind due so_far

-- the fragments have come to this stage, with these whole records, and so much of one more
abbrev pub Reaches : Stage → List Fragment → List Record → List ℕ → Type 0
Reaches Fresh fs records so_far = (fs ≡ []) × (records ≡ [])
Reaches Whole fs records so_far = IsSession fs records Between
Reaches (Partway due) fs records so_far = IsPartway fs records due so_far
Reaches Closed fs records so_far = IsSession fs records AtEnd

-- the standing of a session at this stage, once its start label is there
abbrev pub standing_at : Stage → Option Standing
standing_at Fresh = None
standing_at Whole = Some Between
standing_at (Partway due) = Some Within
standing_at Closed = Some AtEnd

-- no record is unfinished
abbrev pub IsAtRest : Stage → Type 0
IsAtRest Fresh = Unit {0}
IsAtRest Whole = Unit {0}
IsAtRest (Partway due) = ⊥
IsAtRest Closed = Unit {0}

-- what is due of an unfinished record is in range
abbrev pub IsStage : Stage → List ℕ → Type 0
IsStage Fresh so_far = Unit {0}
IsStage Whole so_far = Unit {0}
IsStage (Partway due) so_far = CouldBeRecord due so_far
IsStage Closed so_far = Unit {0}

-- the totals of the records; none if they are more than an end label can hold
abbrev pub AreTotalsOf : Option Totals → List Record → Type 0
AreTotalsOf None records = (2 ^ 64 ≤ length records) ⊎ (2 ^ 64 ≤ total_bytes records)
AreTotalsOf (Some totals) records =
    totals ≡ record { records = length records; bytes = total_bytes records }
