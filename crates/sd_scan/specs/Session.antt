-- What the bodies of one session tell: how far its records are there.
use Rattle.std.specs.Prelude.{◌≡◌, ◌⊎◌, ℕ, ◌-◌, Bool, true, false, List, [], ◌∷◌, ◌++◌, length, Option, Some, None}
use Rattle.sd_base.specs.Record.{Record}
use Rattle.sd_label.specs.Cutting.{Standing, Cuts, Holds, total_bytes}
use Rattle.sd_label.specs.declared.label.SessionLabel.{SessionLabel}
use Rattle.sd_span.specs.Spans.{stretches}
use Rattle.sd_span.specs.declared.placement.Placement.{Placement}
use Rattle.sd_unpack.specs.Unpacking.{Unpacking, Unpacks}
use Rattle.sd_base.specs.Count.{counted}
use Rattle.sd_scan.specs.Found.{BeginsWithStart, IsShownAt}
use Rattle.sd_scan.specs.declared.report.Start.{Start}
use Rattle.sd_scan.specs.declared.session.Session.{Session}

-- The job, the pool and the moment are those of the start label that the body begins with; none if it begins with none.
abbrev pub IsStartOf : List ℕ → Option Start → Type 0
IsStartOf body None = (label : SessionLabel) → ¬ BeginsWithStart body label
IsStartOf body (Some start) =
    (label : SessionLabel) × BeginsWithStart body label × (start.job ≡ label.job) × (start.pool ≡ label.pool)
    × IsShownAt label.moment start.moment

-- after these bodies the next one can't come: no cutting of records begins with them and it
abbrev pub Stops : List (List ℕ) → List (List ℕ) → Type 0
Stops front [] = ⊥
Stops front (body ∷ rest) = (records : List Record) (standing : Standing) → ¬ Holds (front ++ body ∷ []) records standing

-- the records are those that are whole in the bodies, of which there may be none
abbrev pub HoldsSome : List (List ℕ) → List Record → Type 0
HoldsSome bodies records =
    ((bodies ≡ []) × (records ≡ [])) ⊎ ((standing : Standing) × Holds bodies records standing)

-- Whether a session is broken: after some of its bodies the next one can't come. If it isn't, the bodies hold records.
abbrev pub Breaks : List (List ℕ) → Bool → Type 0
Breaks bodies true = (front : List (List ℕ)) × (rest : List (List ℕ)) × (bodies ≡ front ++ rest) × Stops front rest
Breaks bodies false = (records : List Record) × HoldsSome bodies records

-- What the bodies of a session come to. The records and bytes told are those that are whole in the first of the
-- bodies, as many of them as begin a cutting; and it is told as ended exactly if all the bodies are a cutting with its
-- end label. So a session that lacks a record, or the end label with the totals of just these records, is never told as
-- ended.
pub record ReadsTo (bodies : List (List ℕ)) (records bytes : ℕ) (ended : Bool) : Type 0 where
  pub front : List (List ℕ)
  pub rest : List (List ℕ)
  pub taken : List Record
  pub bodies_are : bodies ≡ front ++ rest
  pub holds : HoldsSome front taken
  pub stops : (rest ≡ []) ⊎ Stops front rest
  pub records_are : records ≡ counted (length taken)
  pub bytes_are : bytes ≡ counted (total_bytes taken)
  pub ended_is : ended ≡ true → Cuts bodies taken true × (records ≡ length taken) × (bytes ≡ total_bytes taken)
  pub whole : (list : List Record) → Cuts bodies list true → ended ≡ true

-- What is kept of the bodies of a session.

-- An unpacker took the first of the bodies, and its records were counted and let go: of all bodies, or, if one is
-- damaged, of those before it.
pub record Took (bodies : List (List ℕ)) (view : Unpacking) (records bytes : ℕ) (damaged : Bool) : Type 0 where
  pub front : List (List ℕ)
  pub rest : List (List ℕ)
  pub taken : List Record
  pub bodies_are : bodies ≡ front ++ rest
  pub unpacks : Unpacks front taken view
  pub none_waits : view.ready ≡ []
  pub records_are : records ≡ counted (length taken)
  pub bytes_are : bytes ≡ counted (total_bytes taken)
  pub whole : damaged ≡ false → (rest ≡ []) × (view.damage ≡ None)
  pub stopped : damaged ≡ true → Stops front rest

-- a session whose first body is this one is in this state after its blocks at these placements, with these bodies
pub record StandsFor (first : List ℕ) (own : List Placement) (bodies : List (List ℕ)) (s : Session) : Type 0 where
  pub start_is : IsStartOf first s.start
  pub stretches_are : s.stretches.items ≡ stretches own
  pub took : Took bodies s.unpacker s.records s.bytes s.damaged
