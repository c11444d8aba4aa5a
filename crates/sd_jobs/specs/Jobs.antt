-- What contracts see of a job, what it does to its part, and what it comes to.
use Rattle.std.specs.Prelude.{◌≡◌, ℕ, ◌≤◌, ℤ, List, [], ◌∷◌, take, length, Option, None, Some, slice_get}
use Rattle.sd_base.specs.Record.{Record}
use Rattle.sd_drive.specs.Receipt.{ReceiptIs}
use Rattle.sd_line.specs.declared.stop.Stop.{Stop}
use Rattle.sd_line.specs.declared.stop.Stop.TheVariants.{Done, OutOfTurns, Refused, NoThread}
use Rattle.sd_line.specs.Side.{LineIs}
use Rattle.sd_line.specs.Ends.{EndIs}
use Rattle.sd_line.specs.Parts.{PartIs, end_of}
use Rattle.sd_line.specs.Goes.{GoesOn, StopsShort, IsReceiptOf, IsGivenUp}

-- a job: the place of its line among the lines, its part, its records, and the moment of its end label
pub record JobIs : Type 0 where
  pub line : ℕ
  pub part : PartIs
  pub recs : List Record
  pub moment : ℤ

-- what a job came to: the end of its lane, how many of its records were taken, its receipt, and what stopped it
pub record JobEndIs : Type 0 where
  pub lane_end : EndIs
  pub taken : ℕ
  pub receipt : Option ReceiptIs
  pub stop : Stop

-- the job names a line that is there, and whose lane its part has
abbrev pub HasLine : List LineIs → JobIs → Type 0
HasLine lines job = (line : LineIs) × (slice_get lines job.line ≡ Some line) × (job.part.seat.no ≡ line.no)

-- each job names one of these lines, by the numbers of their drives, and has a part of its lane
abbrev pub FitPlaces : List ℕ → List JobIs → Type 0
FitPlaces numbers jobs = (k : ℕ) (job : JobIs) → slice_get jobs k ≡ Some job → slice_get numbers job.line ≡ Some job.part.seat.no

-- What a job came to, by what stopped it, and its part by then. Done: all records were taken, the session is closed, and
-- there is its receipt. Else there is none. If there was no thread for it, it was given up.
abbrev pub StopsBy : Stop → JobIs → JobEndIs → PartIs → Type 0
StopsBy Done job end part = (end.taken ≡ length job.recs) × (r : ReceiptIs) × (end.receipt ≡ Some r) × IsReceiptOf part.session r
StopsBy OutOfTurns job end part = end.receipt ≡ None
StopsBy (Refused why) job end part = (end.receipt ≡ None) × StopsShort (Refused why) part.session
StopsBy NoThread job end part = (end.receipt ≡ None) × (end.taken ≡ 0) × IsGivenUp job.part part

-- What a job comes to: its session took so many of its records after those that it had, and is the last of its lane's
-- end.
pub record EndsJob (job : JobIs) (end : JobEndIs) : Type 0 where
  pub most : end.taken ≤ length job.recs
  pub part : PartIs
  pub goes_on : GoesOn job.part (take end.taken job.recs) part
  pub leaves : end.lane_end ≡ end_of part
  pub stops : StopsBy end.stop job end part

-- each of the jobs came to one of these, in order
abbrev pub EndEach : List JobIs → List JobEndIs → Type 0
EndEach [] [] = Unit {0}
EndEach [] (e ∷ es) = ⊥
EndEach (j ∷ js) [] = ⊥
EndEach (j ∷ js) (e ∷ es) = EndsJob j e × EndEach js es
