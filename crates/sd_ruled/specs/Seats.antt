-- What contracts see of a ruled queue and of its seats.
use Rattle.std.specs.Prelude.{◌≡◌, ℕ, zero, suc, List, [], ◌∷◌, ◌++◌, ◌==◌, if◌then◌else◌, Some, slice_get}
use Rattle.atomic_table.specs.Seated.{TableId}
use Rattle.sd_lane.specs.declared.piece.Piece.{Piece}
use Rattle.sd_lane.specs.declared.piece.Queued.{Queued}
use Rattle.sd_lane.specs.Queue.{pieces_of}

-- the queue and all its seats with one owner: which queue it is, its lanes, how many pieces it has room for, what was
-- taken from it, and what it holds
pub record RuledView : Type 0 where
  pub table : TableId
  pub lanes : ℕ
  pub capacity : ℕ
  pub taken : List Queued
  pub held : List Queued

-- a queue whose seats are split: which it is, and how many pieces it has room for
pub record QueueIs : Type 0 where
  pub table : TableId
  pub capacity : ℕ

-- the seat of a lane: of which queue, of how many lanes, which lane, and all that it sent
pub record LaneSeatIs : Type 0 where
  pub table : TableId
  pub lanes : ℕ
  pub lane : ℕ
  pub sent : List Piece

-- the seat of the drive: of which queue, how many lanes that has, what these had sent when the seats were split, and
-- all that the drive took
pub record DriveSeatIs : Type 0 where
  pub table : TableId
  pub lanes : ℕ
  pub before : List Queued
  pub taken : List Queued

-- the pieces begin with these
abbrev pub StartsWith : List Piece → List Piece → Type 0
StartsWith pieces front = (rest : List Piece) × (pieces ≡ front ++ rest)

-- At some moment the queue held no piece, so all was taken that its lanes had sent by then: of each lane what it had
-- sent before, and what it had sent since.
abbrev pub WasEmpty : List Queued → List Queued → Type 0
WasEmpty before taken = (lane : ℕ) → StartsWith (pieces_of lane taken) (pieces_of lane before)

-- the seat of a lane that sent these
abbrev pub seat_of : TableId → ℕ → ℕ → List Piece → LaneSeatIs
seat_of table lanes lane sent = record { table = table; lanes = lanes; lane = lane; sent = sent }

-- the seats of the lanes 1 to n, of a queue whose lanes sent all this
abbrev pub seats_of : TableId → ℕ → List Queued → ℕ → List LaneSeatIs
seats_of table lanes all zero = []
seats_of table lanes all (suc n) = seats_of table lanes all n ++ seat_of table lanes (suc n) (pieces_of (suc n) all) ∷ []

-- each of these seats is of this queue, and they are those of the lanes 1, 2 and on
abbrev pub AreSeats : TableId → List LaneSeatIs → Type 0
AreSeats table seats = (k : ℕ) (seat : LaneSeatIs) → slice_get seats k ≡ Some seat → (seat.table ≡ table) × (seat.lane ≡ suc k)

-- what a lane sent by its seat, if one of these is its
abbrev pub sent_by : List LaneSeatIs → ℕ → List Piece
sent_by [] lane = []
sent_by (seat ∷ seats) lane = if seat.lane == lane then seat.sent else sent_by seats lane
