-- What is in the queue before a drive, what its lanes sent and what its drive took.
use Rattle.std.specs.Prelude.{◌≡◌, ℕ, ◌≤◌, List, [], ◌∷◌, ◌++◌, ◌==◌, if◌then◌else◌, length}
use Rattle.std.specs.List.{AllByRecursion}
use Rattle.sd_lane.specs.declared.piece.Piece.{Piece}
use Rattle.sd_lane.specs.declared.piece.Queued.{Queued}

-- a piece with the lane that it came by
abbrev pub queued : ℕ → Piece → Queued
queued lane piece = record { lane = lane; piece = piece }

-- the pieces of one lane, in order
abbrev pub pieces_of : ℕ → List Queued → List Piece
pieces_of lane [] = []
pieces_of lane (q ∷ qs) = if q.lane == lane then q.piece ∷ pieces_of lane qs else pieces_of lane qs

-- the rule of a queue: of each lane, what was taken and then what is held is what it sent
abbrev pub LanesFollow : (ℕ → List Piece) → List Queued → List Queued → Type 0
LanesFollow sent taken held = (lane : ℕ) → sent lane ≡ pieces_of lane (taken ++ held)

-- the lane of this piece sent it, after what it sent before; the other lanes sent nothing
abbrev pub Sends : (ℕ → List Piece) → (ℕ → List Piece) → Queued → Type 0
Sends old new q = (lane : ℕ) → new lane ≡ old lane ++ pieces_of lane (q ∷ [])

-- no lane sent anything
abbrev pub SendsNone : (ℕ → List Piece) → (ℕ → List Piece) → Type 0
SendsNone old new = (lane : ℕ) → new lane ≡ old lane

-- each of these came by one of the lanes 1 to `lanes`
abbrev pub AreOfLanes : ℕ → List Queued → Type 0
AreOfLanes lanes qs = AllByRecursion (λ q. (1 ≤ q.lane) × (q.lane ≤ lanes)) qs

-- At some moment the queue held as many pieces as it has room for, each by one of its lanes; those of this lane
-- were the last that it had sent.
pub record WasFull (lanes capacity lane : ℕ) (sent : List Piece) : Type 0 where
  pub held : List Queued
  pub many : length held ≡ capacity
  pub of_lanes : AreOfLanes lanes held
  pub before : List Piece
  pub sent_is : sent ≡ before ++ pieces_of lane held

-- what a world sees of a queue with one owner: its lanes, the pieces that it has room for, and those in it, oldest first
pub record LanesView : Type 0 where
  pub lanes : ℕ
  pub capacity : ℕ
  pub held : List Queued

-- what contracts see of a queue for one thread: what a world sees of it, and what was taken from it, in order
pub record PlainView : Type 0 where
  pub lanes : ℕ
  pub capacity : ℕ
  pub taken : List Queued
  pub held : List Queued

-- what a world sees of one
abbrev pub lanes_view : PlainView → LanesView
lanes_view q = record { lanes = q.lanes; capacity = q.capacity; held = q.held }
