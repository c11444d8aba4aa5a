-- What the passes of a ruled queue know. A pass has no bytes: all this is in proofs alone.
use Rattle.std.specs.Prelude.{ℕ, suc, ◌-◌, Bool, true, false, List, [], ◌∷◌, ◌++◌, map, ◌==◌, if◌then◌else◌}
use Rattle.sd_lane.specs.declared.piece.Piece.{Piece}
use Rattle.sd_lane.specs.declared.piece.Queued.{Queued}
use Rattle.sd_lane.specs.Queue.{queued, pieces_of}

-- A pass is a lane's, which sends, or the drive's, which takes, or neither. Each of those knows how many lanes the
-- queue has. A lane's knows its number and all that it sent. The drive's knows all that was taken; that the lanes 1
-- to `away` have passes of their own; what those had sent when they got them, and all that the others sent (`before`);
-- and, if it is sure, what the queue holds. For a moment it may have the pass of a lane that is away in it, a guest,
-- and knows what that knew.
pub record PassView : Type 0 where
  pub lanes : ℕ
  pub sends : Bool
  pub lane : ℕ
  pub sent : List Piece
  pub takes : Bool
  pub taken : List Queued
  pub away : ℕ
  pub before : List Queued
  pub sure : Bool
  pub held : List Queued
  pub guest : Bool
  pub guest_lanes : ℕ
  pub guest_lane : ℕ
  pub guest_sent : List Piece

-- a pass that is nobody's
abbrev pub of_nobody : PassView
of_nobody = record { lanes = 0; sends = false; lane = 0; sent = []; takes = false; taken = []; away = 0; before = []; sure = false; held = []; guest = false; guest_lanes = 0; guest_lane = 0; guest_sent = [] }

-- a lane's, of so many lanes
abbrev pub of_lane : ℕ → ℕ → List Piece → PassView
of_lane lanes lane sent = record of_nobody { lanes = lanes; sends = true; lane = lane; sent = sent }

-- the drive's, of so many lanes, with some of them away
abbrev pub of_drive : ℕ → ℕ → List Queued → List Queued → PassView
of_drive lanes away before taken = record of_nobody { lanes = lanes; takes = true; taken = taken; away = away; before = before }

-- the only pass: it is that of the drive and of all lanes, and knows what the queue holds
abbrev pub of_owner : ℕ → List Queued → List Queued → PassView
of_owner lanes taken held = record of_nobody { lanes = lanes; takes = true; taken = taken; before = taken ++ held; sure = true; held = held }

-- what came by the other lanes
abbrev pub of_others : ℕ → List Queued → List Queued
of_others lane [] = []
of_others lane (q ∷ qs) = if q.lane == lane then of_others lane qs else q ∷ of_others lane qs

-- the only pass, with one lane more
abbrev pub one_lane_more : PassView → PassView
one_lane_more v = of_owner (suc v.lanes) v.taken v.held

-- the drive's, with one lane more away
abbrev pub without_lane : PassView → PassView
without_lane v = of_drive v.lanes (suc v.away) v.before v.taken

-- that lane's
abbrev pub only_lane : PassView → PassView
only_lane v = of_lane v.lanes (suc v.away) (pieces_of (suc v.away) v.before)

-- the drive's, to which the last lane that was away has come back
abbrev pub with_lane : PassView → PassView → PassView
with_lane v u = of_drive v.lanes (v.away - 1) (of_others u.lane v.before ++ map (queued u.lane) u.sent) v.taken

-- the only pass, if the queue holds nothing
abbrev pub at_rest : PassView → PassView
at_rest v = of_owner v.lanes v.taken []

-- the drive's, without a guest
abbrev pub without_guest : PassView → PassView
without_guest v = of_drive v.lanes v.away v.before v.taken

-- the drive's, with a lane's as its guest
abbrev pub with_guest : PassView → PassView → PassView
with_guest v u = record (without_guest v) { guest = true; guest_lanes = u.lanes; guest_lane = u.lane; guest_sent = u.sent }

-- the guest's own
abbrev pub guest_alone : PassView → PassView
guest_alone v = of_lane v.guest_lanes v.guest_lane v.guest_sent
