-- What the steps on a ruled queue tell the passes that make them.
use Rattle.std.specs.Prelude.{◌≡◌, ◌≤◌, ℕ, suc, true, List, [], ◌∷◌, ◌++◌}
use Rattle.sd_lane.specs.declared.piece.Piece.{Piece}
use Rattle.sd_lane.specs.declared.piece.Queued.{Queued}
use Rattle.sd_lane.specs.Queue.{pieces_of, AreOfLanes}
use Rattle.sd_ruled.specs.Passes.{PassView, of_lane, of_drive, of_owner}
use Rattle.sd_ruled.specs.Seats.{StartsWith}

-- What a pass learns of what the queue holds at a moment. Who is sure knew it. A lane's pass: each came by one of the
-- lanes, and those of its own lane are the last that it sent. The drive's: each piece came by one of the lanes; of
-- each lane, what was taken and then what is held begins with what it knew, and is that, if the lane isn't away.
-- With a guest: of its lane, what was taken and then what is held is all that it sent.
pub record Tells (v : PassView) (held : List Queued) : Type 0 where
  pub exact : v.sure ≡ true → v.held ≡ held
  pub last : v.sends ≡ true → AreOfLanes v.lanes held × (before : List Piece) × (v.sent ≡ before ++ pieces_of v.lane held)
  pub of_lanes : v.takes ≡ true → AreOfLanes v.lanes (v.taken ++ held)
  pub after : v.takes ≡ true → (lane : ℕ) → StartsWith (pieces_of lane (v.taken ++ held)) (pieces_of lane v.before)
  pub total : v.takes ≡ true → (j : ℕ) → v.away ≤ j → pieces_of (suc j) (v.taken ++ held) ≡ pieces_of (suc j) v.before
  pub hosts : v.guest ≡ true → pieces_of v.guest_lane (v.taken ++ held) ≡ v.guest_sent

-- a lane's push
abbrev pub Sent : PassView → Queued → PassView → Type 0
Sent v q w = w ≡ of_lane v.lanes v.lane (v.sent ++ q.piece ∷ [])

-- a take by the drive's pass
abbrev pub Took : PassView → Queued → PassView → Type 0
Took v q w = (w ≡ of_drive v.lanes v.away v.before (v.taken ++ q ∷ [])) × (1 ≤ q.lane) × (q.lane ≤ v.lanes)

-- a push by the only pass
abbrev pub Put : PassView → Queued → PassView → Type 0
Put v q w = w ≡ of_owner v.lanes v.taken (v.held ++ q ∷ [])

-- a take by the only pass
pub record Got (v : PassView) (q : Queued) (w : PassView) : Type 0 where
  pub now : w ≡ of_owner v.lanes (v.taken ++ q ∷ []) w.held
  pub front : v.held ≡ q ∷ w.held

-- the only pass takes a piece out that it will put back, and knows the rest
pub record Lifted (v : PassView) (q : Queued) (w : PassView) : Type 0 where
  pub now : w ≡ of_owner v.lanes v.taken w.held
  pub front : v.sure ≡ true → v.held ≡ q ∷ w.held
  pub of_lanes : AreOfLanes v.lanes (v.taken ++ q ∷ w.held)
  pub total : (j : ℕ) → pieces_of (suc j) (v.taken ++ q ∷ w.held) ≡ pieces_of (suc j) v.before
