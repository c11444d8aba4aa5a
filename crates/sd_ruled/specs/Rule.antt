-- The rule of a ruled queue: of each lane, what was taken and then what is held is what it sent.
use Rattle.std.specs.Prelude.{◌≡◌, ◌≤◌, ℕ, suc, true, List, ◌++◌}
use mathlib.Core.Option.{some}
use lib.ListN.{get_elem?}
use Rattle.sd_lane.specs.declared.piece.Piece.{Piece}
use Rattle.sd_lane.specs.declared.piece.Queued.{Queued}
use Rattle.sd_lane.specs.Queue.{pieces_of, LanesFollow, AreOfLanes}
use Rattle.sd_ruled.specs.Passes.{PassView}
use Rattle.sd_ruled.specs.Seats.{StartsWith}

-- What the rule says of one pass. Each lane has one pass, its own or the drive's, which knows all that it sent. One
-- pass at most takes. It knows all that was taken, and of each lane a beginning of what that sent. A pass that is
-- sure knows what is held, and no lane is away. A guest's lane is away, and is the drive's for that moment.
pub record Fits (lanes : ℕ) (owner : ℕ → ℕ) (sent : ℕ → List Piece) (drive : ℕ) (taken held : List Queued) (pass : ℕ) (v : PassView) : Type 0 where
  pub lane : v.sends ≡ true → (v.lanes ≡ lanes) × (1 ≤ v.lane) × (v.lane ≤ lanes) × (owner v.lane ≡ pass) × (v.sent ≡ sent v.lane)
  pub drives : v.takes ≡ true → (v.lanes ≡ lanes) × (drive ≡ pass) × (v.taken ≡ taken)
  pub mine : v.takes ≡ true → (j : ℕ) → v.away ≤ j → (owner (suc j) ≡ pass) × (pieces_of (suc j) v.before ≡ sent (suc j))
  pub knows : v.takes ≡ true → (lane : ℕ) → StartsWith (sent lane) (pieces_of lane v.before)
  pub sees : v.sure ≡ true → (v.held ≡ held) × (v.takes ≡ true) × (v.away ≡ 0)
  pub hosts : v.guest ≡ true → (v.takes ≡ true) × (owner v.guest_lane ≡ pass) × (1 ≤ v.guest_lane) × (v.guest_lane ≤ v.away) × (v.guest_lane ≤ lanes) × (v.guest_sent ≡ sent v.guest_lane) × (v.guest_lanes ≡ lanes)

-- what the queue and its passes keep, whatever threads do
pub record Keeps (held : List Queued) (views : List PassView) : Type 0 where
  pub lanes : ℕ
  pub owner : ℕ → ℕ
  pub sent : ℕ → List Piece
  pub drive : ℕ
  pub taken : List Queued
  pub follows : LanesFollow sent taken held
  pub of_lanes : AreOfLanes lanes (taken ++ held)
  pub fits : (pass : ℕ) (v : PassView) → get_elem? views pass ≡ some v → Fits lanes owner sent drive taken held pass v
