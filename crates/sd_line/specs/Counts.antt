-- How many pieces were taken of each lane, and how many its seat sent.
use Rattle.std.specs.Prelude.{◌≡◌, ◌≤◌, ◌<◌, ◌⊎◌, ◌+◌, ℕ, List, get_or, length, map}
use Rattle.sd_base.specs.Limits.{most_lanes}
use Rattle.sd_lane.specs.Queue.{pieces_of}
use Rattle.sd_lane.specs.declared.piece.Queued.{Queued}

-- the most that a count tells
abbrev pub most_count : ℕ
most_count = 18446744073709551615

-- a count of so many: at its most it stays, and tells only that there are as many at least
abbrev pub Counts : ℕ → ℕ → Type 0
Counts n many = (n ≡ many) ⊎ ((n ≡ most_count) × (most_count ≤ many))

-- what a log of the kit has, of which only the first part is used
abbrev pub taken_of : List (Queued × Unit {0}) → List Queued
taken_of items = map (λ (i : Queued × Unit {0}). i.0) items

-- each of these counts is of the pieces of its lane: those of the lanes 1, 2 and on
abbrev pub CountsEach : List ℕ → List Queued → Type 0
CountsEach counts taken = (k : ℕ) → k < most_lanes → Counts (get_or counts k 0) (length (pieces_of (k + 1) taken))
