-- Which drive and which lane a new session gets, and when it has its number.
use Rattle.std.specs.Prelude.{◌≡◌, ◌≢◌, ◌⊎◌, ℕ, ◌+◌, true, Option, Some, None, List, [], ◌∷◌, length, slice_get, slice_set}
use Rattle.sd_base.specs.Choice.{FirstOf, NoneOf}
use Rattle.sd_base.specs.Limits.{most_number}
use Rattle.sd_base.specs.declared.refusal.Refusal.{Refusal}
use Rattle.sd_base.specs.declared.refusal.Refusal.TheVariants.{NoSessionNumberLeft, NoDriveOfMedia, NoFreeLane, Memory}
use Rattle.sd_line.specs.Ends.{EndIs}
use Rattle.sd_reserve.specs.Reserve.{TakesMedia, IsCandidate, Precedes}
use Rattle.sd_reserve.specs.declared.drive.DriveView.{DriveView}
use Rattle.sd_board.specs.Board.{BoardIs}
use Rattle.sd_board.specs.Lines.{count_of, given_in, next_number, promised_more}
use Rattle.sd_board.specs.Slots.{DriveLanesIs, IsFree, TakesLowest, busy_lanes, numbered_at}
use Rattle.sd_board.specs.declared.lines.Numbered.{Numbered}
use Rattle.sd_board.specs.declared.lines.Numbered.TheVariants.{Given, Elsewhere, Next, NoneLeft, NoRoom}
use Rattle.sd_board.specs.declared.seen.DriveSeen.{DriveSeen}

-- the pool of the volume that was seen loaded, if the drive was looked at
abbrev pub loaded_in : Option DriveSeen → Option (List ℕ)
loaded_in None = None
loaded_in (Some s) = s.loaded

-- the pool of the session that was seen reserved last, if the drive was looked at
abbrev pub pool_in : Option DriveSeen → Option (List ℕ)
pool_in None = None
pool_in (Some s) = s.pool

-- What decides whether a drive takes a session: its media and its lanes, and the pools that were seen there. Each drive is
-- online. Its sessions are those that have a number: a lane that another open holds counts as free.
abbrev pub view_of : DriveLanesIs → Option DriveSeen → DriveView
view_of d seen = record {
  media = d.media;
  online = true;
  loaded = loaded_in seen;
  pool = pool_in seen;
  sessions = busy_lanes d;
  lanes = length d.slots;
}

-- what decides for each drive whether it takes a session; of one that wasn't looked at no pool is known
abbrev pub views_of : List DriveLanesIs → List DriveSeen → List DriveView
views_of [] seen = []
views_of (d ∷ ds) [] = view_of d None ∷ views_of ds []
views_of (d ∷ ds) (s ∷ seen) = view_of d (Some s) ∷ views_of ds seen

-- the drive at this place takes the session
abbrev pub IsFirst : List DriveView → List ℕ → List ℕ → ℕ → Type 0
IsFirst views pool media place = FirstOf (IsCandidate pool media) (Precedes pool) views place

-- no drive takes the session: none is of the media, or none of those has a free lane and no session, or sessions of the pool
abbrev pub NoneTakes : List DriveView → List ℕ → List ℕ → Refusal → Type 0
NoneTakes views pool media why =
    (NoneOf (TakesMedia media) views × (why ≡ NoDriveOfMedia))
    ⊎ ((NoneOf (TakesMedia media) views → ⊥) × NoneOf (IsCandidate pool media) views × (why ≡ NoFreeLane))

-- the drive of this number takes the session
abbrev pub IsChoice : BoardIs → List DriveSeen → List ℕ → List ℕ → ℕ → Type 0
IsChoice b seen pool media drive = (place : ℕ) × (drive ≡ place + 1) × IsFirst (views_of b.drives seen) pool media place

-- A lane is chosen for a session: its drive is the first that may take the session, its lane the lowest of that drive that is
-- free. The end of the lane leaves its slot, which is held from then on, and the session is promised a line. No number is given:
-- the ticket is the one that comes next.
pub record ChoosesLane (b : BoardIs) (seen : List DriveSeen) (pool media : List ℕ) (ticket drive : ℕ) (e : EndIs) (b' : BoardIs) : Type 0 where
  pub ticket_is : ticket ≡ next_number b.lines
  pub place : ℕ
  pub drive_is : drive ≡ place + 1
  pub first : IsFirst (views_of b.drives seen) pool media place
  pub lanes : DriveLanesIs
  pub lanes' : DriveLanesIs
  pub there : slice_get b.drives place ≡ Some lanes
  pub takes : TakesLowest lanes e lanes'
  pub is : b' ≡ record b {
    drives = slice_set b.drives place lanes';
    lines = promised_more b.lines;
  }

-- The choice comes later: a drive takes the session, and each lane of it that is not busy is held by another open, of which nobody
-- knows yet whether it gets a number.
abbrev pub ChoosesLater : BoardIs → List DriveSeen → List ℕ → List ℕ → Type 0
ChoosesLater b seen pool media =
    (place : ℕ) × IsFirst (views_of b.drives seen) pool media place
    × (lanes : DriveLanesIs) × (slice_get b.drives place ≡ Some lanes) × NoneOf IsFree lanes.slots

-- None is chosen: no number is left; or no drive takes the session; or one does, and there is no memory for its line. The tests
-- are made in this order.
abbrev pub ChoosesNone : BoardIs → List DriveSeen → List ℕ → List ℕ → Refusal → Type 0
ChoosesNone b seen pool media why =
    ((count_of b.lines ≡ most_number) × (why ≡ NoSessionNumberLeft))
    ⊎ ((count_of b.lines ≢ most_number) × NoneTakes (views_of b.drives seen) pool media why)
    ⊎ ((count_of b.lines ≢ most_number) × (why ≡ Memory) × (place : ℕ) × IsFirst (views_of b.drives seen) pool media place)

-- What numbering a session comes to, for which a lane of this drive was chosen, by what is seen now. The number is given exactly if
-- that drive is the choice still, and the number the next one: then the session's line comes after the others, and nobody holds its
-- lane any more. Else nothing changes.
abbrev pub Numbers : Numbered → BoardIs → List DriveSeen → List ℕ → List ℕ → ℕ → ℕ → ℕ → BoardIs → Type 0
Numbers Given b seen pool media ticket drive lane b' =
    IsChoice b seen pool media drive × (ticket ≡ next_number b.lines)
    × (b' ≡ record b { drives = numbered_at drive lane b.drives; lines = given_in ticket drive lane b.lines })
Numbers Elsewhere b seen pool media ticket drive lane b' = (IsChoice b seen pool media drive → ⊥) × (b' ≡ b)
Numbers (Next next) b seen pool media ticket drive lane b' = (next ≡ next_number b.lines) × (ticket ≢ next) × (b' ≡ b)
Numbers NoneLeft b seen pool media ticket drive lane b' = (count_of b.lines ≡ most_number) × (b' ≡ b)
Numbers NoRoom b seen pool media ticket drive lane b' = (b.lines.promised ≡ 0) × (b' ≡ b)
