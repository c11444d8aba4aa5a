-- Whether a volume is damaged of which no note counts.
use Rattle.std.specs.Prelude.{◌≢◌, ℕ, ◌-◌, ◌*◌, ◌<◌, ◌≤◌, List, length}
use Rattle.sd_base.specs.Limits.{least_block}
use Rattle.sd_block.specs.declared.head.Head.{Head}
use Rattle.sd_judge.specs.Run.{RunsTo}
use Rattle.sd_judge.specs.declared.volume.Judgement.{Judgement}
use Rattle.sd_judge.specs.declared.volume.Judgement.TheVariants.{Whole, Noted, Damaged, NotOurs, NotThere}
use Rattle.sd_volume.specs.Adopt.{BlockStandsAt}
use Rattle.sd_volume.specs.Image.{no_session}

-- a block with this head may be the volume's own, at a place behind the one where `next` is due: it is of a session, has a
-- greater number, and the blocks between, of the least size, have room before it
pub record IsOwnHead (head : Head) (at end next : ℕ) : Type 0 where
  pub session : head.key ≢ no_session
  pub above : next < head.number
  pub fits : (head.number - next) * least_block ≤ at - end

-- such a block stands whole there, before the volume's end
pub record IsOwnBehind (bytes : List ℕ) (end next at : ℕ) : Type 0 where
  pub head : Head
  pub stands : BlockStandsAt at head.number bytes head
  pub own : IsOwnHead head at end next
  pub behind : end ≤ at
  pub within : at < length bytes

-- one stands somewhere
abbrev pub HasOwnBehind : List ℕ → ℕ → ℕ → Type 0
HasOwnBehind bytes end next = (at : ℕ) × IsOwnBehind bytes end next at

-- where the blocks end one of the volume's own stands behind
pub record IsBrokenAt (bytes : List ℕ) (first at : ℕ) : Type 0 where
  pub next : ℕ
  pub run : RunsTo bytes first 1 at next
  pub own : HasOwnBehind bytes at next

-- where they end none does
pub record IsUnbroken (bytes : List ℕ) (first : ℕ) : Type 0 where
  pub end : ℕ
  pub next : ℕ
  pub run : RunsTo bytes first 1 end next
  pub none : ¬ HasOwnBehind bytes end next

-- what a volume is of which no note counts, and whose blocks begin at that place
abbrev pub JudgesAlone : List ℕ → ℕ → Judgement → Type 0
JudgesAlone bytes first Whole = IsUnbroken bytes first
JudgesAlone bytes first (Noted note) = ⊥
JudgesAlone bytes first (Damaged at) = IsBrokenAt bytes first at
JudgesAlone bytes first NotOurs = ⊥
JudgesAlone bytes first NotThere = ⊥
