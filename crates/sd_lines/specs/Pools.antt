-- The pools of the drives at the desk.
use Rattle.std.specs.Prelude.{ℕ, ◌-◌, Option, Some, List, [], ◌∷◌, slice_set}
use Rattle.sd_board.specs.declared.lines.Numbered.{Numbered}
use Rattle.sd_board.specs.declared.lines.Numbered.TheVariants.{Given}
use Rattle.sd_board.specs.declared.seen.DriveSeen.{DriveSeen}

-- what was seen of each drive: the pool of the session that got its number last there, and the pool of its loaded volume
abbrev pub seen_of : List (Option (List ℕ)) → List (Option (List ℕ)) → List DriveSeen
seen_of [] loaded = []
seen_of (pool ∷ pools) [] = []
seen_of (pool ∷ pools) (volume ∷ loaded) = record { loaded = volume; pool = pool } ∷ seen_of pools loaded

-- the pools after numbering a session of this pool at this drive: the drive's is that of the session, if it got its number
abbrev pub pools_by : Numbered → ℕ → List ℕ → List (Option (List ℕ)) → List (Option (List ℕ))
pools_by Given drive pool pools = slice_set pools (drive - 1) (Some pool)
pools_by numbered drive pool pools = pools
