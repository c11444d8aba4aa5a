-- Which drive takes a new session, and which lane of it.
use Rattle.std.specs.Prelude.{◌≡◌, ◌⊎◌, ℕ, ◌<◌, false, if◌then◌else◌, List, Some, IsTrue}
use Rattle.std.specs.Option.{option_map_or}
use Rattle.std.specs.Str.{bytes_eq}
use Rattle.sd_reserve.specs.declared.drive.DriveView.{DriveView}

-- the drive takes this media
abbrev pub TakesMedia : List ℕ → DriveView → Type 0
TakesMedia media drive = drive.media ≡ media

-- the drive takes this media, and isn't retired
pub record IsOnline (media : List ℕ) (drive : DriveView) : Type 0 where
  pub takes : TakesMedia media drive
  pub online : IsTrue drive.online

-- The drive may take a session of this pool and media: a lane is free, and it has no session, or some of this pool.
pub record IsCandidate (pool media : List ℕ) (drive : DriveView) : Type 0 where
  pub online : IsOnline media drive
  pub lane_free : drive.sessions < drive.lanes
  pub pool_suits : (drive.sessions ≡ 0) ⊎ (drive.pool ≡ Some pool)

-- 0 if a volume of the pool is loaded in the drive, else 1
abbrev pub rank : List ℕ → DriveView → ℕ
rank pool drive = if option_map_or (λ loaded. bytes_eq loaded pool) drive.loaded false then 0 else 1

-- one drive precedes the other: a volume of the pool is loaded in it alone; else it has fewer sessions
abbrev pub Precedes : List ℕ → DriveView → DriveView → Type 0
Precedes pool drive other =
    (rank pool drive < rank pool other)
    ⊎ ((rank pool drive ≡ rank pool other) × (drive.sessions < other.sessions))
