-- The locks of the folders that a configuration has volumes and spools in.
use Rattle.std.specs.Prelude.{◌≡◌, ◌≢◌, ◌⊎◌, ℕ, List, [], ◌∷◌, ◌++◌, Contains, Option, Some, codes, string_bytes}
use Rattle.std.specs.List.{AllZip}
use Rattle.std.specs.Option.{IsSomeAnd}
use Rattle.sd_conf.specs.declared.conf.Conf.{Conf}
use Rattle.sd_conf.specs.declared.conf.DriveConf.{DriveConf}
use Rattle.sd_folder.specs.Place.{folder_named}
use Rattle.sd_daemon.specs.declared.daemon.ServeFault.{ServeFault}
use Rattle.sd_daemon.specs.declared.daemon.ServeFault.TheVariants as serves
use Rattle.sd_daemon.specs.declared.locks.FolderLock.{FolderLock}
use Rattle.sd_daemon.specs.declared.locks.FolderLocks.{FolderLocks}

-- the path of the file that is locked in a folder
abbrev pub lock_path : List ℕ → List ℕ
lock_path folder = folder_named folder ++ codes "/.lock~"

-- the lock is that of the folder
abbrev pub IsLockAt : List ℕ → FolderLock → Type 0
IsLockAt folder lock = string_bytes lock.path ≡ lock_path folder

-- the lock is that of the drive's folder
abbrev pub IsLockOf : DriveConf → FolderLock → Type 0
IsLockOf d lock = IsLockAt d.folder lock

-- these locks, and after them that of the drive's folder
abbrev pub AddsLock : DriveConf → List FolderLock → List FolderLock → Type 0
AddsLock d locks all = (lock : FolderLock) × (all ≡ locks ++ lock ∷ []) × IsLockOf d lock

-- if sessions are spooled, the lock is there, and is that of the spools' folder
abbrev pub IsLockOfSpools : Conf → Option FolderLock → Type 0
IsLockOfSpools conf spools = (folder : List ℕ) → conf.spool ≢ 0 → conf.spool_folder ≡ Some folder
    → IsSomeAnd spools (IsLockAt folder)

-- the locks are those of the folders that the configuration names: of each drive, in their order, and of the spools
pub record AreLocksOf (conf : Conf) (locks : FolderLocks) : Type 0 where
  pub drives : AllZip IsLockOf conf.drives locks.drives.items
  pub spools : IsLockOfSpools conf locks.spools

-- if a folder is locked by another process, it is this one
abbrev pub IsFaultAt : List ℕ → ServeFault → Type 0
IsFaultAt folder (serves.Folder other) = other ≡ folder
IsFaultAt folder fault = Unit {0}

-- if a folder is locked by another process, it is that of one of these drives
abbrev pub IsFaultAmong : List DriveConf → ServeFault → Type 0
IsFaultAmong drives (serves.Folder folder) = (d : DriveConf) × Contains drives d × (folder ≡ d.folder)
IsFaultAmong drives fault = Unit {0}

-- if a folder is locked by another process, it is that of the spools, in which sessions are spooled
abbrev pub IsFaultOfSpools : Conf → ServeFault → Type 0
IsFaultOfSpools conf (serves.Folder folder) = (conf.spool ≢ 0) × (conf.spool_folder ≡ Some folder)
IsFaultOfSpools conf fault = Unit {0}

-- if a folder is locked by another process, it is one that the configuration names
abbrev pub IsFaultIn : Conf → ServeFault → Type 0
IsFaultIn conf fault = IsFaultAmong conf.drives fault ⊎ IsFaultOfSpools conf fault
