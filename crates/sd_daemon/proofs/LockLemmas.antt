-- The locks of drives, one after the other, and the folder that a fault names.
use Rattle.std.proofs.Common.{◌≡◌, sym, subst, List, [], ◌∷◌, ◌++◌, Result, Ok, Err, Vec}
use Rattle.std.specs.Global.{Global}
use Rattle.std.specs.Prelude.{Contains, IfErr, IfOk}
use Rattle.std.specs.List.{AllZip}
use Rattle.std.proofs.lemmas.List.Elements.{Contains-append_left, Contains-push}
use Rattle.sd_conf.specs.declared.conf.DriveConf.{DriveConf}
use Rattle.sd_daemon.proofs.SetupLemmas.{zip_more}
use Rattle.sd_daemon.specs.Locks.{AddsLock, IsFaultAmong, IsFaultAt, IsLockOf}
use Rattle.sd_daemon.specs.declared.daemon.ServeFault.{ServeFault}
use Rattle.sd_daemon.specs.declared.daemon.ServeFault.TheVariants.{Time, Port, Folder, Memory}
use Rattle.sd_daemon.specs.declared.locks.FolderLock.{FolderLock}

-- the locks of drives, with that of one drive more
pub locks_more : (drives front : List DriveConf) (last : DriveConf) (locks : List FolderLock) (r : Result (Vec FolderLock Global) ServeFault)
    → drives ≡ front ++ last ∷ [] → AllZip IsLockOf front locks → IfOk r (λ all. AddsLock last locks all.items) → IfOk r (λ all. AllZip IsLockOf drives all.items)
locks_more drives front last locks (Ok all) are zip adds = zip_more IsLockOf drives front last locks all.items adds.0 are adds.1 zip adds.2
locks_more drives front last locks (Err fault) are zip adds = tt

-- the folder of one of the first drives is that of one of all
pub fault_before : (drives front : List DriveConf) (last : DriveConf) (fault : ServeFault) → drives ≡ front ++ last ∷ [] → IsFaultAmong front fault → IsFaultAmong drives fault
fault_before drives front last Time are among = tt
fault_before drives front last (Port fault) are among = tt
fault_before drives front last (Folder folder) are among =
    (among.0, subst (λ (ds : List DriveConf). Contains ds among.0) (sym are) (Contains-append_left front (last ∷ []) among.0 among.1), among.2)
fault_before drives front last Memory are among = tt

-- and so is that of the last one
fault_at_last : (drives front : List DriveConf) (last : DriveConf) (fault : ServeFault) → drives ≡ front ++ last ∷ [] → IsFaultAt last.folder fault → IsFaultAmong drives fault
fault_at_last drives front last Time are is = tt
fault_at_last drives front last (Port fault) are is = tt
fault_at_last drives front last (Folder folder) are is =
    (last, subst (λ (ds : List DriveConf). Contains ds last) (sym are) (Contains-push front last), is)
fault_at_last drives front last Memory are is = tt

pub fault_last : (drives front : List DriveConf) (last : DriveConf) (r : Result (Vec FolderLock Global) ServeFault)
    → drives ≡ front ++ last ∷ [] → IfErr r (IsFaultAt last.folder) → IfErr r (IsFaultAmong drives)
fault_last drives front last (Ok all) are is = tt
fault_last drives front last (Err fault) are is = fault_at_last drives front last fault are is
