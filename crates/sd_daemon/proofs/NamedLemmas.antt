-- The drives of a configuration name the lines of a run.
use Rattle.std.proofs.Common.{◌≡◌, ℕ, zero, suc, sym, ap, ◌∙◌, List, [], ◌∷◌, Some, slice_get}
use Rattle.std.specs.List.{AllZip}
use Rattle.sd_conf.specs.declared.conf.Conf.{Conf}
use Rattle.sd_conf.specs.declared.conf.DriveConf.{DriveConf}
use Rattle.sd_filedrive.specs.declared.drive.FolderDrive.{FolderDrive}
use Rattle.sd_folder.specs.declared.folder.Folder.{Ghosts}
use Rattle.sd_lines.specs.Unused.{UnusedIs}
use Rattle.sd_daemon.proofs.TableLemmas.{named_by_own, named_table}
use Rattle.sd_daemon.specs.Setup.{AreNamed, IsUnusedOf}

times_are : {F H : Type 0} {g : Ghosts F H} (conf : Conf) (time : ℕ) (ds : List DriveConf) (us : List (UnusedIs (FolderDrive F H g))) → AllZip (IsUnusedOf conf time) ds us
    → (at : ℕ) (u : UnusedIs (FolderDrive F H g)) → slice_get us at ≡ Some u → u.limits.time ≡ time
times_are conf time [] [] zip at u is = absurd (cc is)
times_are conf time [] (v ∷ us) zip at u is = absurd zip
times_are conf time (d ∷ ds) [] zip at u is = absurd zip
times_are conf time (d ∷ ds) (v ∷ us) zip zero u is =
    let same : v ≡ u = cc is in ap (λ x. x.limits.time) (sym same) ∙ ap (λ l. l.time) zip.0.limits_are
times_are conf time (d ∷ ds) (v ∷ us) zip (suc at) u is = times_are conf time ds us zip.1 at u is

pub drives_named : {F H : Type 0} {g : Ghosts F H} (conf : Conf) (time : ℕ) (ds : List DriveConf) (us : List (UnusedIs (FolderDrive F H g))) → AllZip (IsUnusedOf conf time) ds us
    → AreNamed (named_table us) (λ no. time) us
drives_named conf time ds us zip = named_by_own time us (times_are conf time ds us zip)
