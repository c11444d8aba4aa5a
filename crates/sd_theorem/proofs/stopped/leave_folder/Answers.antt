use Rattle.std.proofs.Common.{◌≤◌, arith, refl, sym, subst, []}
use Rattle.sd_driver.specs.Meaning.{Meaning}
use Rattle.sd_driver.specs.Shelf.{AfterStop}
use Rattle.sd_filedrive.specs.Drive.{meaning_of}
use Rattle.sd_folder.specs.Meaning.{shelf_of}
use Rattle.sd_memfolder.specs.Memory.{meaning_of as folder_of}
use Rattle.sd_memfolder.specs.declared.folder.MemoryFolder.{MemoryFolder}
use Rattle.sd_theorem.specs.Lists.{over}
use Rattle.sd_theorem.proofs.stopped.leave_folder.Goals as goal

-- what the folder has after the stop the device has
pub returns-clause-stop : goal.returns-clause-stop
returns-clause-stop g c =
    let F : MemoryFolder → Type 0 = λ f. AfterStop c.args.calls (shelf_of (folder_of f)) (shelf_of (folder_of c.in_ok-left.left)) in
    let of_folder : F c.args.device.now.volumes.folder = subst F c.folder.ensures c.in_ok-left.ensures.stop in
    let M : Meaning → Type 0 = λ m. AfterStop c.args.calls (meaning_of c.args.device.now).shelf m.shelf in
    subst M (sym c.of_folder.ensures.unused) of_folder

-- what lasted since the close lasted to the stop of the folder
pub returns-clause-left : goal.returns-clause-left
returns-clause-left g c = λ start key spans w was same by.
    let left = c.of_folder.result in
    let t = c.stop_theorem.ensures (over (λ d. meaning_of d) g.S.SpoolStore.meaning) start key spans w was in
    let since = (meaning_of t.d_then.device).shelf.moment in
    let least : since ≤ c.args.calls = by t.bay_then t.d_then t.online_then in
    let told : AfterStop c.args.calls (meaning_of was.closed.d.device).shelf (meaning_of left).shelf =
    subst (λ d. AfterStop c.args.calls (meaning_of d).shelf (meaning_of left).shelf) (sym same) (returns-clause-stop g c) in
    let left_since : AfterStop since (meaning_of was.closed.d.device).shelf (meaning_of left).shelf = λ name bytes lasts.
    told name bytes (record { before = λ moment after most. lasts.before moment (omega (arith, least, after)) most; now = lasts.now }) in
    (t.m, t.run, t.has, t.returns.survives (meaning_of left).shelf (meaning_of left).shelf [] left_since refl)
