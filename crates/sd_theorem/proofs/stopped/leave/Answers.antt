use Rattle.std.proofs.Common.{◌≤◌, arith, refl, sym, subst, []}
use Rattle.std.proofs.lemmas.Result.{IfOk-weaker}
use Rattle.sd_driver.specs.Shelf.{AfterStop}
use Rattle.sd_memdrive.specs.Drive.{meaning_of}
use Rattle.sd_memdrive.specs.declared.drive.MemDrive.{MemDrive}
use Rattle.sd_theorem.specs.Lists.{in_memory}
use Rattle.sd_theorem.proofs.stopped.leave.Goals as goal

-- what lasted since the close lasted to the stop
pub returns : goal.returns
returns c = IfOk-weaker c.after_stop.result _ _ (λ left stop start key spans w was same by.
    let t = c.stop_theorem.ensures in_memory start key spans w was in
    let since = (meaning_of t.d_then.device).shelf.moment in
    let least : since ≤ c.args.calls = by t.bay_then t.d_then t.online_then in
    let S : MemDrive → Type 0 = λ d. AfterStop c.args.calls (meaning_of d).shelf (meaning_of left).shelf in
    let told : AfterStop c.args.calls (meaning_of was.closed.d.device).shelf (meaning_of left).shelf = subst S (sym same) stop in
    let left_since : AfterStop since (meaning_of was.closed.d.device).shelf (meaning_of left).shelf = λ name bytes lasts.
    told name bytes (record { before = λ moment after most. lasts.before moment (omega (arith, least, after)) most; now = lasts.now }) in
    (t.m, t.run, t.has, t.returns.survives (meaning_of left).shelf (meaning_of left).shelf [] left_since refl))
    c.after_stop.ensures.stop
