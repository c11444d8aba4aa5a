use Rattle.std.proofs.Common.{◌≤◌, arith, refl, rules, []}
use Rattle.sd_driver.specs.Meaning.{IsHonest}
use Rattle.sd_driver.specs.Shelf.{AfterStop}
use Rattle.sd_filedrive.specs.Drive.{meaning_of}
use Rattle.sd_spool.specs.MemSpool.{meaning_of as store_of}
use Rattle.sd_theorem.specs.Lists.{over}
use Rattle.sd_theorem.proofs.stopped.leave_side.Goals as goal

-- what lasted since the close lasted to the stop
pub returns-clause-left : goal.returns-clause-left
returns-clause-left g c = λ part close was by store.
    let left = c.in_ok-left.left in
    let now = (meaning_of c.args.side.now.drive.device).shelf in
    let honest : IsHonest (meaning_of c.args.side.now.drive.device) = search rules in
    let t = c.told_closes_come_back.ensures (over (λ d. meaning_of d) (λ s. store_of s)) g.N.Naming.table g.N.Naming.time c.args.side.now part close was honest store in
    let since = (meaning_of close.drive.device).shelf.moment in
    let least : since ≤ c.args.calls = by in
    let stop : AfterStop c.args.calls now (meaning_of left).shelf = search rules in
    let left_since : AfterStop since now (meaning_of left).shelf = λ name bytes lasts.
    stop name bytes (record { before = λ moment after most. lasts.before moment (omega (arith, least, after)) most; now = lasts.now }) in
    t.survives (meaning_of left).shelf (meaning_of left).shelf [] left_since refl

pub returns-clause-shown : goal.returns-clause-shown
returns-clause-shown g c = λ token part receipt was by store.
    let left = c.in_ok-left.left in
    let now = (meaning_of c.args.side.now.drive.device).shelf in
    let honest : IsHonest (meaning_of c.args.side.now.drive.device) = search rules in
    let t = c.shown_closes_come_back.ensures (over (λ d. meaning_of d) (λ s. store_of s)) g.N.Naming.time c.args.side.now token part receipt was honest store in
    let since = (meaning_of was.shows.drive.device).shelf.moment in
    let least : since ≤ c.args.calls = by in
    let stop : AfterStop c.args.calls now (meaning_of left).shelf = search rules in
    let left_since : AfterStop since now (meaning_of left).shelf = λ name bytes lasts.
    stop name bytes (record { before = λ moment after most. lasts.before moment (omega (arith, least, after)) most; now = lasts.now }) in
    t.survives (meaning_of left).shelf (meaning_of left).shelf [] left_since refl
