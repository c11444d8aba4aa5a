use Rattle.std.proofs.Common.{sym, ap, subst, Option, Err}
use Rattle.std.specs.Prelude.{IsSome, IsTrue}
use Rattle.std.proofs.lemmas.Result.{err_from_is_err_and}
use Rattle.sd_driver.specs.Meaning.{IsHonest}
use Rattle.sd_driver.specs.Shelf.{Held}
use Rattle.sd_tool.proofs.TailLemmas.{asks, loads, not_loaded, unloads}
use Rattle.sd_tool.proofs.tail.put_behind.Goals as goal

-- the volume wasn't loaded
pub returns-in_err-load : goal.returns-in_err-load
returns-in_err-load g c =
    let M = g.D.Driver.meaning in
    let p = err_from_is_err_and c.from_residual.result c.from_residual.ensures.1 in
    let looks = unloads (M c.args.driver.now) (M c.unload.new.self) c.unload.ensures.counts c.unload.ensures.passes c.unload.ensures.same in
    let e = c.in_err-load.ensures in
    rw (p.1, p.2) (not_loaded c.args.volume.now c.args.bytes.now c.in_err-load.field-0.0 (M c.args.driver.now) (M c.unload.new.self) (M c.load.new.self) looks
    e.counts e.faults e.passes (λ honest is. e.not_there honest (ap Err is)) e.same)

pub returns : goal.returns
returns g c =
    let M = g.D.Driver.meaning in
    let name = c.args.volume.now in
    let old = M c.args.driver.now in
    let e = c.in_ok-load.ensures in
    let a = c.append.ensures in
    let looks = unloads old (M c.unload.new.self) c.unload.ensures.counts c.unload.ensures.passes c.unload.ensures.same in
    let there = λ (honest : IsHonest old).
    let P : Option Held → Type 0 = λ h. IsSome h in
    subst P (c.unload.ensures.same honest name) (e.ok (subst IsTrue (sym looks.counts.honest) honest)) in
    asks name c.args.bytes.now c.append.result old (M c.load.new.self) (M c.append.new.self)
    (loads c.in_ok-load.field-0 old (M c.unload.new.self) (M c.load.new.self) looks e.counts e.passes e.same)
    there e.loaded a.counts a.faults a.passes a.memory a.ok a.err
