use Rattle.std.proofs.Common.{sym, subst}
use Rattle.std.specs.Prelude.{IsTrue}
use Rattle.std.proofs.lemmas.Result.{on_ok_weaker}
use Rattle.sd_driver.proofs.Lasting.{still_lasts, StillLasts-trans}
use Rattle.sd_volume.proofs.DeviceLemmas.{stores_of}
use Rattle.sd_volume.proofs.label.store.Goals as goal

pub returns-clause-lasts : goal.returns-clause-lasts
returns-clause-lasts g c =
    let shelf_0 = (g.D.Driver.meaning c.args.driver.now).shelf in
    let shelf_1 = (g.D.Driver.meaning c.create.new.self).shelf in
    let shelf_2 = (g.D.Driver.meaning c.write-written.new.driver).shelf in
    let shelf_3 = (g.D.Driver.meaning c.unload.new.self).shelf in
    StillLasts-trans shelf_0 shelf_1 shelf_3 (still_lasts shelf_0 shelf_1 c.in_ok-create.ensures.passes c.in_ok-create.ensures.stable)
    (StillLasts-trans shelf_1 shelf_2 shelf_3 c.write-written.ensures.lasts (still_lasts shelf_2 shelf_3 c.unload.ensures.passes c.unload.ensures.stable))

pub returns-clause-ok : goal.returns-clause-ok
returns-clause-ok g c = λ honest.
    let honest_1 = subst IsTrue (sym c.in_ok-create.ensures.counts.honest) honest in
    let honest_2 = subst IsTrue (sym c.write-written.ensures.counted.honest) honest_1 in
    let loaded = c.in_ok-create.ensures.loaded in
    on_ok_weaker c.write-written.result
    (λ writes. stores_of c.args.name.now c.args.bytes.now (g.D.Driver.meaning c.create.new.self).loaded (g.D.Driver.meaning c.args.driver.now).shelf (g.D.Driver.meaning c.create.new.self).shelf
    (g.D.Driver.meaning c.write-written.new.driver).shelf (g.D.Driver.meaning c.unload.new.self).shelf loaded (c.in_ok-create.ensures.ok honest) writes (c.unload.ensures.same honest_2) c.unload.ensures.passes)
    (c.write-written.ensures.ok honest_1)
