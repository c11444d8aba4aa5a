use Rattle.std.proofs.Common.{arith}
use Rattle.std.proofs.lemmas.Result.{IfErr-weaker}
use Rattle.sd_driver.proofs.Lasting.{still_lasts, StillLasts-trans, StillLastsBelow-of, StillLastsBelow-trans}
use Rattle.sd_volume.proofs.DeviceLemmas.{one_call}
use Rattle.sd_volume.proofs.adoption.cut_back.Goals as goal

pub returns-clause-calls : goal.returns-clause-calls
returns-clause-calls g c =
    omega (
      arith,
      one_call (g.D.Driver.meaning c.args.driver.now) (g.D.Driver.meaning c.load.new.self) c.in_ok-load.ensures.passes,
      c.cut_loaded-cut.ensures.calls,
      one_call (g.D.Driver.meaning c.cut_loaded-cut.new.driver) (g.D.Driver.meaning c.unload.new.self) c.unload.ensures.passes,
    )

pub returns-clause-lasts_below : goal.returns-clause-lasts_below
returns-clause-lasts_below g c =
    let to = c.args.to in
    let name = c.args.name.now in
    let shelf_0 = (g.D.Driver.meaning c.args.driver.now).shelf in
    let shelf_1 = (g.D.Driver.meaning c.load.new.self).shelf in
    let shelf_2 = (g.D.Driver.meaning c.cut_loaded-cut.new.driver).shelf in
    let shelf_3 = (g.D.Driver.meaning c.unload.new.self).shelf in
    StillLastsBelow-trans to name shelf_0 shelf_1 shelf_3 (StillLastsBelow-of to name shelf_0 shelf_1 (still_lasts shelf_0 shelf_1 c.in_ok-load.ensures.passes c.in_ok-load.ensures.stable))
    (StillLastsBelow-trans to name shelf_1 shelf_2 shelf_3 (c.cut_loaded-cut.ensures.lasts_below name c.in_ok-load.ensures.loaded)
    (StillLastsBelow-of to name shelf_2 shelf_3 (still_lasts shelf_2 shelf_3 c.unload.ensures.passes c.unload.ensures.stable)))

pub returns-clause-refused_last : goal.returns-clause-refused_last
returns-clause-refused_last g c =
    let shelf_0 = (g.D.Driver.meaning c.args.driver.now).shelf in
    let shelf_1 = (g.D.Driver.meaning c.load.new.self).shelf in
    let shelf_2 = (g.D.Driver.meaning c.cut_loaded-cut.new.driver).shelf in
    let shelf_3 = (g.D.Driver.meaning c.unload.new.self).shelf in
    IfErr-weaker c.cut_loaded-cut.result _ _
    (λ fault lasts other. StillLasts-trans shelf_0 shelf_1 shelf_3 (still_lasts shelf_0 shelf_1 c.in_ok-load.ensures.passes c.in_ok-load.ensures.stable)
    (StillLasts-trans shelf_1 shelf_2 shelf_3 (lasts other) (still_lasts shelf_2 shelf_3 c.unload.ensures.passes c.unload.ensures.stable)))
    c.cut_loaded-cut.ensures.refused_last
