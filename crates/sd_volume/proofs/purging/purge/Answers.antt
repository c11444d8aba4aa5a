use Rattle.std.proofs.Common.{subst}
use Rattle.std.specs.Prelude.{OnOk}
use Rattle.sd_volume.specs.Adopt.{CutsAt, KeepsUpTo}
use Rattle.sd_volume.specs.Volume.{VolumeView}
use Rattle.sd_volume.proofs.PurgeLemmas.{left_of, label_kept}
use Rattle.sd_volume.proofs.purging.purge.Goals as goal

pub returns-clause-leaves : goal.returns-clause-leaves
returns-clause-leaves g c = λ honest.
    let old = (g.D.Driver.meaning c.args.driver.now).shelf in
    let new = (g.D.Driver.meaning c.cut_back-cut.new.driver).shelf in
    let P : VolumeView → Type 0 = λ v. OnOk c.cut_back-cut.result (CutsAt v.first v.name old new) in
    left_of c.cut_back-cut.result c.args.volume.now c.empty_after.new.volume old new c.empty_after.ensures.ok (subst P c.volume.view_is (c.cut_back-cut.ensures.ok honest))

pub returns-clause-keeps : goal.returns-clause-keeps
returns-clause-keeps g c = λ honest device.
    let old = (g.D.Driver.meaning c.args.driver.now).shelf in
    let new = (g.D.Driver.meaning c.cut_back-cut.new.driver).shelf in
    let P : VolumeView → Type 0 = λ v. KeepsUpTo v.first v.name old new in
    label_kept c.args.volume.now c.empty_after.new.volume old new (c.empty_after.ensures.failed device) (subst P c.volume.view_is (c.cut_back-cut.ensures.keeps honest))
