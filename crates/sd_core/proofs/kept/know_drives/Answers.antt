use Rattle.std.proofs.Common.{arith}
use Rattle.std.proofs.lemmas.Option.{slice_get_within}
use Rattle.sd_core.proofs.DrivesKept.{keep_more}
use Rattle.sd_core.proofs.kept.know_drives.Goals as goal

pub loop-bay-preserved : goal.loop-bay-preserved
loop-bay-preserved g c =
    keep_more (λ d. g.D.Driver.meaning d) c.args.bays.now c.loop-bay.bay-index c.bay-item.result c.loop-bay.invariant c.bay-item.is c.know_drive.ensures

pub returns : goal.returns
returns g c = λ at bay d there online.
    c.loop-bay.invariant at bay d (let within = slice_get_within c.args.bays.now at bay there in omega (arith, within, c.loop-bay-test.false)) there online
