use Rattle.sd_unpack.proofs.BodyLemmas.{damaged_no_cutting}
use Rattle.sd_unpack.proofs.BatchLemmas.{damaged_so}
use Rattle.sd_unpack.proofs.unpacker.Unpacker.add.Goals as goal

pub returns-in-Err-Damaged-clause-why : goal.returns-in-Err-Damaged-clause-why
returns-in-Err-Damaged-clause-why c =
    damaged_so (Unit {0}) c.add_body-added.result _ _ (λ damage why bodies taken sound u. why bodies taken u) c.add_body-added.ensures.why

pub returns-in-Err-Damaged-clause-no_cutting : goal.returns-in-Err-Damaged-clause-no_cutting
returns-in-Err-Damaged-clause-no_cutting c =
    damaged_so (Unit {0}) c.add_body-added.result _ _
    (λ damage why bodies taken records standing sound u h. damaged_no_cutting bodies c.args.body.now damage records standing (why bodies taken u) h)
    c.add_body-added.ensures.why
