use Rattle.std.proofs.Common.{rules, tests}
use Rattle.std.proofs.lemmas.Iterator.{YieldsList-from_slice}
use Rattle.std.proofs.lemmas.Iterator.Search.{all_from_yields_List}
use Rattle.sd_desk.specs.Desk.{claimed_by}
use Rattle.sd_world.specs.Reading.{is_at_drive}
use Rattle.sd_core.proofs.reading.are_at_drive.Goals as goal

pub returns : goal.returns
returns c =
    all_from_yields_List (λ s. is_at_drive c.args.drive (claimed_by c.args.desk.now s.volume)) _ _ c.all.result c.all.ensures.ran
    (YieldsList-from_slice c.args.spans.now cc) (λ x b q k. search (rules, tests))
