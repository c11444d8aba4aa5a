use Rattle.std.proofs.Common.{◌∙◌}
use Rattle.sd_hub.proofs.EndLemmas.{found_or_none}
use Rattle.sd_hub.proofs.ends.is_there.Goals as goal

pub returns : goal.returns
returns g c = c.is_some.ensures ∙ found_or_none c.args.no c.args.lane c.args.ends.now c.index_of.result c.index_of.ensures.some c.index_of.ensures.none
