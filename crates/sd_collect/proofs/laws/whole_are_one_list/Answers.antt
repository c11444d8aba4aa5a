use Rattle.sd_collect.proofs.WholeLemmas.{whole_one_list}
use Rattle.sd_collect.proofs.laws.whole_are_one_list.Goals as goal

pub returns : goal.returns
returns c = whole_one_list
