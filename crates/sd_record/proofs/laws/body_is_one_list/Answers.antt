use Rattle.sd_record.proofs.FragmentLemmas.{fragments_apart}
use Rattle.sd_record.proofs.laws.body_is_one_list.Goals as goal

pub returns : goal.returns
returns c = fragments_apart
