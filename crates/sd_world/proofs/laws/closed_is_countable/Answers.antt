use Rattle.sd_world.proofs.ReadLemmas.{closed_is_countable}
use Rattle.sd_world.proofs.laws.closed_is_countable.Goals as goal

pub returns : goal.returns
returns c = closed_is_countable
