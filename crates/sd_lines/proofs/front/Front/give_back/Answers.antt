use Rattle.sd_lines.proofs.FrontLemmas.{rests_by}
use Rattle.sd_lines.proofs.front.Front.give_back.Goals as goal

pub returns : goal.returns
returns g c = rests_by c.give_back.result c.args.end _ _ c.give_back.ensures.rests c.give_back.ensures.back
