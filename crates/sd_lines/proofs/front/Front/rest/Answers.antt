use Rattle.sd_lines.proofs.FrontLemmas.{rests_by}
use Rattle.sd_lines.proofs.front.Front.rest.Goals as goal

pub returns : goal.returns
returns g c = rests_by c.rest.result c.args.end _ _ c.rest.ensures.ok c.rest.ensures.back
