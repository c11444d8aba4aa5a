use Rattle.sd_script.proofs.LineLemmas.{have_one_form}
use Rattle.sd_script.proofs.laws.lines_have_one_form.Goals as goal

pub returns : goal.returns
returns c = have_one_form
