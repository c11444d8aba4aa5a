use Rattle.sd_append.proofs.Appended.{appended_is_taken}
use Rattle.sd_append.proofs.laws.appended_is_taken.Goals as goal

pub returns : goal.returns
returns c = λ known turn phase says. appended_is_taken known turn phase says
