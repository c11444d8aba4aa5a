use Rattle.sd_append.proofs.TalkTurns.{replies_answer_turns}
use Rattle.sd_append.proofs.laws.replies_answer_turns.Goals as goal

pub returns : goal.returns
returns g c = λ moment packets rest asked out end talk. replies_answer_turns moment packets rest asked out end talk
