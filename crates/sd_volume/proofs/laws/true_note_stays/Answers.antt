use Rattle.sd_volume.proofs.NotedLemmas.{true_note_stays}
use Rattle.sd_volume.proofs.laws.true_note_stays.Goals as goal

pub returns : goal.returns
returns c = true_note_stays
