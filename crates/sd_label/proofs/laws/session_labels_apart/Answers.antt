use Rattle.sd_label.proofs.LabelLemmas as lemmas
use Rattle.sd_label.proofs.laws.session_labels_apart.Goals as goal

pub returns : goal.returns
returns c = lemmas.session_labels_apart
