use Rattle.sd_label.proofs.LabelLemmas as lemmas
use Rattle.sd_label.proofs.laws.label_kinds_apart.Goals as goal

pub returns : goal.returns
returns c = lemmas.label_kinds_apart
