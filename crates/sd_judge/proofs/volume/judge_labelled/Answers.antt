use Rattle.std.proofs.Common.{inr, subst}
use Rattle.std.specs.Int.{w64}
use Rattle.std.proofs.lemmas.Int.{to_z-of_z}
use Rattle.sd_scan.proofs.RunLemmas.{if_ok}
use Rattle.sd_judge.specs.Alone.{JudgesAlone}
use Rattle.sd_judge.proofs.volume.judge_labelled.Goals as goal

pub returns-in-None-clause-judges : goal.returns-in-None-clause-judges
returns-in-None-clause-judges g c = λ most held at size.
    if_ok c.judge_alone.result (JudgesAlone held.bytes c.args.found.now.first) _
    (λ judged alone. inr (rw (to_z-of_z w64 c.args.found.now.label.moment c.requires.label.moment) at c.in-None.ensures.none, subst (λ n. JudgesAlone held.bytes n judged) c.requires.first alone))
    (c.judge_alone.ensures.judges held at size)
