use Rattle.std.proofs.Common.{◌≡◌, ◌∙◌, subst, sym}
use Rattle.sd_base.proofs.ChoiceLemmas.{same_some}
use Rattle.sd_driver.specs.Shelf.{Held}
use Rattle.sd_judge.specs.Judge.{Judges}
use Rattle.sd_judge.proofs.OneLemmas.{one_judgement}
use Rattle.sd_volume.proofs.DeviceLemmas.{OnlyReads-trans}
use Rattle.sd_judge.proofs.volume.judge.Goals as goal

pub returns-in-Err-NotThere-clause-device : goal.returns-in-Err-NotThere-clause-device
returns-in-Err-NotThere-clause-device g c =
    let there = rw c.in-Err-NotThere.field-0-is at c.in-Err-NotThere.ensures.device in
    OnlyReads-trans _ _ _ (g.D.Driver.meaning c.judge_there.new.driver) _ (λ f. cc) there c.judge_gone.ensures.device

pub returns-in-Ok-clause-exactly : goal.returns-in-Ok-clause-exactly
returns-in-Ok-clause-exactly g c = λ honest held there judgement judges.
    let judged = c.in-Ok.ensures.judged honest (c.in_ok-reader.ensures.shows (g.D.Driver.meaning c.args.driver.now).shelf) in
    let same : judged.held ≡ held = same_some (sym judged.there ∙ there) in
    let P : Held → Type 0 = λ h. Judges c.args.name.now c.args.note h.bytes c.in-Ok.judged.judgement in
    one_judgement c.args.name.now c.args.note held.bytes c.in-Ok.judged.judgement judgement (subst P same judged.judges) judges
