use Rattle.std.proofs.Common.{ap, sym, ◌∙◌}
use Rattle.sd_filedrive.specs.Parts.{opened_name}
use Rattle.sd_base.proofs.ChoiceLemmas.{same_some}
use Rattle.sd_filedrive.proofs.Filling.{tells_bytes, if_ok}
use Rattle.sd_filedrive.proofs.volumes.Volumes.read_opened.Goals as goal

pub returns-clause-ok : goal.returns-clause-ok
returns-clause-ok g c = λ h.
    let k = c.args.self.now.opened h c.in-Some.opened c.in-Some.is in
    let same = same_some (sym (ap opened_name c.in-Some.is) ∙ c.requires.opened) in
    if_ok c.fill.result _ _ (λ count told. tells_bytes _ _ _ c.args.at _ count _ _ k.same same k.there told) (c.fill.ensures.ok h)
