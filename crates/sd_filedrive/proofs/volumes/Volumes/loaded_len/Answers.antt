use Rattle.std.proofs.Common.{ap, sym, ◌∙◌}
use Rattle.sd_filedrive.specs.Parts.{loaded_name}
use Rattle.sd_base.proofs.ChoiceLemmas.{same_some}
use Rattle.sd_filedrive.proofs.Filling.{tells_length, if_ok}
use Rattle.sd_filedrive.proofs.volumes.Volumes.loaded_len.Goals as goal

pub returns-clause-ok : goal.returns-clause-ok
returns-clause-ok g c = λ h name is.
    let k = c.args.self.now.knows h c.in-Some.loaded c.in-Some.is in
    let same = same_some (sym (ap loaded_name c.in-Some.is) ∙ is) in
    if_ok c.length_of.result _ _ (λ count told. tells_length _ _ _ count (g.F.Folder.meaning c.args.self.now.folder) k.same same k.there told) (c.length_of.ensures.ok h)
