use Rattle.std.proofs.Common.{string_bytes, ap, ◌∙◌}
use Rattle.sd_spool.proofs.Others.{others_stay}
use Rattle.sd_spool.proofs.Reading.{honest_after}
use Rattle.sd_spool.proofs.spool_file.SpoolFile.clear.Goals as goal

pub returns-clause-others : goal.returns-clause-others
returns-clause-others g c = λ h.
    let old = g.F.Folder.meaning c.args.self.now.folder in
    let opened = g.F.Folder.meaning c.open.new.self.folder in
    let cut = g.F.Folder.meaning c.cut_even.new.folder in
    let forgot = g.F.Folder.meaning c.forget.new.self.folder in
    let is_honest = honest_after old forgot (ap (λ f. (g.F.Folder.meaning f).honest) c.forget.ensures.folder) h in
    let honest = honest_after forgot opened c.open.ensures.honest is_honest in
    let name = ap string_bytes c.forget.ensures.name in
    let same = (c.open.new.self.knows honest c.in-Some.opened c.in-Some.is).0 ∙ ap string_bytes c.open.ensures.name ∙ name in
    let before = others_stay _ _ old forgot opened name (λ other _. ap (λ f. (g.F.Folder.meaning f).file other) c.forget.ensures.folder) (c.open.ensures.others is_honest) in
    others_stay _ _ old opened cut same before (c.cut_even.ensures.others honest)
