use Rattle.std.proofs.Common.{string_bytes, ap, ◌∙◌}
use Rattle.sd_spool.proofs.Others.{others_stay}
use Rattle.sd_spool.proofs.Reading.{honest_after}
use Rattle.sd_spool.proofs.spool_file.SpoolFile.append.Goals as goal

pub returns-in_err-cut_even-clause-others : goal.returns-in_err-cut_even-clause-others
returns-in_err-cut_even-clause-others g c = λ h.
    let old = g.F.Folder.meaning c.args.self.now.folder in
    let opened = g.F.Folder.meaning c.open.new.self.folder in
    let cut = g.F.Folder.meaning c.cut_even.new.folder in
    let honest = honest_after old opened c.open.ensures.honest h in
    let same = (c.open.new.self.knows honest c.in-Some-opened.opened c.in-Some-opened.is).0 ∙ ap string_bytes c.open.ensures.name in
    others_stay _ _ old opened cut same (c.open.ensures.others h) (c.cut_even.ensures.others honest)

pub returns-in_err-write_at-clause-others : goal.returns-in_err-write_at-clause-others
returns-in_err-write_at-clause-others g c = λ h.
    let old = g.F.Folder.meaning c.args.self.now.folder in
    let opened = g.F.Folder.meaning c.open.new.self.folder in
    let cut = g.F.Folder.meaning c.cut_even.new.folder in
    let honest = honest_after old opened c.open.ensures.honest h in
    let same = (c.open.new.self.knows honest c.in-Some-opened.opened c.in-Some-opened.is).0 ∙ ap string_bytes c.open.ensures.name in
    let before = others_stay _ _ old opened cut same (c.open.ensures.others h) (c.cut_even.ensures.others honest) in
    others_stay _ _ old cut (g.F.Folder.meaning c.write_at.new.folder) (ap g.F.Folder.name_of c.cut_even.ensures.file ∙ same) before
    (c.write_at.ensures.others (honest_after opened cut c.cut_even.ensures.honest honest))

pub returns-clause-others : goal.returns-clause-others
returns-clause-others g c = λ h.
    let old = g.F.Folder.meaning c.args.self.now.folder in
    let opened = g.F.Folder.meaning c.open.new.self.folder in
    let cut = g.F.Folder.meaning c.cut_even.new.folder in
    let honest = honest_after old opened c.open.ensures.honest h in
    let same = (c.open.new.self.knows honest c.in-Some-opened.opened c.in-Some-opened.is).0 ∙ ap string_bytes c.open.ensures.name in
    let before = others_stay _ _ old opened cut same (c.open.ensures.others h) (c.cut_even.ensures.others honest) in
    others_stay _ _ old cut (g.F.Folder.meaning c.write_at.new.folder) (ap g.F.Folder.name_of c.cut_even.ensures.file ∙ same) before
    (c.write_at.ensures.others (honest_after opened cut c.cut_even.ensures.honest honest))
