use Rattle.std.proofs.Common.{ap}
use Rattle.sd_filedrive.specs.Parts.{loaded_name}
use Rattle.sd_filedrive.proofs.Shelves.{honest_after, Takes-looked}
use Rattle.sd_filedrive.proofs.Changing.{by_result, on_err, KeepsStable-looked, Appends-keeps, MayAppend-keeps, MayAppend-of}
use Rattle.sd_filedrive.proofs.volumes.Volumes.append.Goals as goal

pub returns-clause-stable : goal.returns-clause-stable
returns-clause-stable g c = λ h.
    let looks = c.find_end.ensures.looks in
    let now = honest_after _ _ looks.goes h in
    let a = g.F.Folder.meaning c.args.self.now.folder in
    let b = g.F.Folder.meaning c.find_end.new.folder in
    let d = g.F.Folder.meaning c.append_at.new.folder in
    KeepsStable-looked a b d (looks.same h)
    (by_result c.append_at.result _ _ _ (c.append_at.ensures.ok now) (c.append_at.ensures.err now) (Appends-keeps c.in-Some.loaded.name c.args.bytes.now b d) (MayAppend-keeps c.in-Some.loaded.name b d))

pub returns-clause-err : goal.returns-clause-err
returns-clause-err g c = λ h.
    let looks = c.find_end.ensures.looks in
    let a = g.F.Folder.meaning c.args.self.now.folder in
    let b = g.F.Folder.meaning c.find_end.new.folder in
    let d = g.F.Folder.meaning c.append_at.new.folder in
    on_err c.append_at.result _ _
    (λ may. MayAppend-of c.in-Some.loaded.name _ a d (ap loaded_name c.in-Some.is) (Takes-looked _ c.in-Some.loaded.name a b d (looks.same h) may))
    (c.append_at.ensures.err (honest_after _ _ looks.goes h))
