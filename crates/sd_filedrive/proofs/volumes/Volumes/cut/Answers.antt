use Rattle.std.proofs.Common.{ap}
use Rattle.sd_filedrive.specs.Parts.{loaded_name}
use Rattle.sd_filedrive.proofs.Shelves.{honest_after, Takes-looked}
use Rattle.sd_filedrive.proofs.Changing.{by_result, on_err, any_err}
use Rattle.sd_filedrive.proofs.Cutting.{MayCut-of, MayCut-keeps, MayTruncate-of, MayTruncate-same, KeepsStableTo-looked}
use Rattle.sd_filedrive.proofs.volumes.Volumes.cut.Goals as goal

pub returns-in_err-end-clause-err : goal.returns-in_err-end-clause-err
returns-in_err-end-clause-err g c = λ h. any_err c.from_residual.result _
    (MayTruncate-same c.args.to _ (g.F.Folder.meaning c.args.self.now.folder) (g.F.Folder.meaning c.find_end.new.folder) (c.find_end.ensures.looks.same h))

pub returns-clause-stable : goal.returns-clause-stable
returns-clause-stable g c = λ h.
    let looks = c.find_end.ensures.looks in
    let now = honest_after _ _ looks.goes h in
    let a = g.F.Folder.meaning c.args.self.now.folder in
    let b = g.F.Folder.meaning c.find_end.new.folder in
    let d = g.F.Folder.meaning c.cut_at.new.folder in
    let name = c.in-Some.loaded.name in
    let is = ap loaded_name c.in-Some.is in
    KeepsStableTo-looked c.args.to (loaded_name c.args.self.now.loaded) a b d (looks.same h)
    (by_result c.cut_at.result _ _ _ (c.cut_at.ensures.ok now) (c.cut_at.ensures.err now)
    (λ cuts. MayCut-keeps name c.args.to _ b d is (MayCut-of name c.args.to b d cuts)) (λ may. MayCut-keeps name c.args.to _ b d is may))

pub returns-clause-err : goal.returns-clause-err
returns-clause-err g c = λ h.
    let looks = c.find_end.ensures.looks in
    let a = g.F.Folder.meaning c.args.self.now.folder in
    let b = g.F.Folder.meaning c.find_end.new.folder in
    let d = g.F.Folder.meaning c.cut_at.new.folder in
    let name = c.in-Some.loaded.name in
    on_err c.cut_at.result _ _
    (λ may. MayTruncate-of name c.args.to _ a d (ap loaded_name c.in-Some.is) (Takes-looked _ name a b d (looks.same h) may))
    (c.cut_at.ensures.err (honest_after _ _ looks.goes h))
