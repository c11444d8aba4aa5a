use Rattle.sd_filedrive.proofs.Shelves.{honest_after}
use Rattle.sd_filedrive.proofs.Filling.{tells_length_looked, if_ok}
use Rattle.sd_filedrive.proofs.volumes.Volumes.len.Goals as goal

pub returns-clause-ok : goal.returns-clause-ok
returns-clause-ok g c = λ h.
    let looks = c.find_reader.ensures.looks in
    let a = g.F.Folder.meaning c.args.self.now.folder in
    let b = g.F.Folder.meaning c.find_reader.new.self.folder in
    if_ok c.opened_len.result _ _ (λ count told. tells_length_looked c.args.name.now count a b (looks.same h) told)
    (c.opened_len.ensures.ok (honest_after a b looks.goes h) c.args.name.now c.in_ok-find_reader.ensures.reader)
