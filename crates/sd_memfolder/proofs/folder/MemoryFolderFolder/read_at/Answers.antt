use Rattle.std.proofs.Common.{length}
use Rattle.sd_memfolder.proofs.Places.{read_at}
use Rattle.sd_memfolder.proofs.Folders.{goes_self, reads_of}
use Rattle.sd_memfolder.proofs.folder.MemoryFolderFolder.read_at.Goals as goal

pub returns-in_err-due-clause-goes : goal.returns-in_err-due-clause-goes
returns-in_err-due-clause-goes c = goes_self c.args.self.now.files.files.items c.args.self.now.files.past.items

pub returns-in_default-clause-goes : goal.returns-in_default-clause-goes
returns-in_default-clause-goes c = goes_self c.args.self.now.files.files.items c.args.self.now.files.past.items

pub returns-in_err-finish-clause-goes : goal.returns-in_err-finish-clause-goes
returns-in_err-finish-clause-goes c = goes_self c.args.self.now.files.files.items c.args.self.now.files.past.items

pub returns-clause-goes : goal.returns-clause-goes
returns-clause-goes c = goes_self c.args.self.now.files.files.items c.args.self.now.files.past.items

pub returns-clause-ok : goal.returns-clause-ok
returns-clause-ok c = λ h.
    let here = read_at _ _ _ _ c.in-Some.ensures.place c.index.ensures in
    reads_of c.args.file.now.name c.args.at (length c.args.into.now) c.read.result c.read.new.into c.index.result.now c.args.self.now.files.files.items c.args.self.now.files.past.items
    c.args.self.now.files.within here.1 c.read.ensures.count c.read.ensures.bytes
