use Rattle.sd_memfolder.proofs.Folders.{goes_self}
use Rattle.sd_memfolder.proofs.folder.MemoryFolderFolder.create.Goals as goal

pub returns-in_err-due-clause-goes : goal.returns-in_err-due-clause-goes
returns-in_err-due-clause-goes c = goes_self c.args.self.now.files.files.items c.args.self.now.files.past.items

pub returns-in_default-clause-goes : goal.returns-in_default-clause-goes
returns-in_default-clause-goes c = goes_self c.args.self.now.files.files.items c.args.self.now.files.past.items

pub returns-in_default-find-clause-goes : goal.returns-in_default-find-clause-goes
returns-in_default-find-clause-goes c = goes_self c.args.self.now.files.files.items c.args.self.now.files.past.items
