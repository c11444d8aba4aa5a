use Rattle.sd_folder.specs.Steps.{MayBeCut}
use Rattle.sd_memfolder.specs.Folder.{files_folder}
use Rattle.sd_memfolder.proofs.Folders.{goes_self, on_err, takes_self, takes_same, uncut}
use Rattle.sd_memfolder.proofs.folder.MemoryFolderFolder.cut.Goals as goal

pub returns-in_err-due-clause-goes : goal.returns-in_err-due-clause-goes
returns-in_err-due-clause-goes c = goes_self c.args.self.now.files.files.items c.args.self.now.files.past.items

pub returns-in_default-clause-goes : goal.returns-in_default-clause-goes
returns-in_default-clause-goes c = goes_self c.args.self.now.files.files.items c.args.self.now.files.past.items

pub returns-in_err-due-clause-err : goal.returns-in_err-due-clause-err
returns-in_err-due-clause-err c = λ h. on_err c.from_residual.result _
    (takes_self (MayBeCut c.args.to) c.args.file.now.name c.args.self.now.files.files.items c.args.self.now.files.past.items (uncut c.args.to))

pub returns-in_default-change-clause-err : goal.returns-in_default-change-clause-err
returns-in_default-change-clause-err c = λ h.
    takes_same (MayBeCut c.args.to) c.args.file.now.name (files_folder c.args.self.now.files) (files_folder c.change.new.self) (uncut c.args.to) c.in_default-change.ensures.err
