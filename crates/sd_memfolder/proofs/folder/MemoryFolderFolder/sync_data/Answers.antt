use Rattle.std.proofs.Common.{◌≡◌, false, ap, ◌∙◌, is_some}
use Rattle.sd_memfolder.specs.Folder.{files_folder}
use Rattle.sd_memfolder.proofs.Folders.{goes_self, may_sync_data, on_err, on_ok, syncs_data}
use Rattle.sd_memfolder.proofs.folder.MemoryFolderFolder.sync_data.Goals as goal

pub returns-in_default-clause-goes : goal.returns-in_default-clause-goes
returns-in_default-clause-goes c = goes_self c.args.self.now.files.files.items c.args.self.now.files.past.items

pub returns-clause-ok : goal.returns-clause-ok
returns-clause-ok c = λ h. on_ok c.finish.result _ (λ ok.
    let succeeds : c.is_some.result ≡ false = c.is_some.ensures ∙ ap is_some (c.finish.ensures.done.0 ok) in
    syncs_data c.is_some.result c.args.file.now.name c.args.self.now.files.files.items c.args.self.now.files.past.items (files_folder c.change.new.self) c.args.self.now.files.within succeeds c.in-Ok-change.ensures.ok)

pub returns-clause-err : goal.returns-clause-err
returns-clause-err c = λ h. on_err c.finish.result _
    (may_sync_data c.is_some.result c.args.file.now.name c.args.self.now.files.files.items c.args.self.now.files.past.items (files_folder c.change.new.self) c.args.self.now.files.within c.in-Ok-change.ensures.ok)
