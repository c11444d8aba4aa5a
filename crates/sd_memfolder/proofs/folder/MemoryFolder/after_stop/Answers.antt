use Rattle.sd_memfolder.specs.Folder.{files_folder}
use Rattle.sd_memfolder.proofs.Stops.{AfterStop-left, NoneTorn-left, left_kept}
use Rattle.sd_memfolder.proofs.folder.MemoryFolder.after_stop.Goals as goal

pub returns-clause-left : goal.returns-clause-left
returns-clause-left c = λ name.
    left_kept c.args.tail.now c.args.self.now.files.files.items _ c.args.self.now.files.past.items c.args.calls name
    (record { differ = c.args.self.now.files.differ; within = c.args.self.now.files.within; were = c.args.self.now.files.were }) c.in_ok-after_stop.ensures.files

pub returns-clause-whole : goal.returns-clause-whole
returns-clause-whole c =
    NoneTorn-left c.args.tail.now (λ name. (files_folder c.args.self.now.files).kept c.args.calls name) (files_folder c.in_ok-after_stop.field-0) (returns-clause-left c)

pub returns-clause-stop : goal.returns-clause-stop
returns-clause-stop c =
    AfterStop-left c.args.tail.now (files_folder c.args.self.now.files) (files_folder c.in_ok-after_stop.field-0) c.args.calls c.requires (returns-clause-left c)
