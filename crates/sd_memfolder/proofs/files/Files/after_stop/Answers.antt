use Rattle.sd_memfolder.proofs.Stops.{sound-left}
use Rattle.sd_memfolder.proofs.files.Files.after_stop.Goals as goal

pub of-requires : goal.of-requires
of-requires c =
    sound-left c.args.tail.now c.args.self.now.files.items _ c.args.self.now.past.items c.args.calls
    (record { differ = c.args.self.now.differ; within = c.args.self.now.within; were = c.args.self.now.were }) c.in_ok-files.ensures
