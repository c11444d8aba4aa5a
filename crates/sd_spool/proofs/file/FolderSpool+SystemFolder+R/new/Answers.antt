use Rattle.std.proofs.Common.{arith}
use Rattle.sd_spool.proofs.Files.{IsFileName-lane}
use Rattle.sd_spool.proofs.file.FolderSpool+SystemFolder+R.new.Goals as goal

pub of_folder-requires-clause-rule : goal.of_folder-requires-clause-rule
of_folder-requires-clause-rule g c =
    let rule = IsFileName-lane c.get-drive.result c.get-lane.result (omega arith) (omega arith) in
    rw c.in_ok-name.ensures.ok rule
