use Rattle.sd_filedrive.proofs.Cutting.{MayTruncate-none}
use Rattle.sd_filedrive.proofs.drive.FolderDriveDriver.cut.Goals as goal

pub returns-then-is_spent-clause-err : goal.returns-then-is_spent-clause-err
returns-then-is_spent-clause-err g c = λ h. MayTruncate-none c.args.to _ _
