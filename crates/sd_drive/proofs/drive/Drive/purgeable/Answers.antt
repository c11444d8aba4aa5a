use Rattle.std.proofs.Common.{sym}
use Rattle.sd_drive.proofs.FindLemmas.{place_there}
use Rattle.sd_drive.proofs.drive.Drive.purgeable.Goals as goal

pub returns-clause-there : goal.returns-clause-there
returns-clause-there g c = rw (← c.self.view_is) (place_there c.self.inside.volumes.items c.args.name.now c.in-Some.at (sym (rw c.deref.ensures.value at c.in-Some.ensures)))
