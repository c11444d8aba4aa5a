use Rattle.sd_theorem.proofs.ClosedLemmas.{scan_tells_closed}
use Rattle.sd_theorem.proofs.scanned.scan_tells_closed.Goals as goal

pub returns : goal.returns
returns g c = λ meaning w m key spans at bay d scanned vs due outcome pairs closed h have scans. scan_tells_closed meaning w m key spans at bay d scanned vs due outcome pairs closed h have scans
