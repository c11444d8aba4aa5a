use Rattle.sd_theorem.proofs.ToldLemmas.{scan_tells_told}
use Rattle.sd_theorem.proofs.scanned.scan_tells_told.Goals as goal

pub returns : goal.returns
returns g c = λ is start first w deeds key spans e at bay d scanned vs due outcome made honest leads told there closed online have scans. scan_tells_told is start first w deeds key spans e at bay d scanned vs due outcome made honest leads told there closed online have scans
