use Rattle.sd_theorem.proofs.ClosedLemmas.{scan_tells_session}
use Rattle.sd_theorem.proofs.scanned.scan_tells_session.Goals as goal

pub returns : goal.returns
returns g c = λ meaning w m ticket e spans at bay d scanned vs due outcome rules pairs there unfailed unpurged told some online honest have scans. scan_tells_session meaning w m ticket e spans at bay d scanned vs due outcome rules pairs there unfailed unpurged told some online honest have scans
