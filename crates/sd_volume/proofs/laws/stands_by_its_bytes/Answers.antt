use Rattle.sd_volume.proofs.VolumeLemmas.{stands_by_its_bytes}
use Rattle.sd_volume.proofs.laws.stands_by_its_bytes.Goals as goal

pub returns : goal.returns
returns c = stands_by_its_bytes
