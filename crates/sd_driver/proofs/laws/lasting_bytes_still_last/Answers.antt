use Rattle.sd_driver.proofs.Lasting.{still_lasts, still_lasts_below}
use Rattle.sd_driver.proofs.laws.lasting_bytes_still_last.Goals as goal

pub returns : goal.returns
returns c = record { calls = still_lasts; cuts = still_lasts_below }
