use Rattle.sd_driver.proofs.Lasting.{stable_last, synced_last}
use Rattle.sd_driver.proofs.laws.synced_bytes_last.Goals as goal

pub returns : goal.returns
returns c = record { stable = stable_last; synced = synced_last }
