use Rattle.sd_theorem.proofs.laws.over_folders.Goals as goal

pub returns : goal.returns
returns g c = λ queue start honest. record { devices = honest.devices; stores = honest.spools }
