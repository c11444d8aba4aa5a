use Rattle.std.proofs.Common.{refl, sym, subst}
use Rattle.sd_daemon.specs.Address.{IsLocalhost}
use Rattle.sd_daemon.proofs.address.address_of.Goals as goal

pub returns-clause-ip : goal.returns-clause-ip
returns-clause-ip c = subst IsLocalhost (sym c.new.ensures.ip) refl
