use Rattle.sd_port.proofs.PortLemmas.{port_leads}
use Rattle.sd_port.proofs.laws.port_leads.Goals as goal

pub returns : goal.returns
returns g c = λ meaning rounds old new deeds leads. port_leads meaning rounds old new deeds leads
