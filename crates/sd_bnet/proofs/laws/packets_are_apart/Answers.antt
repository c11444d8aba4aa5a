use Rattle.sd_bnet.proofs.PacketLemmas.{same_packet}
use Rattle.sd_bnet.proofs.laws.packets_are_apart.Goals as goal

pub returns : goal.returns
returns c = same_packet
