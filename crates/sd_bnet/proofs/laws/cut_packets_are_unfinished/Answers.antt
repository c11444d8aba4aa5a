use Rattle.sd_bnet.proofs.PacketLemmas.{strict_front}
use Rattle.sd_bnet.proofs.laws.cut_packets_are_unfinished.Goals as goal

pub returns : goal.returns
returns c = strict_front
