use Rattle.sd_bnet.proofs.EveryStream.{every_stream}
use Rattle.sd_bnet.proofs.laws.every_stream_has_packets.Goals as goal

pub returns : goal.returns
returns c = every_stream
