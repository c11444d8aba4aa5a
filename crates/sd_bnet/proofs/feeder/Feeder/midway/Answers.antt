use Rattle.sd_bnet.proofs.PacketLemmas.{begun_length}
use Rattle.sd_bnet.proofs.feeder.Feeder.midway.Goals as goal

pub returns-in-Length : goal.returns-in-Length
returns-in-Length c =
    let short = rw c.in-Length.is at c.self.invariant in
    let begun = begun_length c.in-Length.begun short in
    rw (c.is_empty.ensures, c.as_slice.ensures.bytes, ← c.self.view_is, c.in-Length.is) begun
