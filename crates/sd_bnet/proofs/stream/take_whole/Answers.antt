use Rattle.std.proofs.Common.{arith}
use Rattle.sd_bnet.proofs.FeederLemmas.{whole_payload}
use Rattle.sd_bnet.proofs.stream.take_whole.Goals as goal

pub returns-clause-packets : goal.returns-clause-packets
returns-clause-packets c =
    let behind = rw (c.new.ensures, c.split_at.ensures.back) at c.in_ok-taken.ensures.packets in
    let fits = whole_payload _ c.args.pending.now.size c.missing.result c.args.pending.now.bytes.items c.args.piece.now c.in_ok-taken.taken.packets.items (omega arith) (omega arith) c.requires.within behind in
    rw (c.in_ok-insert.ensures.items, c.in_ok-reserve.ensures.items, c.within-payload.ensures, c.from_vec.ensures, c.replace-bytes.ensures.value, c.in_ok-add.ensures.ok, c.split_at.ensures.front) fits
