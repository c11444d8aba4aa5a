use Rattle.std.proofs.Common.{◌≡◌, ◌++◌, ap, ◌∙◌, arith, length, length-append}
use Rattle.sd_bnet.proofs.FeederLemmas.{shorter_behind}
use Rattle.sd_bnet.proofs.stream.take_packets.Goals as goal

pub loop-packets-smaller : goal.loop-packets-smaller
loop-packets-smaller c =
    let step = rw c.in-Whole.is at c.in_ok-packet.ensures in
    let shorter = shorter_behind (c.loop-packets.field ++ c.loop-packets.rest.now) c.in-Whole.after.now c.in-Whole.packet step.1 in
    let kept : length (c.with.result.0 ++ c.with.result.1.now) ≡ length c.in-Whole.after.now =
    ap length (c.with.ensures.joined ∙ ap (λ front. front ++ c.in-Whole.after.now) c.new.ensures) in
    omega (arith, length-append c.loop-packets.field c.loop-packets.rest.now, length-append c.with.result.0 c.with.result.1.now)
