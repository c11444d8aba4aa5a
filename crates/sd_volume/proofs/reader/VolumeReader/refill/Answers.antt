use Rattle.std.proofs.Common.{◌≡◌, ◌+◌, ap, ◌∙◌, length, take, drop, sym, Some}
use Rattle.sd_driver.specs.Shelf.{BeginsWith}
use Rattle.sd_volume.proofs.ReaderLemmas.{lent_whole}
use Rattle.sd_volume.proofs.reader.VolumeReader.refill.Goals as goal

pub returns-clause-holds : goal.returns-clause-holds
returns-clause-holds g c = λ honest shows held there.
    let r = c.self.inside in
    let shelf = (g.D.Driver.meaning c.args.driver.now).shelf in
    let at_turn = rw (← c.self.view_is) at (c.turn_to.ensures.shows shelf shows) in
    let from = rw (← c.self.view_is) at c.turn_to.ensures.from in
    let there_before : shelf.volume r.name ≡ Some held = sym (c.in_ok-count.ensures.device.same honest r.name) ∙ there in
    let begins : BeginsWith (drop c.args.at held.bytes) (take r.held c.deref_mut.result.now) = rw (c.deref_mut.ensures.value, ← from) (at_turn held there_before) in
    let whole : length c.deref_mut.result.now ≡ r.buffer.len = c.deref_mut.ensures.len in
    lent_whole c.read_behind.new.buffer _ r.buffer.len (r.held + c.in_ok-count.count) (c.read_behind.auto.buffer ∙ whole)
    ∙ c.in_ok-count.ensures.bytes honest held (ap shelf.volume c.copy-name.ensures ∙ there_before) begins
    ∙ ap (λ n. take n (drop c.args.at held.bytes)) (ap length c.deref_mut.ensures.value ∙ c.self.invariant.length_is)
