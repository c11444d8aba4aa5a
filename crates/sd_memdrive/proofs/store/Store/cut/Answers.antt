use Rattle.std.proofs.Common.{◌≡◌, ◌<◌, ◌≤◌, length, ◌∙◌, ap, arith}
use Rattle.sd_memdrive.specs.Volumes.{Volume}
use Rattle.sd_memdrive.proofs.Places.{StandsFirstAt-within, names_differ-set}
use Rattle.sd_memdrive.proofs.Changes.{cut, short_enough, read_at}
use Rattle.sd_memdrive.proofs.Room.{pushed, pushed_len, room-reserved}
use Rattle.sd_memdrive.proofs.Stops.{NoneWithout-set}
use Rattle.sd_memdrive.proofs.store.Store.cut.Goals as goal

pub index_mut-volume-requires : goal.index_mut-volume-requires
index_mut-volume-requires c = omega (arith, StandsFirstAt-within _ _ _ c.requires, c.args.self.now.volumes.ok.0)

pub returns-then-to-len-clause-ok : goal.returns-then-to-len-clause-ok
returns-then-to-len-clause-ok c =
    let short : length c.index_mut-volume.result.now.held.bytes ≤ c.args.to = omega (arith, c.len-2.ensures.length, c.if-to-len.true) in
    let within : c.index_mut-volume.result.now.held.stable ≤ length c.index_mut-volume.result.now.held.bytes = omega (arith, c.len-2.ensures.length, c.len-2.ensures.within) in
    short_enough _ _ _ _ _ _ c.index_mut-volume.result.now c.requires c.index_mut-volume.ensures.value short within

pub invariant_of-self-2-clause-names : goal.invariant_of-self-2-clause-names
invariant_of-self-2-clause-names c =
    names_differ-set _ _ _ c.cut.new.self c.requires (ap (λ (v : Volume). v.name) c.cut.ensures ∙ (read_at _ _ _ _ c.requires c.index_mut-volume.ensures.value).0) c.args.self.now.names

pub invariant_of-self-2-clause-absent : goal.invariant_of-self-2-clause-absent
invariant_of-self-2-clause-absent c =
    NoneWithout-set _ _ _ c.args.name.now _ c.index_mut-volume.result.now c.cut.new.self (record { name = c.copy.result; stable = c.stable-stable.result; lost = c.in_ok-lost.lost })
    c.args.self.now.absent c.requires c.index_mut-volume.ensures.value (ap (λ (v : Volume). v.name) c.cut.ensures) c.copy.ensures (pushed _ _ _ _ _ (c.push.ensures.succeeds (omega (arith, c.in_ok-reserve.ensures.ok))) c.push.ensures.items c.reserve.ensures.items)

pub invariant_of-self-2-clause-room : goal.invariant_of-self-2-clause-room
invariant_of-self-2-clause-room c =
    let all : c.len.result ≡ length c.args.self.now.volumes.items = omega (arith, c.len.ensures, c.args.self.now.volumes.ok.0) in
    room-reserved _ _ _ _ _ _ _ _ all c.in_ok-reserve.ensures.ok (pushed_len _ _ _ c.push.ensures.len) c.push.ensures.capacity

pub returns : goal.returns
returns c =
    let longer : c.args.to < length c.index_mut-volume.result.now.held.bytes = omega (arith, c.len-2.ensures.length, c.if-to-len.false) in
    let t = cut _ _ _ _ _ _ c.index_mut-volume.result.now _ (record { name = c.copy.result; stable = c.stable-stable.result; lost = c.in_ok-lost.lost })
    c.requires c.index_mut-volume.ensures.value longer
    c.cut.ensures c.copy.ensures c.stable-stable.ensures.stable (c.in_ok-lost.ensures ∙ c.stable_from.ensures)
    (pushed _ _ _ _ _ (c.push.ensures.succeeds (omega (arith, c.in_ok-reserve.ensures.ok))) c.push.ensures.items c.reserve.ensures.items) in
    record { passes = t.passes; stable = t.stable; ok = t.ok; err = tt; names = t.names }
