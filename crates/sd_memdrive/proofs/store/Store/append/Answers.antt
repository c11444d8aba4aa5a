use Rattle.std.proofs.Common.{◌≡◌, ◌≢◌, length, [], ◌∙◌, ap, arith, rules}
use Rattle.sd_memdrive.specs.Volumes.{Volume}
use Rattle.sd_memdrive.proofs.Places.{StandsFirstAt-within, names_differ-set}
use Rattle.sd_memdrive.proofs.Changes.{appended, read_at}
use Rattle.sd_memdrive.proofs.Room.{pushed, pushed_len, room-reserved}
use Rattle.sd_memdrive.proofs.Stops.{NoneWithout-set}
use Rattle.sd_memdrive.proofs.store.Store.append.Goals as goal

pub index_mut-volume-requires : goal.index_mut-volume-requires
index_mut-volume-requires c = omega (arith, StandsFirstAt-within _ _ _ c.requires, c.args.self.now.volumes.ok.0)

pub invariant_of-self-2-clause-names : goal.invariant_of-self-2-clause-names
invariant_of-self-2-clause-names c =
    names_differ-set _ _ _ c.append.new.self c.requires (ap (λ (v : Volume). v.name) c.in_ok-append.ensures.ok ∙ (read_at _ _ _ _ c.requires c.index_mut-volume.ensures.value).0) c.args.self.now.names

pub invariant_of-self-2-clause-absent : goal.invariant_of-self-2-clause-absent
invariant_of-self-2-clause-absent c =
    NoneWithout-set _ _ _ c.args.name.now _ c.index_mut-volume.result.now c.append.new.self (record { name = c.copy.result; stable = c.stable-stable.result; lost = c.new-lost.result })
    c.args.self.now.absent c.requires c.index_mut-volume.ensures.value (ap (λ (v : Volume). v.name) c.in_ok-append.ensures.ok) c.copy.ensures (pushed _ _ _ _ _ (c.push.ensures.succeeds (omega (arith, c.in_ok-reserve.ensures.ok))) c.push.ensures.items c.reserve.ensures.items)

pub invariant_of-self-2-clause-room : goal.invariant_of-self-2-clause-room
invariant_of-self-2-clause-room c =
    let all : c.len.result ≡ length c.args.self.now.volumes.items = omega (arith, c.len.ensures, c.args.self.now.volumes.ok.0) in
    room-reserved _ _ _ _ _ _ _ _ all c.in_ok-reserve.ensures.ok (pushed_len _ _ _ c.push.ensures.len) c.push.ensures.capacity

pub returns : goal.returns
returns c =
    let some : c.args.bytes.now ≢ [] = search rules in
    let t = appended _ _ _ _ _ c.index_mut-volume.result.now _ (record { name = c.copy.result; stable = c.stable-stable.result; lost = c.new-lost.result }) c.args.bytes.now
    c.requires c.index_mut-volume.ensures.value (omega (arith, c.stable-stable.ensures.within, c.stable-stable.ensures.stable)) some
    c.in_ok-append.ensures.ok c.copy.ensures c.stable-stable.ensures.stable c.new-lost.ensures
    (pushed _ _ _ _ _ (c.push.ensures.succeeds (omega (arith, c.in_ok-reserve.ensures.ok))) c.push.ensures.items c.reserve.ensures.items) in
    record { passes = t.passes; stable = t.stable; ok = t.ok; err = tt; names = t.names }
