use Rattle.std.proofs.Common.{◌≢◌, ◌<◌, ◌≤◌, length, ◌∙◌, ap, sym, arith, refl}
use Rattle.sd_memdrive.specs.Volumes.{Volume}
use Rattle.sd_memdrive.proofs.Places.{StandsFirstAt-within, names_differ-set}
use Rattle.sd_memdrive.proofs.Changes.{synced, all_stable, may_sync, read_at}
use Rattle.sd_memdrive.proofs.Room.{pushed, pushed_len, room-synced, room-for_sync}
use Rattle.sd_memdrive.proofs.Stops.{NoneWithout-set}
use Rattle.sd_memdrive.proofs.store.Store.sync.Goals as goal

pub index_mut-volume-requires : goal.index_mut-volume-requires
index_mut-volume-requires c = omega (arith, StandsFirstAt-within _ _ _ c.requires, c.args.self.now.volumes.ok.0)

pub returns-then-stable-len-clause-ok : goal.returns-then-stable-len-clause-ok
returns-then-stable-len-clause-ok c =
    all_stable _ _ _ _ _ c.index_mut-volume.result.now c.requires c.index_mut-volume.ensures.value (sym c.stable-stable.ensures.stable ∙ c.if-stable-len.true ∙ c.len.ensures.length)

pub returns-then-stable-len-clause-may : goal.returns-then-stable-len-clause-may
returns-then-stable-len-clause-may c =
    may_sync _ _ _ _ _ c.index_mut-volume.result.now c.index_mut-volume.result.now c.requires c.index_mut-volume.ensures.value refl refl (omega arith)

pub invariant_of-self-2-clause-names : goal.invariant_of-self-2-clause-names
invariant_of-self-2-clause-names c =
    names_differ-set _ _ _ c.sync.new.self c.requires (ap (λ (v : Volume). v.name) c.sync.ensures ∙ (read_at _ _ _ _ c.requires c.index_mut-volume.ensures.value).0) c.args.self.now.names

pub invariant_of-self-2-clause-absent : goal.invariant_of-self-2-clause-absent
invariant_of-self-2-clause-absent c =
    let less : c.index_mut-volume.result.now.held.stable < length c.index_mut-volume.result.now.held.bytes = omega (arith, c.stable-stable.ensures.stable, c.stable-stable.ensures.within, c.len.ensures.length, c.if-stable-len.false) in
    NoneWithout-set _ _ _ c.args.name.now _ c.index_mut-volume.result.now c.sync.new.self (record { name = c.copy.result; stable = c.stable-stable.result; lost = c.new-lost.result })
    c.args.self.now.absent c.requires c.index_mut-volume.ensures.value (ap (λ (v : Volume). v.name) c.sync.ensures) c.copy.ensures (pushed _ _ _ _ _ (c.push.ensures.succeeds (room-for_sync _ _ _ _ _ (StandsFirstAt-within _ _ _ c.requires) c.index_mut-volume.ensures.value less c.args.self.now.room)) c.push.ensures.items refl)

pub invariant_of-self-2-clause-room : goal.invariant_of-self-2-clause-room
invariant_of-self-2-clause-room c =
    let less : c.index_mut-volume.result.now.held.stable < length c.index_mut-volume.result.now.held.bytes = omega (arith, c.stable-stable.ensures.stable, c.stable-stable.ensures.within, c.len.ensures.length, c.if-stable-len.false) in
    room-synced _ _ _ c.sync.new.self _ _ _ _ (StandsFirstAt-within _ _ _ c.requires) c.index_mut-volume.ensures.value less
    (ap (λ (v : Volume). v.held.stable) c.sync.ensures ∙ sym (ap (λ (v : Volume). length v.held.bytes) c.sync.ensures))
    c.args.self.now.room (pushed_len _ _ _ c.push.ensures.len) c.push.ensures.capacity

pub unwrap-requires : goal.unwrap-requires
unwrap-requires c =
    let less : c.index_mut-volume.result.now.held.stable < length c.index_mut-volume.result.now.held.bytes = omega (arith, c.stable-stable.ensures.stable, c.stable-stable.ensures.within, c.len.ensures.length, c.if-stable-len.false) in
    c.push.ensures.succeeds (room-for_sync _ _ _ _ _ (StandsFirstAt-within _ _ _ c.requires) c.index_mut-volume.ensures.value less c.args.self.now.room)

pub returns : goal.returns
returns c =
    let is_less : c.index_mut-volume.result.now.held.stable < length c.index_mut-volume.result.now.held.bytes = omega (arith, c.stable-stable.ensures.stable, c.stable-stable.ensures.within, c.len.ensures.length, c.if-stable-len.false) in
    let less : c.index_mut-volume.result.now.held.stable ≢ length c.index_mut-volume.result.now.held.bytes = omega (arith, c.stable-stable.ensures.stable, c.len.ensures.length, c.if-stable-len.false) in
    let t = synced _ _ _ _ _ c.index_mut-volume.result.now _ (record { name = c.copy.result; stable = c.stable-stable.result; lost = c.new-lost.result })
    c.requires c.index_mut-volume.ensures.value less
    c.sync.ensures c.copy.ensures c.stable-stable.ensures.stable c.new-lost.ensures
    (pushed _ _ _ _ _ (c.push.ensures.succeeds (room-for_sync _ _ _ _ _ (StandsFirstAt-within _ _ _ c.requires) c.index_mut-volume.ensures.value is_less c.args.self.now.room)) c.push.ensures.items refl) in
    let more : c.index_mut-volume.result.now.held.stable ≤ c.sync.new.self.held.stable = omega (arith, c.stable-stable.ensures.stable, c.stable-stable.ensures.within, ap (λ (v : Volume). v.held.stable) c.sync.ensures) in
    record {
      passes = t.passes;
      stable = t.stable;
      ok = t.ok;
      may = may_sync _ _ _ _ _ c.index_mut-volume.result.now c.sync.new.self c.requires c.index_mut-volume.ensures.value
          (ap (λ (v : Volume). v.name) c.sync.ensures) (ap (λ (v : Volume). v.held.bytes) c.sync.ensures) more;
      names = t.names;
    }
