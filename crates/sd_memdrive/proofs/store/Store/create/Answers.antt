use Rattle.std.proofs.Common.{◌+◌, ◌≤◌, vec_len, vec_capacity, ◌≡◌, length, ◌∷◌, ◌++◌, [], ◌∙◌, ap, sym, arith, refl, subst, List, IsTrue}
use Rattle.sd_memdrive.specs.Volumes.{Volume, volume_of, names_differ, unsynced}
use Rattle.sd_memdrive.proofs.Places.{names_differ-push}
use Rattle.sd_memdrive.proofs.Changes.{creates_push, keeps_push, passes_push}
use Rattle.sd_memdrive.proofs.Room.{pushed, pushed_len, room-created}
use Rattle.sd_memdrive.proofs.Stops.{NoneWithout-created}
use Rattle.sd_memdrive.specs.ChangeLog.{NoneWithout}
use Rattle.sd_memdrive.proofs.store.Store.create.Goals as goal

pub invariant_of-self-2-clause-names : goal.invariant_of-self-2-clause-names
invariant_of-self-2-clause-names c =
    let named : c.new.result.name ≡ c.args.name.now = ap (λ (v : Volume). v.name) c.new.ensures ∙ c.copy.ensures in
    let items : c.push.new.self.items ≡ c.args.self.now.volumes.items ++ c.new.result ∷ [] = c.in_ok-push.ensures.items in
    let P : List Volume → Type 0 = λ vs. IsTrue (names_differ vs) in
    subst P (sym items) (names_differ-push _ c.new.result c.args.self.now.names (ap (volume_of c.args.self.now.volumes.items) named ∙ c.requires))

pub invariant_of-self-2-clause-absent : goal.invariant_of-self-2-clause-absent
invariant_of-self-2-clause-absent c =
    let named : c.new.result.name ≡ c.args.name.now = ap (λ (v : Volume). v.name) c.new.ensures ∙ c.copy.ensures in
    let items : c.push.new.self.items ≡ c.args.self.now.volumes.items ++ c.new.result ∷ [] = c.in_ok-push.ensures.items in
    let P : List Volume → Type 0 = λ vs. NoneWithout vs c.push-2.new.self.items in
    subst P (sym items) (NoneWithout-created _ _ _ c.args.name.now c.new.result (record { name = c.copy-2.result; stable = 0; lost = c.new-lost.result }) c.args.self.now.absent c.requires named c.copy-2.ensures (pushed _ _ _ _ _ (c.push-2.ensures.succeeds (omega (arith, c.in_ok-reserve.ensures.ok))) c.push-2.ensures.items c.reserve.ensures.items))

pub invariant_of-self-2-clause-room : goal.invariant_of-self-2-clause-room
invariant_of-self-2-clause-room c =
    let all : c.len.result ≡ length c.args.self.now.volumes.items = omega (arith, c.len.ensures, c.args.self.now.volumes.ok.0) in
    let items : c.push.new.self.items ≡ c.args.self.now.volumes.items ++ c.new.result ∷ [] = c.in_ok-push.ensures.items in
    let P : List Volume → Type 0 = λ vs. vec_len c.push-2.new.self + unsynced vs ≤ vec_capacity c.push-2.new.self in
    subst P (sym items) (room-created _ c.new.result _ _ _ _ _ all c.in_ok-reserve.ensures.ok (pushed_len _ _ _ c.push-2.ensures.len) c.push-2.ensures.capacity (ap (λ (v : Volume). v.held) c.new.ensures))

pub returns : goal.returns
returns c =
    let items : c.push.new.self.items ≡ c.args.self.now.volumes.items ++ c.new.result ∷ [] = c.in_ok-push.ensures.items in
    let named : c.new.result.name ≡ c.args.name.now = ap (λ (v : Volume). v.name) c.new.ensures ∙ c.copy.ensures in
    let stable : c.new.result.held.stable ≡ 0 = ap (λ (v : Volume). v.held.stable) c.new.ensures in
    let noted = pushed _ _ _ _ _ (c.push-2.ensures.succeeds (omega (arith, c.in_ok-reserve.ensures.ok))) c.push-2.ensures.items c.reserve.ensures.items in
    record {
      passes = rw (items, noted) (passes_push _ _ _ c.new.result (record { name = c.copy-2.result; stable = 0; lost = c.new-lost.result }) c.requires named stable c.copy-2.ensures refl);
      stable = rw items (keeps_push c.args.self.now.volumes.items c.args.self.now.changes.items c.push-2.new.self.items c.args.name.now c.new.result c.requires named stable);
      ok = rw items (creates_push _ _ _ _ c.new.result c.requires named (ap (λ (v : Volume). v.held) c.new.ensures));
      err = tt;
    }
