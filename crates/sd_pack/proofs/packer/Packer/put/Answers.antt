use Rattle.std.proofs.Common.{◌≡◌, ◌≢◌, ap, ◌∙◌, sym, subst, refl, arith, length, ◌++◌, [], ◌∷◌}
use Rattle.sd_base.specs.Record.{IsRecord}
use Rattle.sd_record.specs.Fragment.{fragments_bytes}
use Rattle.sd_label.specs.Cutting.{Between}
use Rattle.sd_base.specs.Limits.{most_body}
use Rattle.sd_pack.specs.Body.{IsWithin, with_fragment}
use Rattle.sd_pack.specs.Packing.{HasOpen, bodies_of, all_bytes, Packs}
use Rattle.sd_pack.specs.RecordParts.{first_fragment}
use Rattle.sd_pack.specs.KeptPacker.{AreWithin}
use Rattle.sd_pack.proofs.KeptLemmas.{AreWithin-wider, with_fragment_within, last_within, within_some, stays_packer, framed, adds_in}
use Rattle.sd_pack.proofs.PackingLemmas.{first_length, packs_in, parts_of_record}
use Rattle.sd_pack.proofs.packer.Packer.put.Goals as goal

pub close_all-requires-clause-bodies : goal.close_all-requires-clause-bodies
close_all-requires-clause-bodies c =
    let p = c.self.inside in
    let r = c.args.rec.now in
    let count = c.min-to.result in
    let f = first_fragment r count in
    let seen : length c.rec.inside.bytes ≡ length r.bytes = ap (λ v. length v.bytes) c.rec.view_is in
    let long = first_length r count (omega arith) in
    let added = c.in_ok-add.ensures.ok ∙ ap (with_fragment p.open_body) c.first_part.ensures in
    AreWithin-wider p.room most_body (c.add.new.self ∷ c.in_ok-later.later.items) c.self.invariant.room_most
    (subst (IsWithin p.room) (sym added) (with_fragment_within p.room p.open_body f (omega arith)), c.in_ok-later.ensures.sizes)

-- the bodies in order: those that waited, the open one with the record's first fragment, the later ones
order : (c : goal.After-close_all) → c.close_all.new.waiting.items ++ c.close_all.new.open_body ∷ []
    ≡ (c.self.inside.waiting.items ++ with_fragment c.self.inside.open_body (first_fragment c.args.rec.now c.min-to.result) ∷ []) ++ c.in_ok-later.later.items
order c =
    let p = c.self.inside in
    let later = c.in_ok-later.later.items in
    c.close_all.ensures.order ∙ ap (λ l. (l ++ c.add.new.self ∷ []) ++ later) c.reserve.ensures.items
    ∙ ap (λ b. (p.waiting.items ++ b ∷ []) ++ later) (c.in_ok-add.ensures.ok ∙ ap (with_fragment p.open_body) c.first_part.ensures)

within : (c : goal.After-close_all)
    → AreWithin c.self.inside.room (with_fragment c.self.inside.open_body (first_fragment c.args.rec.now c.min-to.result) ∷ c.in_ok-later.later.items)
within c =
    let p = c.self.inside in
    let r = c.args.rec.now in
    let count = c.min-to.result in
    let seen : length c.rec.inside.bytes ≡ length r.bytes = ap (λ v. length v.bytes) c.rec.view_is in
    let long = first_length r count (omega arith) in
    (with_fragment_within p.room p.open_body (first_fragment r count) (omega arith), c.in_ok-later.ensures.sizes)

opened : (c : goal.After-close_all) → c.close_all.new.open_body.bytes ≢ []
opened c =
    let p = c.self.inside in
    within_some p.room c.close_all.new.open_body
    (last_within p.room p.waiting.items c.close_all.new.waiting.items _ c.close_all.new.open_body c.in_ok-later.later.items c.self.invariant.waiting_fit (within c) (order c)).1

pub invariant_of-self-2 : goal.invariant_of-self-2
invariant_of-self-2 c =
    let p = c.self.inside in
    stays_packer p.room p.waiting.items c.close_all.new.waiting.items p.open_body _ c.close_all.new.open_body c.in_ok-later.later.items _ _ c.self.invariant (within c) (order c)
    (omega (arith, c.in_ok-reserve.ensures.ok))

pub returns-clause-packs : goal.returns-clause-packs
returns-clause-packs c = λ has taken records packs.
    let p = c.self.inside in
    let r = c.args.rec.now in
    let later = c.in_ok-later.later.items in
    let count = c.min-to.result in
    let seen : length c.rec.inside.bytes ≡ length r.bytes = ap (λ v. length v.bytes) c.rec.view_is in
    let is = subst IsRecord c.rec.view_is c.rec.invariant in
    framed p.room taken p.waiting.items c.close_all.new.waiting.items (c.close_all.new.waiting.items ++ c.close_all.new.open_body ∷ []) p.open_body c.close_all.new.open_body records (records ++ r ∷ []) Between
    (subst HasOpen (sym c.self.view_is) has) (opened c) refl
    (packs_in p.room taken p.waiting.items c.close_all.new.waiting.items p.open_body c.close_all.new.open_body later records r count is (omega arith) (omega arith) (λ more. omega arith) c.in_ok-later.ensures.bodies (order c))
    (subst (λ v. Packs v.room (taken ++ bodies_of v) records Between) (sym c.self.view_is) packs)

pub returns-clause-adds : goal.returns-clause-adds
returns-clause-adds c =
    let p = c.self.inside in
    let r = c.args.rec.now in
    let count = c.min-to.result in
    let later = c.in_ok-later.ensures.bodies in
    let seen : length c.rec.inside.bytes ≡ length r.bytes = ap (λ v. length v.bytes) c.rec.view_is in
    record {
      parts = first_fragment r count ∷ later.parts;
      parts_are = parts_of_record p.room r count c.in_ok-later.later.items (omega arith) later;
      bytes_are =
          adds_in p.waiting.items c.close_all.new.waiting.items p.open_body c.close_all.new.open_body (first_fragment r count) later.parts c.in_ok-later.later.items later.bodies_are (opened c) (order c)
          ∙ ap (λ v. all_bytes (bodies_of v) ++ fragments_bytes (first_fragment r count ∷ later.parts)) c.self.view_is;
    }

pub returns-clause-opens : goal.returns-clause-opens
returns-clause-opens c = opened c
