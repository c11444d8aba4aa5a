use Rattle.std.proofs.Common.{◌≡◌, ap, ◌∙◌, sym, subst, refl, arith, ◌++◌, [], ◌∷◌, length}
use Rattle.std.proofs.lemmas.List.{append-nil}
use Rattle.sd_label.specs.Label.{session_label_fragment, session_label_bytes}
use Rattle.sd_label.specs.Cutting.{Between, AtEnd}
use Rattle.sd_pack.specs.Body.{IsBody, IsWithin, with_fragment, empty_body}
use Rattle.sd_pack.specs.Packing.{HasOpen, bodies_of, unless_empty, all_bytes, Packs}
use Rattle.sd_pack.proofs.KeptLemmas.{open_is_body, open_within, with_fragment_within, within_some, stays_packer, framed, none_packed, adds_in, adds_behind}
use Rattle.sd_label.proofs.LabelLemmas.{length-session_label_bytes-le}
use Rattle.sd_pack.proofs.BodyLemmas.{bodies_and_open}
use Rattle.sd_pack.proofs.PackedLabelLemmas.{packs_start, ends_in, ends_behind}
use Rattle.sd_pack.proofs.packer.Packer.put_label.Goals as goal

pub close-requires : goal.close-requires
close-requires c =
    let p = c.self.inside in
    let most = length-session_label_bytes-le c.args.label.now c.in_ok-next.ensures.label in
    let least = c.self.invariant.room_least in
    subst IsBody (sym c.replace-full.ensures.value) (open_is_body p.room p.waiting.items p.open_body _ c.self.invariant (omega arith))

pub invariant_of-self-then-free-session_label_length : goal.invariant_of-self-then-free-session_label_length
invariant_of-self-then-free-session_label_length c =
    let p = c.self.inside in
    let f = session_label_fragment c.args.label.now in
    let most = length-session_label_bytes-le c.args.label.now c.in_ok-next.ensures.label in
    let least = c.self.invariant.room_least in
    let next = c.replace-full.ensures.after ∙ c.in_ok-next.ensures.body in
    let items = c.push_back_reserved.ensures.items ∙ ap (λ l. l ++ c.close.result ∷ []) c.reserve.ensures.items ∙ ap (λ b. p.waiting.items ++ b ∷ []) (c.close.ensures ∙ c.replace-full.ensures.value) in
    stays_packer p.room p.waiting.items c.push_back_reserved.new.self.items p.open_body p.open_body c.replace-full.new.dest (c.replace-full.new.dest ∷ []) _ _ c.self.invariant (
      open_within p.room p.waiting.items p.open_body _ c.self.invariant (omega arith),
      (subst (IsWithin p.room) (sym next) (with_fragment_within p.room empty_body f (omega arith)), tt),
    )
    (ap (λ l. l ++ c.replace-full.new.dest ∷ []) items) (omega (arith, c.in_ok-reserve.ensures.ok))

-- a packer with nothing packed has room for any label
pub returns-then-free-session_label_length-clause-starts : goal.returns-then-free-session_label_length-clause-starts
returns-then-free-session_label_length-clause-starts c = λ none start.
    let p = c.self.inside in
    let was = none_packed p.room p.waiting.items p.open_body _ c.self.invariant (subst (λ v. bodies_of v ≡ []) (sym c.self.view_is) none) in
    let long : length p.open_body.bytes ≡ 0 = ap (λ b. length b.bytes) was.1 in
    let least = c.self.invariant.room_least in
    let most = c.session_label_length.ensures.most in
    let free = c.if-free-session_label_length.true in
    let len = c.len.ensures in
    absurd (omega arith)

pub returns-then-free-session_label_length-clause-ends : goal.returns-then-free-session_label_length-clause-ends
returns-then-free-session_label_length-clause-ends c = λ has taken records is packs.
    let p = c.self.inside in
    let label = c.args.label.now in
    let f = session_label_fragment label in
    let most = length-session_label_bytes-le label is.label_is in
    let least = c.self.invariant.room_least in
    let next = c.replace-full.ensures.after ∙ c.in_ok-next.ensures.body in
    let items = c.push_back_reserved.ensures.items ∙ ap (λ l. l ++ c.close.result ∷ []) c.reserve.ensures.items ∙ ap (λ b. p.waiting.items ++ b ∷ []) (c.close.ensures ∙ c.replace-full.ensures.value) in
    let within = subst (IsWithin p.room) (sym next) (with_fragment_within p.room empty_body f (omega arith)) in
    framed p.room taken p.waiting.items c.push_back_reserved.new.self.items ((p.waiting.items ++ p.open_body ∷ []) ++ with_fragment empty_body f ∷ []) p.open_body c.replace-full.new.dest records records AtEnd
    (subst HasOpen (sym c.self.view_is) has) (within_some p.room c.replace-full.new.dest within)
    (ap (λ l. l ++ c.replace-full.new.dest ∷ []) items ∙ ap (λ b. (p.waiting.items ++ p.open_body ∷ []) ++ b ∷ []) next)
    (ends_behind p.room taken p.waiting.items p.open_body records label is (omega arith) (omega arith))
    (subst (λ v. Packs v.room (taken ++ bodies_of v) records Between) (sym c.self.view_is) packs)

pub returns-then-free-session_label_length-clause-adds : goal.returns-then-free-session_label_length-clause-adds
returns-then-free-session_label_length-clause-adds c =
    let p = c.self.inside in
    let f = session_label_fragment c.args.label.now in
    let most = length-session_label_bytes-le c.args.label.now c.in_ok-next.ensures.label in
    let least = c.self.invariant.room_least in
    let next = c.replace-full.ensures.after ∙ c.in_ok-next.ensures.body in
    let items = c.push_back_reserved.ensures.items ∙ ap (λ l. l ++ c.close.result ∷ []) c.reserve.ensures.items ∙ ap (λ b. p.waiting.items ++ b ∷ []) (c.close.ensures ∙ c.replace-full.ensures.value) in
    let within = subst (IsWithin p.room) (sym next) (with_fragment_within p.room empty_body f (omega arith)) in
    adds_behind p.waiting.items c.push_back_reserved.new.self.items p.open_body c.replace-full.new.dest f [] [] refl (within_some p.room c.replace-full.new.dest within)
    (ap (λ l. l ++ c.replace-full.new.dest ∷ []) items ∙ ap (λ b. (p.waiting.items ++ p.open_body ∷ []) ++ b ∷ []) next)
    ∙ ap (λ l. all_bytes (p.waiting.items ++ unless_empty p.open_body.bytes p.open_body) ++ l) (append-nil (session_label_bytes c.args.label.now))
    ∙ ap (λ v. all_bytes (bodies_of v) ++ session_label_bytes c.args.label.now) c.self.view_is

pub invariant_of-self-2 : goal.invariant_of-self-2
invariant_of-self-2 c =
    let p = c.self.inside in
    let f = session_label_fragment c.args.label.now in
    let o = with_fragment p.open_body f in
    stays_packer p.room p.waiting.items c.reserve-2.new.self.items p.open_body o c.add_label.new.self [] _ _ c.self.invariant
    (with_fragment_within p.room p.open_body f (omega arith), tt)
    (ap (λ l. l ++ c.add_label.new.self ∷ []) c.reserve-2.ensures.items ∙ ap (λ b. p.waiting.items ++ b ∷ []) c.in_ok-add_label.ensures.ok ∙ sym (append-nil (p.waiting.items ++ o ∷ [])))
    (omega (arith, c.in_ok-reserve-2.ensures.ok))

pub returns-clause-starts : goal.returns-clause-starts
returns-clause-starts c = λ none start.
    let p = c.self.inside in
    let label = c.args.label.now in
    let f = session_label_fragment label in
    let o' = c.add_label.new.self in
    let was = none_packed p.room p.waiting.items p.open_body _ c.self.invariant (subst (λ v. bodies_of v ≡ []) (sym c.self.view_is) none) in
    let within = subst (IsWithin p.room) (sym c.in_ok-add_label.ensures.ok) (with_fragment_within p.room p.open_body f (omega arith)) in
    let now : c.reserve-2.new.self.items ++ unless_empty o'.bytes o' ≡ with_fragment empty_body f ∷ [] =
    ap (λ l. l ++ unless_empty o'.bytes o') (c.reserve-2.ensures.items ∙ was.0) ∙ bodies_and_open [] o' (within_some p.room o' within)
    ∙ ap (λ b. b ∷ []) (c.in_ok-add_label.ensures.ok ∙ ap (λ b. with_fragment b f) was.1) in
    subst (λ l. Packs p.room l [] Between) (sym now)
    (packs_start p.room label (record { label_is = c.in_ok-add_label.ensures.label; no_totals = start }) (omega arith))

pub returns-clause-ends : goal.returns-clause-ends
returns-clause-ends c = λ has taken records is packs.
    let p = c.self.inside in
    let label = c.args.label.now in
    let f = session_label_fragment label in
    let within = subst (IsWithin p.room) (sym c.in_ok-add_label.ensures.ok) (with_fragment_within p.room p.open_body f (omega arith)) in
    framed p.room taken p.waiting.items c.reserve-2.new.self.items (p.waiting.items ++ with_fragment p.open_body f ∷ []) p.open_body c.add_label.new.self records records AtEnd
    (subst HasOpen (sym c.self.view_is) has) (within_some p.room c.add_label.new.self within)
    (ap (λ l. l ++ c.add_label.new.self ∷ []) c.reserve-2.ensures.items ∙ ap (λ b. p.waiting.items ++ b ∷ []) c.in_ok-add_label.ensures.ok)
    (ends_in p.room taken p.waiting.items p.open_body records label is (omega arith))
    (subst (λ v. Packs v.room (taken ++ bodies_of v) records Between) (sym c.self.view_is) packs)

pub returns-clause-adds : goal.returns-clause-adds
returns-clause-adds c =
    let p = c.self.inside in
    let f = session_label_fragment c.args.label.now in
    let o = with_fragment p.open_body f in
    let within = subst (IsWithin p.room) (sym c.in_ok-add_label.ensures.ok) (with_fragment_within p.room p.open_body f (omega arith)) in
    adds_in p.waiting.items c.reserve-2.new.self.items p.open_body c.add_label.new.self f [] [] refl (within_some p.room c.add_label.new.self within)
    (ap (λ l. l ++ c.add_label.new.self ∷ []) c.reserve-2.ensures.items ∙ ap (λ b. p.waiting.items ++ b ∷ []) c.in_ok-add_label.ensures.ok ∙ sym (append-nil (p.waiting.items ++ o ∷ [])))
    ∙ ap (λ l. all_bytes (p.waiting.items ++ unless_empty p.open_body.bytes p.open_body) ++ l) (append-nil (session_label_bytes c.args.label.now))
    ∙ ap (λ v. all_bytes (bodies_of v) ++ session_label_bytes c.args.label.now) c.self.view_is

pub returns-clause-opens : goal.returns-clause-opens
returns-clause-opens c =
    let p = c.self.inside in
    let f = session_label_fragment c.args.label.now in
    within_some p.room c.add_label.new.self (subst (IsWithin p.room) (sym c.in_ok-add_label.ensures.ok) (with_fragment_within p.room p.open_body f (omega arith)))
