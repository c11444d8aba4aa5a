use Rattle.std.proofs.Common.{◌≡◌, ◌≤◌, length, refl, sym, ap, ◌∙◌, arith, Some, slice_get, inl, inr}
use Rattle.std.proofs.lemmas.Option.{slice_get_past, slice_get_read}
use Rattle.sd_world.specs.World.{BayView}
use Rattle.sd_events.proofs.Found.{none_of, one_of}
use Rattle.sd_events.proofs.place.online.Goals as goal

pub returns-in_default-clause-err : goal.returns-in_default-clause-err
returns-in_default-clause-err g c =
    let bays = c.args.parts.now.bays.items in
    let at = c.index_of-place.result in
    let past = c.in_default.ensures.lookup.3 in
    let beyond : length bays ≤ at = omega (arith, past, ap length c.deref.ensures.value) in
    (at, c.index_of-place.ensures, inl (slice_get_past bays at beyond, refl))

pub returns-then-is_none-clause-err : goal.returns-then-is_none-clause-err
returns-then-is_none-clause-err g c =
    let at = c.index_of-place.result in
    let read = c.deref.result.now in
    let bay = c.in-Some.bay.now in
    let l = c.in-Some.ensures.lookup in
    let there : slice_get c.args.parts.now.bays.items at ≡ Some bay = ap (λ bs. slice_get bs at) (sym c.deref.ensures.value) ∙ slice_get_read read (length read) at bay refl l.3.0 l.1 in
    (at, c.index_of-place.ensures, inr (bay, there, sym (ap (λ (b : BayView _). b.drive) c.bay.view_is) ∙ none_of _ _ c.is_none.ensures c.if-is_none.true, refl))

pub returns-clause-ok : goal.returns-clause-ok
returns-clause-ok g c =
    let at = c.index_of-place.result in
    let read = c.deref.result.now in
    let bay = c.in-Some.bay.now in
    let l = c.in-Some.ensures.lookup in
    let there : slice_get c.args.parts.now.bays.items at ≡ Some bay = ap (λ bs. slice_get bs at) (sym c.deref.ensures.value) ∙ slice_get_read read (length read) at bay refl l.3.0 l.1 in
    let d = one_of _ _ c.is_none.ensures c.if-is_none.false in
    (bay, d.0, record { number = c.index_of-place.ensures; there = there; online = sym (ap (λ (b : BayView _). b.drive) c.bay.view_is) ∙ d.1 })
