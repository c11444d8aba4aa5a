use Rattle.std.proofs.Common.{◌≡◌, ◌-◌, refl, sym, ap, subst, ◌∙◌, arith, Some, List, slice_get, slice_set}
use Rattle.std.proofs.lemmas.Bool.{both_ways}
use Rattle.std.proofs.lemmas.Option.{slice_get_within}
use Rattle.sd_board.specs.Slots.{DriveLanesIs, MayLie, SlotIs, lies_in}
use Rattle.sd_board.proofs.SlotLemmas.{keeps_laid, lies}
use Rattle.sd_board.proofs.lanes.DriveLanes.rest.Goals as goal

pub returns-then-not-is_over-clause-back : goal.returns-then-not-is_over-clause-back
returns-then-not-is_over-clause-back g c = (refl, λ may. both_ways _ c.if-not-is_over.true (c.is_over.ensures.1 may.over))

pub returns-then-not-is_empty_at-clause-back : goal.returns-then-not-is_empty_at-clause-back
returns-then-not-is_empty_at-clause-back g c = (
  refl,
  λ may.
      let own = subst (λ (d : DriveLanesIs). MayLie d c.args.end) (sym c.self.view_is) may in
      let at = c.lane_place-at.ensures.place ∙ ap (λ n. n - 1) c.lane.ensures in
      both_ways _ c.if-not-is_empty_at.true
      (c.is_empty_at.ensures.1 (own.slot, subst (λ (ss : List SlotIs). slice_get ss c.lane_place-at.result ≡ Some own.slot) (sym c.deref.ensures.value) (subst (λ n. slice_get c.self.inside.slots.items n ≡ Some own.slot) (sym at) own.there), own.empty)),
)

pub index_mut-slot-requires : goal.index_mut-slot-requires
index_mut-slot-requires g c =
    let e = c.is_empty_at.ensures.0 c.if-not-is_empty_at.false in
    let within = slice_get_within c.deref.result.now c.lane_place-at.result e.0 e.1 in
    omega (arith, within, c.deref.ensures.len)

pub invariant_of-self : goal.invariant_of-self
invariant_of-self g c =
    let d : DriveLanesIs = record { no = c.self.inside.no; media = c.self.inside.media; slots = c.self.inside.slots.items } in
    keeps_laid d c.args.end c.args.on_its_way c.lane_place-at.result c.lay.new.self c.self.invariant
    (c.requires ∙ sym (ap (λ (x : DriveLanesIs). x.no) c.self.view_is)) (sym c.lane.ensures ∙ c.lane_place-at.ensures.number)
    (c.is_over.ensures.0 c.if-not-is_over.false) c.lay.ensures

pub returns-clause-ok : goal.returns-clause-ok
returns-clause-ok g c =
    let d : DriveLanesIs = record { no = c.self.inside.no; media = c.self.inside.media; slots = c.self.inside.slots.items } in
    let e = c.is_empty_at.ensures.0 c.if-not-is_empty_at.false in
    let at = c.lane_place-at.ensures.place ∙ ap (λ n. n - 1) c.lane.ensures in
    let there = subst (λ (ss : List SlotIs). slice_get ss c.lane_place-at.result ≡ Some e.0) c.deref.ensures.value e.1 in
    subst (λ (x : DriveLanesIs). MayLie x c.args.end × (record d { slots = slice_set d.slots c.lane_place-at.result c.lay.new.self } ≡ lies_in c.args.end c.args.on_its_way x)) c.self.view_is
    (lies d c.args.end c.args.on_its_way c.lane_place-at.result e.0 c.lay.new.self at there e.2 (c.is_over.ensures.0 c.if-not-is_over.false) c.lay.ensures)
