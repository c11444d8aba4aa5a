use Rattle.std.proofs.Common.{◌<◌, sym, subst, arith, List, length, slice_set}
use Rattle.std.specs.Prelude.{IfSome}
use Rattle.sd_base.specs.Choice.{FirstOf, NoneOf}
use Rattle.sd_board.specs.Slots.{DriveLanesIs, IsFree, SlotIs, TakesLowest}
use Rattle.sd_board.proofs.SlotLemmas.{keeps_taken, lowest_read, some_lowest, takes}
use Rattle.sd_board.proofs.lanes.DriveLanes.take_lowest.Goals as goal

pub unwrap-at-requires : goal.unwrap-at-requires
unwrap-at-requires g c =
    let free = subst (λ (d : DriveLanesIs). NoneOf IsFree d.slots → ⊥) (sym c.self.view_is) c.requires in
    some_lowest c.deref.result.now c.lowest_free.result (subst (λ (ss : List SlotIs). NoneOf IsFree ss → ⊥) (sym c.deref.ensures.value) free) c.lowest_free.ensures.none

pub index_mut-slot-requires : goal.index_mut-slot-requires
index_mut-slot-requires g c =
    let within = subst (λ o. IfSome o (λ at. at < length c.deref.result.now)) c.unwrap-at.ensures c.lowest_free.ensures.within in
    omega (arith, within, c.deref.ensures.len)

pub take_end-requires-after_bounds : goal.take_end-requires-after_bounds
take_end-requires-after_bounds g c κs within =
    let slots = c.self.inside.slots.items in
    let lowest = subst (λ o. IfSome o (FirstOf IsFree (λ _ _. ⊥) c.deref.result.now)) c.unwrap-at.ensures c.lowest_free.ensures.some in
    let here = subst (λ (ss : List SlotIs). FirstOf IsFree (λ _ _. ⊥) ss c.unwrap-at.result) c.deref.ensures.value lowest in
    (lowest_read slots c.unwrap-at.result c.index_mut-slot.result.now here c.index_mut-slot.ensures.value).1

pub invariant_of-self : goal.invariant_of-self
invariant_of-self g c =
    let d : DriveLanesIs = record { no = c.self.inside.no; media = c.self.inside.media; slots = c.self.inside.slots.items } in
    let lowest = subst (λ o. IfSome o (FirstOf IsFree (λ _ _. ⊥) c.deref.result.now)) c.unwrap-at.ensures c.lowest_free.ensures.some in
    let here = subst (λ (ss : List SlotIs). FirstOf IsFree (λ _ _. ⊥) ss c.unwrap-at.result) c.deref.ensures.value lowest in
    let read = c.index_mut-slot.result.now in
    keeps_taken d c.unwrap-at.result c.take_end.result read c.take_end.new.self c.self.invariant (lowest_read d.slots c.unwrap-at.result read here c.index_mut-slot.ensures.value).0 c.take_end.ensures.left

pub returns : goal.returns
returns g c =
    let d : DriveLanesIs = record { no = c.self.inside.no; media = c.self.inside.media; slots = c.self.inside.slots.items } in
    let lowest = subst (λ o. IfSome o (FirstOf IsFree (λ _ _. ⊥) c.deref.result.now)) c.unwrap-at.ensures c.lowest_free.ensures.some in
    let here = subst (λ (ss : List SlotIs). FirstOf IsFree (λ _ _. ⊥) ss c.unwrap-at.result) c.deref.ensures.value lowest in
    let read = c.index_mut-slot.result.now in
    let there = (lowest_read d.slots c.unwrap-at.result read here c.index_mut-slot.ensures.value).0 in
    subst (λ (old : DriveLanesIs). TakesLowest old c.take_end.result (record d { slots = slice_set d.slots c.unwrap-at.result c.take_end.new.self })) c.self.view_is
    (takes d c.unwrap-at.result c.take_end.result read c.take_end.new.self c.self.invariant there c.take_end.ensures.left here c.take_end.ensures.end)
