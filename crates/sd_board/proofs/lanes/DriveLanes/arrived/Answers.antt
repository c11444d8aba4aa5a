use Rattle.std.proofs.Common.{◌≡◌, ◌≤◌, refl, sym, ap, subst, ◌∙◌, arith, List, length, slice_set}
use Rattle.std.proofs.lemmas.Option.{slice_get_read}
use Rattle.sd_board.specs.Changes.{change_at}
use Rattle.sd_board.specs.Slots.{DriveLanesIs, SlotIs, arrived, arrived_in}
use Rattle.sd_board.proofs.SlotLemmas.{keeps_arrived, none_changes, set_changes}
use Rattle.sd_board.proofs.lanes.DriveLanes.arrived.Goals as goal

pub invariant_of-self : goal.invariant_of-self
invariant_of-self g c =
    let d : DriveLanesIs = record { no = c.self.inside.no; media = c.self.inside.media; slots = c.self.inside.slots.items } in
    let at = c.lane_place-at.result in
    let read = c.index_mut-slot.result.now in
    let there = slice_get_read d.slots (length d.slots) at read refl (omega (arith, c.len.ensures, c.self.inside.slots.ok.0, c.if-at-len.false)) c.index_mut-slot.ensures.value in
    keeps_arrived d c.args.sent at read c.arrived.new.self c.self.invariant there c.arrived.ensures

pub returns-then-at-len : goal.returns-then-at-len
returns-then-at-len g c =
    let d : DriveLanesIs = record { no = c.self.inside.no; media = c.self.inside.media; slots = c.self.inside.slots.items } in
    let at = c.lane_place-at.result in
    let past : length d.slots ≤ at = omega (arith, c.len.ensures, c.self.inside.slots.ok.0, c.if-at-len.true) in
    subst (λ (old : DriveLanesIs). old ≡ arrived_in c.args.sent c.args.lane old) c.self.view_is
    (sym (ap (λ (ss : List SlotIs). record d { slots = ss }) (ap (λ n. change_at (arrived c.args.sent) n d.slots) (sym c.lane_place-at.ensures.place) ∙ none_changes (arrived c.args.sent) at d.slots past)))

pub returns : goal.returns
returns g c =
    let d : DriveLanesIs = record { no = c.self.inside.no; media = c.self.inside.media; slots = c.self.inside.slots.items } in
    let at = c.lane_place-at.result in
    let read = c.index_mut-slot.result.now in
    let there = slice_get_read d.slots (length d.slots) at read refl (omega (arith, c.len.ensures, c.self.inside.slots.ok.0, c.if-at-len.false)) c.index_mut-slot.ensures.value in
    subst (λ (old : DriveLanesIs). record d { slots = slice_set d.slots at c.arrived.new.self } ≡ arrived_in c.args.sent c.args.lane old) c.self.view_is
    (ap (λ (ss : List SlotIs). record d { slots = ss }) (set_changes (arrived c.args.sent) at d.slots read c.arrived.new.self there c.arrived.ensures ∙ ap (λ n. change_at (arrived c.args.sent) n d.slots) c.lane_place-at.ensures.place))
