use Rattle.std.proofs.Common.{◌≡◌, ◌≤◌, refl, sym, ap, subst, ◌∙◌, arith, List, length, slice_set}
use Rattle.std.proofs.lemmas.Option.{slice_get_read}
use Rattle.sd_board.specs.Changes.{change_at}
use Rattle.sd_board.specs.Slots.{DriveLanesIs, SlotIs, numbered, numbered_in}
use Rattle.sd_board.proofs.SlotLemmas.{keeps_numbered, none_changes, set_changes}
use Rattle.sd_board.proofs.lanes.DriveLanes.numbered.Goals as goal

pub invariant_of-self : goal.invariant_of-self
invariant_of-self g c =
    let d : DriveLanesIs = record { no = c.self.inside.no; media = c.self.inside.media; slots = c.self.inside.slots.items } in
    let at = c.lane_place-at.result in
    let read = c.index_mut-slot.result.now in
    let there = slice_get_read d.slots (length d.slots) at read refl (omega (arith, c.len.ensures, c.self.inside.slots.ok.0, c.if-at-len.false)) c.index_mut-slot.ensures.value in
    keeps_numbered d at read c.numbered.new.self c.self.invariant there c.numbered.ensures

pub returns-then-at-len : goal.returns-then-at-len
returns-then-at-len g c =
    let d : DriveLanesIs = record { no = c.self.inside.no; media = c.self.inside.media; slots = c.self.inside.slots.items } in
    let at = c.lane_place-at.result in
    let past : length d.slots ≤ at = omega (arith, c.len.ensures, c.self.inside.slots.ok.0, c.if-at-len.true) in
    subst (λ (old : DriveLanesIs). old ≡ numbered_in c.args.lane old) c.self.view_is
    (sym (ap (λ (ss : List SlotIs). record d { slots = ss }) (ap (λ n. change_at numbered n d.slots) (sym c.lane_place-at.ensures.place) ∙ none_changes numbered at d.slots past)))

pub returns : goal.returns
returns g c =
    let d : DriveLanesIs = record { no = c.self.inside.no; media = c.self.inside.media; slots = c.self.inside.slots.items } in
    let at = c.lane_place-at.result in
    let read = c.index_mut-slot.result.now in
    let there = slice_get_read d.slots (length d.slots) at read refl (omega (arith, c.len.ensures, c.self.inside.slots.ok.0, c.if-at-len.false)) c.index_mut-slot.ensures.value in
    subst (λ (old : DriveLanesIs). record d { slots = slice_set d.slots at c.numbered.new.self } ≡ numbered_in c.args.lane old) c.self.view_is
    (ap (λ (ss : List SlotIs). record d { slots = ss }) (set_changes numbered at d.slots read c.numbered.new.self there c.numbered.ensures ∙ ap (λ n. change_at numbered n d.slots) c.lane_place-at.ensures.place))
