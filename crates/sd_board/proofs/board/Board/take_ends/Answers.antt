use Rattle.std.proofs.Common.{◌≡◌, ◌-◌, ◌≤◌, refl, sym, ap, subst, ◌∙◌, arith, List, [], length, slice_get, slice_set}
use Rattle.std.proofs.lemmas.Option.{slice_get_past, slice_get_read}
use Rattle.sd_board.specs.Board.{BoardIs}
use Rattle.sd_board.specs.Changes.{change_at}
use Rattle.sd_board.specs.Slots.{DriveLanesIs, ends_in, ends_of, without_lanes}
use Rattle.sd_board.proofs.BoardLemmas.{keeps_drive}
use Rattle.sd_board.proofs.SlotLemmas.{none_changes, set_changes}
use Rattle.sd_board.proofs.board.Board.take_ends.Goals as goal

pub returns-then-place-len-clause-ok : goal.returns-then-place-len-clause-ok
returns-then-place-len-clause-ok g c =
    let b : BoardIs = record { names = c.self.inside.names; drives = c.self.inside.drives.items; lines = c.self.inside.lines } in
    let place = c.drive_place-place.result in
    let past : length b.drives ≤ place = omega (arith, c.len.ensures, c.self.inside.drives.ok.0, c.if-place-len.true) in
    let gone = ap (slice_get b.drives) (sym c.drive_place-place.ensures.place) ∙ slice_get_past b.drives place past in
    c.new.ensures.items ∙ subst (λ (old : BoardIs). [] ≡ ends_of (slice_get old.drives (c.args.drive - 1))) c.self.view_is (sym (ap ends_of gone))

pub returns-then-place-len-clause-left : goal.returns-then-place-len-clause-left
returns-then-place-len-clause-left g c =
    let b : BoardIs = record { names = c.self.inside.names; drives = c.self.inside.drives.items; lines = c.self.inside.lines } in
    let place = c.drive_place-place.result in
    let past : length b.drives ≤ place = omega (arith, c.len.ensures, c.self.inside.drives.ok.0, c.if-place-len.true) in
    subst (λ (old : BoardIs). old ≡ record old { drives = change_at without_lanes (c.args.drive - 1) old.drives }) c.self.view_is
    (sym (ap (λ (ds : List DriveLanesIs). record b { drives = ds }) (ap (λ n. change_at without_lanes n b.drives) (sym c.drive_place-place.ensures.place) ∙ none_changes without_lanes place b.drives past)))

pub invariant_of-self : goal.invariant_of-self
invariant_of-self g c =
    let b : BoardIs = record { names = c.self.inside.names; drives = c.self.inside.drives.items; lines = c.self.inside.lines } in
    let place = c.drive_place-place.result in
    let read = c.index_mut-lanes.result.now in
    let there = slice_get_read b.drives (length b.drives) place read refl (omega (arith, c.len.ensures, c.self.inside.drives.ok.0, c.if-place-len.false)) c.index_mut-lanes.ensures.value in
    keeps_drive b place read c.take_slots.new.self c.self.invariant there (ap (λ (d : DriveLanesIs). d.no) c.take_slots.ensures.left)

pub returns-clause-ok : goal.returns-clause-ok
returns-clause-ok g c =
    let b : BoardIs = record { names = c.self.inside.names; drives = c.self.inside.drives.items; lines = c.self.inside.lines } in
    let place = c.drive_place-place.result in
    let read = c.index_mut-lanes.result.now in
    let there = slice_get_read b.drives (length b.drives) place read refl (omega (arith, c.len.ensures, c.self.inside.drives.ok.0, c.if-place-len.false)) c.index_mut-lanes.ensures.value in
    let here = ap (slice_get b.drives) (sym c.drive_place-place.ensures.place) ∙ there in
    c.take_out.ensures ∙ ap ends_in c.take_slots.ensures.slots
    ∙ subst (λ (old : BoardIs). ends_in read.slots ≡ ends_of (slice_get old.drives (c.args.drive - 1))) c.self.view_is (sym (ap ends_of here))

pub returns-clause-left : goal.returns-clause-left
returns-clause-left g c =
    let b : BoardIs = record { names = c.self.inside.names; drives = c.self.inside.drives.items; lines = c.self.inside.lines } in
    let place = c.drive_place-place.result in
    let read = c.index_mut-lanes.result.now in
    let there = slice_get_read b.drives (length b.drives) place read refl (omega (arith, c.len.ensures, c.self.inside.drives.ok.0, c.if-place-len.false)) c.index_mut-lanes.ensures.value in
    subst (λ (old : BoardIs). record b { drives = slice_set b.drives place c.take_slots.new.self } ≡ record old { drives = change_at without_lanes (c.args.drive - 1) old.drives }) c.self.view_is
    (ap (λ (ds : List DriveLanesIs). record b { drives = ds }) (set_changes without_lanes place b.drives read c.take_slots.new.self there c.take_slots.ensures.left ∙ ap (λ n. change_at without_lanes n b.drives) c.drive_place-place.ensures.place))
