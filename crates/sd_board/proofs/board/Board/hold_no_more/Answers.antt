use Rattle.std.proofs.Common.{◌≡◌, ◌≤◌, refl, sym, ap, subst, ◌∙◌, arith, List, length, slice_set}
use Rattle.std.proofs.lemmas.Option.{slice_get_read}
use Rattle.sd_board.specs.Board.{BoardIs}
use Rattle.sd_board.specs.Changes.{change_at}
use Rattle.sd_board.specs.Slots.{DriveLanesIs, numbered_at, numbered_in}
use Rattle.sd_board.proofs.BoardLemmas.{keeps_drive}
use Rattle.sd_board.proofs.SlotLemmas.{none_changes, set_changes}
use Rattle.sd_board.proofs.board.Board.hold_no_more.Goals as goal

pub returns-then-place-len : goal.returns-then-place-len
returns-then-place-len g c =
    let b : BoardIs = record { names = c.self.inside.names; drives = c.self.inside.drives.items; lines = c.self.inside.lines } in
    let place = c.drive_place-place.result in
    let past : length b.drives ≤ place = omega (arith, c.len.ensures, c.self.inside.drives.ok.0, c.if-place-len.true) in
    subst (λ (old : BoardIs). old ≡ record old { drives = numbered_at c.args.drive c.args.lane old.drives }) c.self.view_is
    (sym (ap (λ (ds : List DriveLanesIs). record b { drives = ds }) (ap (λ n. change_at (numbered_in c.args.lane) n b.drives) (sym c.drive_place-place.ensures.place) ∙ none_changes (numbered_in c.args.lane) place b.drives past)))

pub invariant_of-self : goal.invariant_of-self
invariant_of-self g c =
    let b : BoardIs = record { names = c.self.inside.names; drives = c.self.inside.drives.items; lines = c.self.inside.lines } in
    let place = c.drive_place-place.result in
    let read = c.index_mut-lanes.result.now in
    let there = slice_get_read b.drives (length b.drives) place read refl (omega (arith, c.len.ensures, c.self.inside.drives.ok.0, c.if-place-len.false)) c.index_mut-lanes.ensures.value in
    keeps_drive b place read c.numbered.new.self c.self.invariant there (ap (λ (d : DriveLanesIs). d.no) c.numbered.ensures)

pub returns : goal.returns
returns g c =
    let b : BoardIs = record { names = c.self.inside.names; drives = c.self.inside.drives.items; lines = c.self.inside.lines } in
    let place = c.drive_place-place.result in
    let read = c.index_mut-lanes.result.now in
    let there = slice_get_read b.drives (length b.drives) place read refl (omega (arith, c.len.ensures, c.self.inside.drives.ok.0, c.if-place-len.false)) c.index_mut-lanes.ensures.value in
    subst (λ (old : BoardIs). record b { drives = slice_set b.drives place c.numbered.new.self } ≡ record old { drives = numbered_at c.args.drive c.args.lane old.drives }) c.self.view_is
    (ap (λ (ds : List DriveLanesIs). record b { drives = ds }) (set_changes (numbered_in c.args.lane) place b.drives read c.numbered.new.self there c.numbered.ensures ∙ ap (λ n. change_at (numbered_in c.args.lane) n b.drives) c.drive_place-place.ensures.place))
