use Rattle.std.proofs.Common.{◌≡◌, ◌≤◌, refl, sym, ap, subst, ◌∙◌, arith, List, length, slice_set}
use Rattle.std.proofs.lemmas.Option.{slice_get_read}
use Rattle.sd_drive.proofs.Places.{length_set}
use Rattle.sd_board.specs.Changes.{change_at}
use Rattle.sd_board.specs.Lines.{LinesIs, posted_in, says}
use Rattle.sd_board.specs.declared.posted.Posted.{Posted}
use Rattle.sd_board.proofs.LineLemmas.{keeps_said}
use Rattle.sd_board.proofs.SlotLemmas.{none_changes, set_changes}
use Rattle.sd_board.proofs.lines.Lines.post.Goals as goal

pub returns-then-at-len : goal.returns-then-at-len
returns-then-at-len c =
    let l : LinesIs = record { sessions = c.self.inside.sessions.items; promised = c.self.inside.promised } in
    let at = c.ticket_place-at.result in
    let past : length l.sessions ≤ at = omega (arith, c.len.ensures, c.self.inside.sessions.ok.0, c.if-at-len.true) in
    let f = says c.args.status c.args.records in
    subst (λ (old : LinesIs). old ≡ posted_in c.args.ticket c.args.status c.args.records old) c.self.view_is
    (sym (ap (λ (ps : List Posted). record l { sessions = ps }) (ap (λ n. change_at f n l.sessions) (sym c.ticket_place-at.ensures.place) ∙ none_changes f at l.sessions past)))

pub invariant_of-self : goal.invariant_of-self
invariant_of-self c =
    let ps = c.self.inside.sessions.items in
    let at = c.ticket_place-at.result in
    let read = c.index_mut-line.result.now in
    let new : Posted = record read { status = c.args.status; records = c.args.records } in
    let there = slice_get_read ps (length ps) at read refl (omega (arith, c.len.ensures, c.self.inside.sessions.ok.0, c.if-at-len.false)) c.index_mut-line.ensures.value in
    let long = length_set ps at new in
    let room = c.self.invariant.room in
    record {
      keeps = keeps_said ps c.self.inside.promised at read new c.self.invariant.keeps there refl;
      room = omega (arith, long, room);
    }

pub returns : goal.returns
returns c =
    let l : LinesIs = record { sessions = c.self.inside.sessions.items; promised = c.self.inside.promised } in
    let ps = l.sessions in
    let at = c.ticket_place-at.result in
    let read = c.index_mut-line.result.now in
    let new : Posted = record read { status = c.args.status; records = c.args.records } in
    let there = slice_get_read ps (length ps) at read refl (omega (arith, c.len.ensures, c.self.inside.sessions.ok.0, c.if-at-len.false)) c.index_mut-line.ensures.value in
    let f = says c.args.status c.args.records in
    subst (λ (old : LinesIs). record l { sessions = slice_set ps at new } ≡ posted_in c.args.ticket c.args.status c.args.records old) c.self.view_is
    (ap (λ (qs : List Posted). record l { sessions = qs }) (set_changes f at ps read new there refl ∙ ap (λ n. change_at f n ps) c.ticket_place-at.ensures.place))
