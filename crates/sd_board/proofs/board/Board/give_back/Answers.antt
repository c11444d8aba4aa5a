use Rattle.std.proofs.Common.{◌≡◌, ap, subst, None}
use Rattle.sd_board.specs.Board.{BoardIs, MayRest}
use Rattle.sd_board.specs.Lines.{LinesIs, promised_less}
use Rattle.sd_board.proofs.BoardLemmas.{keeps_rest}
use Rattle.sd_board.proofs.board.Board.give_back.Goals as goal

pub returns-in-Err-clause-back : goal.returns-in-Err-clause-back
returns-in-Err-clause-back g c =
    let back = c.in-Err.ensures.back in
    (back.0, subst (λ (old : BoardIs). MayRest old.drives c.args.end → ⊥) c.self.view_is back.1)

pub invariant_of-self-2 : goal.invariant_of-self-2
invariant_of-self-2 g c =
    let b : BoardIs = record { names = c.self.inside.names; drives = c.self.inside.drives.items; lines = c.self.inside.lines } in
    let k = keeps_rest b c.rest_in.new.drives.items c.args.end None c.self.invariant c.in_default.ensures.ok in
    record { most = k.most; numbered = k.numbered }

pub returns-clause-promise : goal.returns-clause-promise
returns-clause-promise g c =
    let b : BoardIs = record { names = c.self.inside.names; drives = c.self.inside.drives.items; lines = c.self.inside.lines } in
    let drives = c.rest_in.new.drives.items in
    subst (λ (old : BoardIs). record b { drives = drives; lines = c.end_promise.new.self } ≡ record old { drives = drives; lines = promised_less old.lines }) c.self.view_is
    (ap (λ (l : LinesIs). record b { drives = drives; lines = l }) c.end_promise.ensures)
