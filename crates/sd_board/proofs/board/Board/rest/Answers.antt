use Rattle.std.proofs.Common.{◌≡◌, ap, subst, ◌∙◌, List}
use Rattle.std.specs.Prelude.{IfErr, OnOk}
use Rattle.std.proofs.lemmas.Result.{on_err_weaker}
use Rattle.sd_line.specs.Ends.{EndIs}
use Rattle.sd_board.specs.Board.{BoardIs, MayRest, Rests}
use Rattle.sd_board.specs.Slots.{DriveLanesIs}
use Rattle.sd_board.proofs.BoardLemmas.{keeps_either}
use Rattle.sd_board.proofs.board.Board.rest.Goals as goal

pub invariant_of-self : goal.invariant_of-self
invariant_of-self g c =
    let b : BoardIs = record { names = c.self.inside.names; drives = c.self.inside.drives.items; lines = c.self.inside.lines } in
    keeps_either b c.rest_in.new.drives.items c.args.end c.args.on_its_way c.rest_in.result c.self.invariant c.rest_in.ensures.ok c.rest_in.ensures.err

pub returns-clause-ok : goal.returns-clause-ok
returns-clause-ok g c =
    subst (λ (old : BoardIs). OnOk c.rest_in.result (Rests old.drives c.args.end c.args.on_its_way c.rest_in.new.drives.items)) c.self.view_is c.rest_in.ensures.ok

pub returns-clause-back : goal.returns-clause-back
returns-clause-back g c =
    subst (λ (old : BoardIs). IfErr c.rest_in.result (λ (back : EndIs). (back ≡ c.args.end) × (MayRest old.drives c.args.end → ⊥))) c.self.view_is c.rest_in.ensures.back

pub returns-clause-err : goal.returns-clause-err
returns-clause-err g c =
    let b : BoardIs = record { names = c.self.inside.names; drives = c.self.inside.drives.items; lines = c.self.inside.lines } in
    on_err_weaker c.rest_in.result (λ same. ap (λ (ds : List DriveLanesIs). record b { drives = ds }) same ∙ c.self.view_is) c.rest_in.ensures.err
