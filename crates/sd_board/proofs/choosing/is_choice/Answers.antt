use Rattle.std.proofs.Common.{sym, ◌∙◌, eqb-true, eq-eqb}
use Rattle.sd_board.proofs.ViewLemmas.{found, found_none}
use Rattle.sd_board.proofs.choosing.is_choice.Goals as goal

pub returns-in-Ok : goal.returns-in-Ok
returns-in-Ok g c =
    found c.args.drives.now c.args.seen.now c.args.pool.now c.args.media.now c.args.drive c.in-Ok.first _ c.in-Ok.ensures.ok (
      λ yes. sym c.get.ensures.value ∙ eqb-true c.get.result c.get-in-Ok.result yes ∙ c.get-in-Ok.ensures.value,
      λ same. eq-eqb c.get.result c.get-in-Ok.result (c.get.ensures.value ∙ same ∙ sym c.get-in-Ok.ensures.value),
    )

pub returns-in-Err : goal.returns-in-Err
returns-in-Err g c = (
  λ yes. absurd (cc yes),
  λ is. absurd (found_none c.args.drives.now c.args.seen.now c.args.pool.now c.args.media.now c.args.drive _ c.in-Err.ensures.err is),
)
