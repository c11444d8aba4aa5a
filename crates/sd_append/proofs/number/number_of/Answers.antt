use Rattle.std.proofs.Common.{sym, ap, ◌∙◌, arith}
use Rattle.sd_text.specs.Reading.{only_number}
use Rattle.sd_append.proofs.TextLemmas.{only_number-fields_of}
use Rattle.sd_append.proofs.number.number_of.Goals as goal

pub returns-in-Ok : goal.returns-in-Ok
returns-in-Ok g c =
    sym c.in-Ok.ensures ∙ ap (only_number 1 g.row.MOST) c.new.ensures
    ∙ only_number-fields_of 1 g.row.MOST c.args.text.now (omega (arith, g.MOST.fits))

pub returns-in-Err : goal.returns-in-Err
returns-in-Err g c =
    sym c.in-Err.ensures ∙ ap (only_number 1 g.row.MOST) c.new.ensures
    ∙ only_number-fields_of 1 g.row.MOST c.args.text.now (omega (arith, g.MOST.fits))
