use Rattle.std.proofs.Common.{ap, sym, ◌∙◌}
use Rattle.std.specs.Prelude.{is_some}
use Rattle.sd_drive.specs.Moves.{index_of}
use Rattle.sd_line.proofs.RoomLemmas.{adopt_there, adopt_loaded, adopt_memory}
use Rattle.sd_line.proofs.operating.adopt_without_room.Goals as goal

pub returns-then-has_name : goal.returns-then-has_name
returns-then-has_name g c =
    adopt_there (λ x. g.D.Driver.meaning x) c.args.drive.now c.args.name.now
    (ap (λ vs. is_some (index_of vs c.args.name.now)) (sym c.volumes.ensures) ∙ sym c.has_name.ensures ∙ c.if-has_name.true)

pub returns-then-is_some : goal.returns-then-is_some
returns-then-is_some g c =
    adopt_loaded (λ x. g.D.Driver.meaning x) c.args.drive.now c.args.name.now
    (ap (λ vs. is_some (index_of vs c.args.name.now)) (sym c.volumes.ensures) ∙ sym c.has_name.ensures ∙ c.if-has_name.false)
    (ap is_some (sym c.loaded.ensures) ∙ sym c.is_some.ensures ∙ c.if-is_some.true)

pub returns : goal.returns
returns g c =
    adopt_memory (λ x. g.D.Driver.meaning x) c.args.drive.now c.args.name.now
    (ap (λ vs. is_some (index_of vs c.args.name.now)) (sym c.volumes.ensures) ∙ sym c.has_name.ensures ∙ c.if-has_name.false)
    (ap is_some (sym c.loaded.ensures) ∙ sym c.is_some.ensures ∙ c.if-is_some.false)
