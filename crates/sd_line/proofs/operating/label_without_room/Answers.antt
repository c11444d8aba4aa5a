use Rattle.std.proofs.Common.{ap, sym, ◌∙◌}
use Rattle.std.specs.Prelude.{is_some}
use Rattle.sd_drive.specs.Moves.{index_of}
use Rattle.sd_line.proofs.RoomLemmas.{label_other, label_loaded, label_there, label_memory}
use Rattle.sd_line.proofs.operating.label_without_room.Goals as goal

pub returns-then-not-is_same : goal.returns-then-not-is_same
returns-then-not-is_same g c =
    label_other (λ x. g.D.Driver.meaning x) c.args.drive.now c.args.name.now c.args.media.now
    (λ same. (let x = sym (c.is_same.ensures.1 (same ∙ sym c.media.ensures)) ∙ c.if-not-is_same.true in cc x))

pub returns-then-is_some : goal.returns-then-is_some
returns-then-is_some g c =
    let same = c.is_same.ensures.0 c.if-not-is_same.false ∙ c.media.ensures in
    label_loaded (λ x. g.D.Driver.meaning x) c.args.drive.now c.args.name.now c.args.media.now same
    (ap is_some (sym c.loaded.ensures) ∙ sym c.is_some.ensures ∙ c.if-is_some.true)

pub returns-then-has_name : goal.returns-then-has_name
returns-then-has_name g c =
    let same = c.is_same.ensures.0 c.if-not-is_same.false ∙ c.media.ensures in
    label_there (λ x. g.D.Driver.meaning x) c.args.drive.now c.args.name.now c.args.media.now same
    (ap is_some (sym c.loaded.ensures) ∙ sym c.is_some.ensures ∙ c.if-is_some.false)
    (ap (λ vs. is_some (index_of vs c.args.name.now)) (sym c.volumes.ensures) ∙ sym c.has_name.ensures ∙ c.if-has_name.true)

pub returns : goal.returns
returns g c =
    let same = c.is_same.ensures.0 c.if-not-is_same.false ∙ c.media.ensures in
    label_memory (λ x. g.D.Driver.meaning x) c.args.drive.now c.args.name.now c.args.media.now same
    (ap is_some (sym c.loaded.ensures) ∙ sym c.is_some.ensures ∙ c.if-is_some.false)
    (ap (λ vs. is_some (index_of vs c.args.name.now)) (sym c.volumes.ensures) ∙ sym c.has_name.ensures ∙ c.if-has_name.false)
