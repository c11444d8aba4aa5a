use Rattle.std.proofs.Common.{◌≡◌, ℤ, codes, rules, subst, to_z, of_z, w64}
use Rattle.std.specs.Prelude.{IfOk}
use Rattle.sd_lines.specs.Console.{IsDone}
use Rattle.sd_machine.specs.declared.event.Event.TheVariants.{Label}
use Rattle.sd_machine.specs.declared.reply.Reply.TheVariants.{Labelled}
use Rattle.sd_lines.proofs.labelling.label.Goals as goal

pub returns : goal.returns
returns g c =
    let wide : to_z w64 (of_z w64 c.args.moment) ≡ c.args.moment = search rules in
    subst (λ (m : ℤ). IfOk c.try_label-answer.result (λ lines. IsDone (λ d. g.D.Driver.meaning d) c.args.drive (Label c.args.drive c.args.name.now c.args.pool.now c.args.media.now m) Labelled (codes "ok labelled") lines))
    wide c.try_label-answer.ensures
