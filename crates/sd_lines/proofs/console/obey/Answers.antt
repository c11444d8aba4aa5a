use Rattle.std.proofs.Common.{◌≡◌, ℤ, codes, rules, subst, to_z, of_z, w64}
use Rattle.std.specs.Prelude.{IfOk}
use Rattle.sd_lines.proofs.ConsoleLemmas.{adopt_obeyed, label_obeyed}
use Rattle.sd_lines.specs.Console.{IsDone}
use Rattle.sd_lines.specs.Held.{last_of}
use Rattle.sd_machine.specs.declared.event.Event.TheVariants.{Label}
use Rattle.sd_machine.specs.declared.reply.Reply.TheVariants.{Labelled}
use Rattle.sd_lines.proofs.console.obey.Goals as goal

pub returns-in-Label-clause-obeys : goal.returns-in-Label-clause-obeys
returns-in-Label-clause-obeys g c =
    let wide : to_z w64 (of_z w64 c.args.moment) ≡ c.args.moment = search rules in
    rw c.in-Label.is (label_obeyed (λ d. g.D.Driver.meaning d) c.args.moment c.in-Label.drive c.in-Label.volume c.in-Label.pool c.in-Label.media (last_of c.args.held.now) c.label.result
    (subst (λ (m : ℤ). IfOk c.label.result (λ lines. IsDone (λ d. g.D.Driver.meaning d) c.in-Label.drive (Label c.in-Label.drive c.in-Label.volume c.in-Label.pool c.in-Label.media m) Labelled (codes "ok labelled") lines))
    wide c.label.ensures))

pub returns-in-Adopt-clause-obeys : goal.returns-in-Adopt-clause-obeys
returns-in-Adopt-clause-obeys g c =
    rw c.in-Adopt.is (adopt_obeyed (λ d. g.D.Driver.meaning d) c.args.moment c.in-Adopt.drive c.in-Adopt.volume (last_of c.args.held.now) c.adopt.result c.adopt.ensures)
