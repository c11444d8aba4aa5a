use Rattle.std.proofs.Common.{◌≡◌, Some, rules, refl}
use Rattle.sd_machine.specs.declared.event.Event.TheVariants.{Label, Adopt}
use Rattle.sd_machine.specs.declared.reply.Reply.TheVariants.{Refused}
use Rattle.sd_line.specs.Operates.{operated_at}
use Rattle.sd_line.proofs.OperateLemmas.{here}
use Rattle.sd_line.proofs.operating.refusal_without_room.Goals as goal

pub returns-in-Label : goal.returns-in-Label
returns-in-Label g c =
    let at : operated_at c.args.event.now ≡ Some c.args.own = search rules in
    let l = c.in-Label in
    here (λ d. g.D.Driver.meaning d) c.args.own l.at (λ n. Label n l.name l.pool l.media l.moment) c.args.event.now (Refused c.label_without_room.result)
    c.args.drive.now c.args.drive.now l.is refl at (λ n. c.label_without_room.ensures n l.pool l.moment)

pub returns-in-Adopt : goal.returns-in-Adopt
returns-in-Adopt g c =
    let at : operated_at c.args.event.now ≡ Some c.args.own = search rules in
    let a = c.in-Adopt in
    here (λ d. g.D.Driver.meaning d) c.args.own a.at (λ n. Adopt n a.name) c.args.event.now (Refused c.adopt_without_room.result)
    c.args.drive.now c.args.drive.now a.is refl at c.adopt_without_room.ensures
