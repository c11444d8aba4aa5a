use Rattle.std.proofs.Common.{◌≡◌, ap, codes, rules, to_z, of_z, w64}
use Rattle.sd_lines.proofs.ConsoleLemmas.{done_as}
use Rattle.sd_lines.specs.Noting.{is_done}
use Rattle.sd_machine.specs.declared.event.Event.TheVariants.{Label}
use Rattle.sd_machine.specs.declared.reply.Reply.TheVariants.{Labelled}
use Rattle.sd_lines.proofs.labelling.try_label.Goals as goal

pub returns-in-Labelled : goal.returns-in-Labelled
returns-in-Labelled g c =
    let given = Label c.args.drive c.copy.result c.copy-2.result c.copy-3.result (to_z w64 (of_z w64 c.args.moment)) in
    let wanted = Label c.args.drive c.args.name.now c.args.pool.now c.args.media.now c.args.moment in
    let same : given ≡ wanted = search rules in
    done_as (λ d. g.D.Driver.meaning d) c.in-Some.post.now.station.no c.args.drive given wanted c.give_unnoted-reply.result Labelled (codes "ok labelled") c.in_ok-done.done c.in-Some.ensures same
    c.in-Labelled.is (c.give_unnoted-reply.ensures.done (ap is_done c.in-Labelled.is)) c.in_ok-done.ensures.ok
