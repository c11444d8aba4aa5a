use Rattle.std.proofs.Common.{refl, codes}
use Rattle.sd_lines.proofs.ConsoleLemmas.{done_as}
use Rattle.sd_machine.specs.declared.event.Event.TheVariants.{Unmount}
use Rattle.sd_machine.specs.declared.reply.Reply.TheVariants.{Unmounted}
use Rattle.sd_lines.proofs.console.unmount.Goals as goal

pub returns-in-Unmounted : goal.returns-in-Unmounted
returns-in-Unmounted g c =
    let event = Unmount c.args.drive in
    done_as (λ d. g.D.Driver.meaning d) c.in-Some.post.now.station.no c.args.drive event event c.give.result Unmounted (codes "ok unmounted") c.in_ok-done.done c.in-Some.ensures refl
    c.in-Unmounted.is c.give.ensures c.in_ok-done.ensures.ok
