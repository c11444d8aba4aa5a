use Rattle.std.proofs.Common.{refl, codes}
use Rattle.sd_lines.proofs.ConsoleLemmas.{done_as}
use Rattle.sd_machine.specs.declared.event.Event.TheVariants.{Mount}
use Rattle.sd_machine.specs.declared.reply.Reply.TheVariants.{Mounted}
use Rattle.sd_lines.proofs.console.mount.Goals as goal

pub returns-in-Mounted : goal.returns-in-Mounted
returns-in-Mounted g c =
    let event = Mount c.args.drive c.args.volume in (
      c.in-Mounted.name,
      done_as (λ d. g.D.Driver.meaning d) c.in-Some.post.now.station.no c.args.drive event event c.give.result (Mounted c.in-Mounted.name) (codes "ok mounted") c.in_ok-done.done
          c.in-Some.ensures refl c.in-Mounted.is c.give.ensures c.in_ok-done.ensures.ok,
    )
