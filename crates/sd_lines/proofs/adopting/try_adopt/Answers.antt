use Rattle.std.proofs.Common.{◌≡◌, ap, rules}
use Rattle.sd_console.specs.Replies.{reply_line}
use Rattle.sd_lines.proofs.ConsoleLemmas.{done_as}
use Rattle.sd_lines.specs.Noting.{is_done}
use Rattle.sd_machine.specs.declared.event.Event.TheVariants.{Adopt}
use Rattle.sd_machine.specs.declared.reply.Reply.TheVariants.{Adopted}
use Rattle.sd_lines.proofs.adopting.try_adopt.Goals as goal

pub returns-in-Adopted : goal.returns-in-Adopted
returns-in-Adopted g c =
    let given = Adopt c.args.drive c.copy.result in
    let wanted = Adopt c.args.drive c.args.name.now in
    let same : given ≡ wanted = search rules in
    let told = Adopted c.in-Adopted.end c.in-Adopted.next in (
      c.in-Adopted.end,
      c.in-Adopted.next,
      done_as (λ d. g.D.Driver.meaning d) c.in-Some.post.now.station.no c.args.drive given wanted c.give_unnoted-reply.result told (reply_line told) c.tell.result c.in-Some.ensures same
          c.in-Adopted.is (c.give_unnoted-reply.ensures.done (ap is_done c.in-Adopted.is)) c.tell.ensures,
    )
