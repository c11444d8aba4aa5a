use Rattle.std.proofs.Common.{sym, subst}
use Rattle.sd_bnet.specs.Stream.{stream_of}
use Rattle.sd_machine.specs.declared.reply.Reply.{Reply}
use Rattle.sd_append.specs.Out.{PutsOut, out_view}
use Rattle.sd_append.specs.Talk.{open_said}
use Rattle.sd_append.proofs.answers.say_open.Goals as goal

pub returns-in-Opened : goal.returns-in-Opened
returns-in-Opened g c =
    subst (λ (r : Reply). PutsOut (out_view g.W.Write.contents c.args.outbox.now) (out_view g.W.Write.contents c.say.new.outbox) (stream_of (open_said r))) (sym c.in-Opened.is) c.say.ensures
