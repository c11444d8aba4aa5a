use Rattle.sd_append.specs.Out.{out_view}
use Rattle.sd_append.proofs.TalkLemmas.{close_says}
use Rattle.sd_append.proofs.answers.say_close.Goals as goal

pub returns-in-Closed : goal.returns-in-Closed
returns-in-Closed g c =
    close_says (out_view g.W.Write.contents c.args.outbox.now) (out_view g.W.Write.contents c.say.new.outbox) (out_view g.W.Write.contents c.say-in-Closed.new.outbox) (out_view g.W.Write.contents c.say_spans.new.outbox) (out_view g.W.Write.contents c.end_of_data.new.self)
    c.args.reply.now c.in-Closed.key c.in-Closed.spans c.as_slice.result.now
    c.in-Closed.is c.as_slice.ensures c.say.ensures c.say-in-Closed.ensures c.say_spans.ensures c.end_of_data.ensures
