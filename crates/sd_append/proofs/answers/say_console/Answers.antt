use Rattle.sd_append.specs.Out.{out_view}
use Rattle.sd_append.proofs.TalkLemmas.{console_says}
use Rattle.sd_append.proofs.answers.say_console.Goals as goal

pub returns-in-Ok : goal.returns-in-Ok
returns-in-Ok g c =
    console_says (out_view g.W.Write.contents c.args.outbox.now) (out_view g.W.Write.contents c.say_texts.new.outbox) (out_view g.W.Write.contents c.end_of_data.new.self) c.args.answer.now c.in-Ok.texts c.as_slice.result.now
    c.in-Ok.is c.as_slice.ensures c.say_texts.ensures c.end_of_data.ensures
