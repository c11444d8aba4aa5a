use Rattle.sd_append.specs.Out.{out_view}
use Rattle.sd_append.proofs.TalkLemmas.{read_end_says}
use Rattle.sd_append.proofs.answers.say_read_end.Goals as goal

pub returns-in-Ok : goal.returns-in-Ok
returns-in-Ok g c =
    read_end_says (out_view g.W.Write.contents c.args.outbox.now) (out_view g.W.Write.contents c.end_of_data.new.self) (out_view g.W.Write.contents c.say.new.outbox) c.args.answer _ c.in-Ok.is c.end_of_data.ensures c.say.ensures

pub returns-in-Err : goal.returns-in-Err
returns-in-Err g c =
    read_end_says (out_view g.W.Write.contents c.args.outbox.now) (out_view g.W.Write.contents c.end_of_data.new.self) (out_view g.W.Write.contents c.refuse.new.outbox) c.args.answer _ c.in-Err.is c.end_of_data.ensures c.refuse.ensures
