use Rattle.sd_append.specs.Out.{out_view}
use Rattle.sd_append.proofs.TalkLemmas.{data_says, data_refuses}
use Rattle.sd_append.proofs.obey.data.Goals as goal

pub returns-in-Ok : goal.returns-in-Ok
returns-in-Ok g c asked =
    data_says c.args.named c.in-Ok.it asked (out_view g.W.Write.contents c.args.outbox.now) (out_view g.W.Write.contents c.say.new.outbox) c.in-Ok.is c.say.ensures

pub returns-in-Err : goal.returns-in-Err
returns-in-Err g c asked =
    data_refuses c.in-Err.own c.args.named asked (out_view g.W.Write.contents c.args.outbox.now) (out_view g.W.Write.contents c.refuse.new.outbox) c.in-Err.is c.refuse.ensures
