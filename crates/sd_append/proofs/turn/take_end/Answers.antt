use Rattle.std.proofs.Common.{◌∷◌, [], Some}
use Rattle.sd_append.specs.declared.line.ReplyLine.TheVariants.{Appended}
use Rattle.sd_append.specs.declared.stage.TalkStage.TheVariants.{Command, Header, Refused, Over}
use Rattle.sd_append.specs.Out.{out_view}
use Rattle.sd_append.specs.Talk.{end_of_data, refused, said}
use Rattle.sd_append.proofs.OutLemmas.{puts_none}
use Rattle.sd_append.proofs.TalkLemmas.{only_says}
use Rattle.sd_append.proofs.TurnLemmas.{end_as}
use Rattle.sd_append.proofs.turn.take_end.Goals as goal

pub returns-in-Command-clause-does : goal.returns-in-Command-clause-does
returns-in-Command-clause-does g c =
    end_as c.args.stage _ (Command c.in-Command.own) (g.P.SessionPort.asked c.args.port.now) (g.P.SessionPort.asked c.args.port.now) (out_view g.W.Write.contents c.args.outbox) (out_view g.W.Write.contents c.args.outbox) c.in-Command.is
    (only_says ([]) (Command c.in-Command.own) (g.P.SessionPort.asked c.args.port.now) (out_view g.W.Write.contents c.args.outbox) (out_view g.W.Write.contents c.args.outbox) (puts_none (out_view g.W.Write.contents c.args.outbox)))

pub returns-in-Header-clause-does : goal.returns-in-Header-clause-does
returns-in-Header-clause-does g c =
    end_as c.args.stage _ (Command (Some c.in-Header.own)) (g.P.SessionPort.asked c.args.port.now) (g.P.SessionPort.asked c.args.port.now) (out_view g.W.Write.contents c.args.outbox) (out_view g.W.Write.contents c.say.new.outbox) c.in-Header.is
    (only_says (said Appended ∷ []) (Command (Some c.in-Header.own)) (g.P.SessionPort.asked c.args.port.now) (out_view g.W.Write.contents c.args.outbox) (out_view g.W.Write.contents c.say.new.outbox) c.say.ensures)

pub returns-in-Records-clause-does : goal.returns-in-Records-clause-does
returns-in-Records-clause-does g c =
    end_as c.args.stage _ (Header c.in-Records.own) (g.P.SessionPort.asked c.args.port.now) (g.P.SessionPort.asked c.args.port.now) (out_view g.W.Write.contents c.args.outbox) (out_view g.W.Write.contents c.args.outbox) c.in-Records.is
    (only_says ([]) (Header c.in-Records.own) (g.P.SessionPort.asked c.args.port.now) (out_view g.W.Write.contents c.args.outbox) (out_view g.W.Write.contents c.args.outbox) (puts_none (out_view g.W.Write.contents c.args.outbox)))

pub returns-in-Refused-clause-does : goal.returns-in-Refused-clause-does
returns-in-Refused-clause-does g c =
    end_as c.args.stage _ (Command (Some c.in-Refused.own)) (g.P.SessionPort.asked c.args.port.now) (g.P.SessionPort.asked c.args.port.now) (out_view g.W.Write.contents c.args.outbox) (out_view g.W.Write.contents c.refuse.new.outbox) c.in-Refused.is
    (only_says (refused c.in-Refused.refusal ∷ []) (Command (Some c.in-Refused.own)) (g.P.SessionPort.asked c.args.port.now) (out_view g.W.Write.contents c.args.outbox) (out_view g.W.Write.contents c.refuse.new.outbox) c.refuse.ensures)

pub returns-in-Dropped-clause-does : goal.returns-in-Dropped-clause-does
returns-in-Dropped-clause-does g c =
    end_as c.args.stage _ (Refused c.in-Dropped.own c.in-Dropped.refusal) (g.P.SessionPort.asked c.args.port.now) (g.P.SessionPort.asked c.args.port.now) (out_view g.W.Write.contents c.args.outbox) (out_view g.W.Write.contents c.args.outbox) c.in-Dropped.is
    (only_says ([]) (Refused c.in-Dropped.own c.in-Dropped.refusal) (g.P.SessionPort.asked c.args.port.now) (out_view g.W.Write.contents c.args.outbox) (out_view g.W.Write.contents c.args.outbox) (puts_none (out_view g.W.Write.contents c.args.outbox)))

pub returns-in-Spans-clause-does : goal.returns-in-Spans-clause-does
returns-in-Spans-clause-does g c =
    end_as c.args.stage _ c.read_back.result.stage (g.P.SessionPort.asked c.args.port.now) (g.P.SessionPort.asked c.read_back.new.port) (out_view g.W.Write.contents c.args.outbox) (out_view g.W.Write.contents c.read_back.result.outbox) c.in-Spans.is c.read_back.ensures.does

pub returns-in-BadSpans-clause-does : goal.returns-in-BadSpans-clause-does
returns-in-BadSpans-clause-does g c =
    end_as c.args.stage _ (Command c.in-BadSpans.own) (g.P.SessionPort.asked c.args.port.now) (g.P.SessionPort.asked c.args.port.now) (out_view g.W.Write.contents c.args.outbox) (out_view g.W.Write.contents c.say_read_end.new.outbox) c.in-BadSpans.is
    (only_says (end_of_data ∷ refused c.in-BadSpans.refusal ∷ []) (Command c.in-BadSpans.own) (g.P.SessionPort.asked c.args.port.now) (out_view g.W.Write.contents c.args.outbox) (out_view g.W.Write.contents c.say_read_end.new.outbox) c.say_read_end.ensures)

pub returns-in-Over-clause-does : goal.returns-in-Over-clause-does
returns-in-Over-clause-does g c =
    end_as c.args.stage _ (Over c.in-Over.own) (g.P.SessionPort.asked c.args.port.now) (g.P.SessionPort.asked c.args.port.now) (out_view g.W.Write.contents c.args.outbox) (out_view g.W.Write.contents c.args.outbox) c.in-Over.is
    (only_says ([]) (Over c.in-Over.own) (g.P.SessionPort.asked c.args.port.now) (out_view g.W.Write.contents c.args.outbox) (out_view g.W.Write.contents c.args.outbox) (puts_none (out_view g.W.Write.contents c.args.outbox)))
