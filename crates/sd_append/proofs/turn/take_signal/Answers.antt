use Rattle.std.proofs.Common.{[], Option, sym, subst}
use Rattle.sd_append.specs.declared.stage.Own.{Own}
use Rattle.sd_append.specs.declared.stage.TalkStage.TheVariants.{Over}
use Rattle.sd_append.specs.Does.{Does}
use Rattle.sd_append.specs.TalkStage.{own_of}
use Rattle.sd_append.specs.Out.{out_view}
use Rattle.sd_append.specs.Talk.{Only, poll_said}
use Rattle.sd_append.proofs.OutLemmas.{puts_none}
use Rattle.sd_append.proofs.TalkLemmas.{only_says}
use Rattle.sd_append.proofs.TurnLemmas.{meaning_as}
use Rattle.sd_append.proofs.turn.take_signal.Goals as goal

pub returns-in-EndOfData-clause-does : goal.returns-in-EndOfData-clause-does
returns-in-EndOfData-clause-does g c =
    meaning_as c.args.meaning _ c.args.stage c.take_end.result.stage (g.P.SessionPort.asked c.args.port.now) (g.P.SessionPort.asked c.take_end.new.port) (out_view g.W.Write.contents c.args.outbox) (out_view g.W.Write.contents c.take_end.result.outbox)
    c.in-EndOfData.is c.take_end.ensures.does

pub returns-in-Terminate-clause-does : goal.returns-in-Terminate-clause-does
returns-in-Terminate-clause-does g c =
    meaning_as c.args.meaning _ c.args.stage (Over c.own.result) (g.P.SessionPort.asked c.args.port.now) (g.P.SessionPort.asked c.args.port.now) (out_view g.W.Write.contents c.args.outbox) (out_view g.W.Write.contents c.args.outbox) c.in-Terminate.is
    (subst (λ (own : Option Own). Does (λ asked out. Only [] (Over (own_of c.args.stage)) asked out (Over own)) (g.P.SessionPort.asked c.args.port.now) (g.P.SessionPort.asked c.args.port.now) (out_view g.W.Write.contents c.args.outbox) (out_view g.W.Write.contents c.args.outbox)) (sym c.own.ensures)
    (only_says [] (Over (own_of c.args.stage)) (g.P.SessionPort.asked c.args.port.now) (out_view g.W.Write.contents c.args.outbox) (out_view g.W.Write.contents c.args.outbox) (puts_none (out_view g.W.Write.contents c.args.outbox))))

pub returns-in-Poll-clause-does : goal.returns-in-Poll-clause-does
returns-in-Poll-clause-does g c =
    meaning_as c.args.meaning _ c.args.stage c.args.stage (g.P.SessionPort.asked c.args.port.now) (g.P.SessionPort.asked c.args.port.now) (out_view g.W.Write.contents c.args.outbox) (out_view g.W.Write.contents c.answer_poll.new.outbox) c.in-Poll.is
    (only_says (poll_said c.args.stage) c.args.stage (g.P.SessionPort.asked c.args.port.now) (out_view g.W.Write.contents c.args.outbox) (out_view g.W.Write.contents c.answer_poll.new.outbox) c.answer_poll.ensures)

pub returns-in-Other-clause-does : goal.returns-in-Other-clause-does
returns-in-Other-clause-does g c =
    meaning_as c.args.meaning _ c.args.stage c.args.stage (g.P.SessionPort.asked c.args.port.now) (g.P.SessionPort.asked c.args.port.now) (out_view g.W.Write.contents c.args.outbox) (out_view g.W.Write.contents c.args.outbox) c.in-Other.is
    (only_says [] c.args.stage (g.P.SessionPort.asked c.args.port.now) (out_view g.W.Write.contents c.args.outbox) (out_view g.W.Write.contents c.args.outbox) (puts_none (out_view g.W.Write.contents c.args.outbox)))
