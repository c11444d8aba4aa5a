use Rattle.std.proofs.Common.{◌∷◌, [], subst}
use Rattle.sd_base.specs.declared.refusal.Refusal.{Refusal}
use Rattle.sd_bnet.specs.Stream.{stream_of}
use Rattle.sd_append.specs.Out.{PutsOut, out_view}
use Rattle.sd_append.specs.Talk.{end_of_data, refused}
use Rattle.sd_append.proofs.TurnLemmas.{read_done, read_refused}
use Rattle.sd_append.proofs.turn.read_back.Goals as goal

pub returns-in-Ok-clause-does : goal.returns-in-Ok-clause-does
returns-in-Ok-clause-does g c =
    read_done c.args.own c.args.text c.in-Ok.read.key c.in-Ok.read.spans c.as_slice.result.now c.read_out-out.result.answer (g.P.SessionPort.asked c.args.port.now) (g.P.SessionPort.asked c.read_out-out.new.port)
    (out_view g.W.Write.contents c.args.outbox) (out_view g.W.Write.contents c.read_out-out.result.outbox) (out_view g.W.Write.contents c.say_read_end.new.outbox) c.in-Ok.ensures.ok c.as_slice.ensures c.read_out-out.ensures.asked c.say_read_end.ensures

pub returns-clause-does : goal.returns-clause-does
returns-clause-does g c =
    read_refused c.args.own c.args.text c.read.result c.in-Err.fault (g.P.SessionPort.asked c.args.port.now) (out_view g.W.Write.contents c.args.outbox) (out_view g.W.Write.contents c.say_read_end-in-Err.new.outbox) c.in-Err.is c.read.ensures.bad_span
    (subst (λ (r : Refusal). PutsOut (out_view g.W.Write.contents c.args.outbox) (out_view g.W.Write.contents c.say_read_end-in-Err.new.outbox) (stream_of (end_of_data ∷ refused r ∷ []))) c.refusal.ensures c.say_read_end-in-Err.ensures)
