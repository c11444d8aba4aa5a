use Rattle.std.proofs.Common.{◌∷◌, [], subst}
use Rattle.sd_base.specs.declared.refusal.Refusal.{Refusal}
use Rattle.sd_bnet.specs.Stream.{stream_of}
use Rattle.sd_append.specs.Out.{PutsOut, out_view}
use Rattle.sd_append.specs.Talk.{refused}
use Rattle.sd_append.proofs.TakeLemmas.{command_taken, fault_taken}
use Rattle.sd_append.proofs.take.take_command.Goals as goal

pub returns-in-Ok-clause-does : goal.returns-in-Ok-clause-does
returns-in-Ok-clause-does g c =
    command_taken (g.P.SessionPort.clock c.args.port.now) c.args.own c.args.bytes.now c.in-Ok.command c.obey.result (g.P.SessionPort.asked c.args.port.now) (g.P.SessionPort.asked c.obey.new.port) (out_view g.W.Write.contents c.args.outbox.now) (out_view g.W.Write.contents c.obey.new.outbox)
    c.in-Ok.ensures.ok c.obey.ensures.does

pub returns-in-Err-clause-does : goal.returns-in-Err-clause-does
returns-in-Err-clause-does g c =
    fault_taken (g.P.SessionPort.clock c.args.port.now) c.args.own c.args.bytes.now c.read_command.result c.in-Err.fault (g.P.SessionPort.asked c.args.port.now) (out_view g.W.Write.contents c.args.outbox.now) (out_view g.W.Write.contents c.refuse.new.outbox)
    c.in-Err.is c.read_command.ensures.bad_name c.read_command.ensures.bad_command
    (subst (λ (r : Refusal). PutsOut (out_view g.W.Write.contents c.args.outbox.now) (out_view g.W.Write.contents c.refuse.new.outbox) (stream_of (refused r ∷ []))) c.refusal.ensures c.refuse.ensures)
