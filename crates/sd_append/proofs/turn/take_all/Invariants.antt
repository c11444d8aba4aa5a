use Rattle.std.proofs.Common.{◌≡◌}
use Rattle.sd_append.specs.Conversation.{Converses}
use Rattle.sd_append.specs.Does.{Does}
use Rattle.sd_append.specs.Out.{out_view}
use Rattle.sd_append.proofs.turn.take_all.Given as goal

-- the packets so far were taken, and the moment stays
abbrev pub invariant-loop-packet : goal.invariant-loop-packet
invariant-loop-packet g l =
    Does (λ asked out. Converses (g.P.SessionPort.clock l.initial.port) l.initial.taken.stage l.yielded asked out l.taken.stage) (g.P.SessionPort.asked l.initial.port) (g.P.SessionPort.asked l.port)
    (out_view g.W.Write.contents l.initial.taken.outbox) (out_view g.W.Write.contents l.taken.outbox)
    × (g.P.SessionPort.clock l.port ≡ g.P.SessionPort.clock l.initial.port)
