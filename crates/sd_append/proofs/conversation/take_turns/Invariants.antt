use Rattle.std.proofs.Common.{◌≡◌, ℕ, ◌+◌, ◌*◌, ◌≤◌, List, [], length}
use Rattle.sd_append.specs.Out.{out_view}
use Rattle.sd_append.specs.Standing.{Around, Stands, around}
use Rattle.sd_append.proofs.conversation.take_turns.Given as goal

-- the moment stays, and so does the reader, which was asked at most once a turn; and the talk has read some bytes since,
-- at least one and at most so many a turn
abbrev pub invariant-loop-done : goal.invariant-loop-done
invariant-loop-done g l =
    (g.P.SessionPort.clock l.port ≡ g.P.SessionPort.clock l.initial.port)
    × (l.granted.reader.ghost_name ≡ l.initial.granted.reader.ghost_name)
    × (l.initial.granted.left ≤ l.granted.left + l._done)
    × ((start : Around)
    → Stands (g.P.SessionPort.clock l.initial.port) start (around (g.R.Read.remaining l.initial.granted.reader.now) (g.P.SessionPort.asked l.initial.port) (out_view g.W.Write.contents l.initial.standing.outbox)) l.initial.standing.feeder l.initial.standing.stage []
    → (bytes : List ℕ)
    × Stands (g.P.SessionPort.clock l.initial.port) start (around (g.R.Read.remaining l.granted.reader.now) (g.P.SessionPort.asked l.port) (out_view g.W.Write.contents l.standing.outbox)) l.standing.feeder l.standing.stage bytes
    × (l._done ≤ length bytes) × (length bytes ≤ l._done * 65536))
