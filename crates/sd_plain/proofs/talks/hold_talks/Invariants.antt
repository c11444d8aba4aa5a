use Rattle.std.proofs.Common.{◌≡◌, ℕ}
use Rattle.sd_plain.specs.Talks.{HeldTalks}
use Rattle.sd_plain.proofs.talks.hold_talks.Given as goal

-- the port bears its first moment, at which so many talks were held
abbrev pub invariant-loop-held : goal.invariant-loop-held
invariant-loop-held g l =
    (g.P.SessionPort.clock l.port ≡ g.P.SessionPort.clock l.initial.port)
    × ((held : ℕ) × HeldTalks (g.P.SessionPort.clock l.initial.port) held (g.R.Read.remaining l.initial.reader) (g.R.Read.remaining l.reader)
    (g.P.SessionPort.asked l.initial.port) (g.P.SessionPort.asked l.port))
