use Rattle.sd_gates.proofs.Last.{named}
use Rattle.sd_gates.proofs.settled.play_active.Given as goal

-- the queues and ledgers that were just made, and the time of the run, for each number
abbrev pub ghosts-settle_active : goal.ghosts-settle_active
ghosts-settle_active g a = record { table = named a.all.items; time = λ no. 1000 }
