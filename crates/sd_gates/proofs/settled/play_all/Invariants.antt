use Rattle.sd_gates.proofs.Last.{named}
use Rattle.sd_gates.proofs.settled.play_all.Given as goal

-- the queues and ledgers that were just made, and the time of the run, for each number
abbrev pub ghosts-count_read : goal.ghosts-count_read
ghosts-count_read g a = record { table = named a.all.items; time = λ no. 1000 }
