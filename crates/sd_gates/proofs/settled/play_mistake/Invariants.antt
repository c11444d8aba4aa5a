use Rattle.sd_gates.proofs.Last.{named}
use Rattle.sd_gates.proofs.settled.play_mistake.Given as goal

-- the queues and ledgers that were just made, and the time of the run, for each number
abbrev pub ghosts-err_twice : goal.ghosts-err_twice
ghosts-err_twice g a = record { table = named a.all.items; time = λ no. 1000 }
