use Rattle.sd_gates.proofs.Last.{named}
use Rattle.sd_gates.proofs.strays.play.Given as goal

-- the queues and ledgers that were just made, and the time of the run, for each number
abbrev pub ghosts-play_with : goal.ghosts-play_with
ghosts-play_with g a = record { table = named a.all.items; time = λ no. 1000 }
