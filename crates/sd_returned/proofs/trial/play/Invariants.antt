use Rattle.sd_line.proofs.NumberLemmas.{of_one}
use Rattle.sd_returned.proofs.trial.play.Given as goal

-- the queue and the ledger that were just made, and the time of the run, for each number
abbrev pub ghosts-play_with : goal.ghosts-play_with
ghosts-play_with g a = record { table = of_one a.made; time = λ no. 1000 }
