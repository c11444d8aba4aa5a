use Rattle.sd_line.proofs.NumberLemmas.{of_one}
use Rattle.sd_tests.proofs.operating.play.Given as goal

-- the queue and the ledger that were just made, and the time of the run, for each number
abbrev pub ghosts-both : goal.ghosts-both
ghosts-both g a = record { table = of_one (record { queue = a.lanes.table; book = a.book.id }); time = λ no. a.drive.limits.time }
