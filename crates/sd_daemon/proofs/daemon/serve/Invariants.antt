use Rattle.sd_daemon.proofs.TableLemmas.{named_table}
use Rattle.sd_daemon.proofs.daemon.serve.Given as goal

-- the drives that were just made name their lines, and the time is that of the clock
abbrev pub ghosts-serve_drives : goal.ghosts-serve_drives
ghosts-serve_drives g a = record { table = named_table a.drives.items; time = λ no. a.run.now.time }
