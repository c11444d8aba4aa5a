use Rattle.sd_text.specs.Says.{said_view}
use Rattle.sd_files.proofs.reading.extract.Given as goal

abbrev pub ghosts-read_out : goal.ghosts-read_out
ghosts-read_out g a = record { before = said_view g.W.Write.contents a.out }
