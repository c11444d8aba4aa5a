use Rattle.sd_text.specs.Says.{said_view}
use Rattle.sd_salvage.proofs.file.salvage_back.Given as goal

abbrev pub ghosts-salvage_out : goal.ghosts-salvage_out
ghosts-salvage_out g a = record { before = said_view g.W.Write.contents a.out }
