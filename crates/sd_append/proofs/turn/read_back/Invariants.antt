use Rattle.sd_append.specs.Out.{out_view}
use Rattle.sd_append.proofs.turn.read_back.Given as goal

abbrev pub ghosts-read_out : goal.ghosts-read_out
ghosts-read_out g a = record { before = out_view g.W.Write.contents a.outbox }
