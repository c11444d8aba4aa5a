use Rattle.sd_lines.proofs.port.LinePort.read.Given as goal

abbrev pub ghosts-read : goal.ghosts-read
ghosts-read g a = record { before = g.K.Sink.got a.sink }
