use Rattle.sd_port.proofs.port.WorldPort.read.Given as goal

abbrev pub ghosts-read_watched : goal.ghosts-read_watched
ghosts-read_watched g a = record { before = g.K.Sink.got a.sink }
