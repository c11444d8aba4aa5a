use Rattle.sd_port.proofs.reading.read_watched.Goals as goal

pub returns-clause-reads : goal.returns-clause-reads
returns-clause-reads g c = rw (c.new-watched.ensures, c.into_parts-sink.ensures.parts) at c.read-answer.ensures
