use Rattle.sd_text.proofs.printer.Printer.bytes.Goals as goal

pub returns-in-Err-clause-cut : goal.returns-in-Err-clause-cut
returns-in-Err-clause-cut g c = rw c.if-self.false c.in-Err.ensures.err
