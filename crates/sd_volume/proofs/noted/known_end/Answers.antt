use Rattle.std.proofs.Common.{arith}
use Rattle.sd_volume.proofs.ImageLemmas.{label_block-least}
use Rattle.sd_volume.proofs.NotedLemmas.{goes_as_noted}
use Rattle.sd_volume.proofs.noted.known_end.Goals as goal

pub returns-in_default-clause-next : goal.returns-in_default-clause-next
returns-in_default-clause-next g c = omega (arith, c.requires.first, label_block-least c.args.found.now.label)

pub returns-then-not-fits-clause-next : goal.returns-then-not-fits-clause-next
returns-then-not-fits-clause-next g c = omega (arith, c.requires.first, label_block-least c.args.found.now.label)

pub returns-clause-goes : goal.returns-clause-goes
returns-clause-goes g c = λ honest shows held there whole ours trusted.
    let fits = (c.in_ok-fits.ensures.fits honest shows held there whole).0 c.if-not-fits.false in
    goes_as_noted c.in-Some.note c.args.reader.now.name c.args.start_time (g.D.Driver.meaning c.args.driver.now).shelf held c.args.found.now.label fits ours there (rw c.in-Some.is at trusted)
