use Rattle.std.proofs.Common.{refl}
use Rattle.sd_salvage.specs.Readable.{place}
use Rattle.sd_salvage.proofs.SalvageLemmas.{takes_lost}
use Rattle.sd_salvage.proofs.salvager.Salvager.lose.Goals as goal

pub returns-clause-takes : goal.returns-clause-takes
returns-clause-takes g c = takes_lost c.args.self.now.key c.args.self.now _ (place c.args.volume.now c.args.at) _ _ _ _ c.cut.ensures.goes_on refl c.lose.ensures.got c.lose.ensures.lost
