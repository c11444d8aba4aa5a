use Rattle.std.proofs.Common.{subst}
use Rattle.sd_line.specs.Operates.{MayOperate}
use Rattle.sd_stations.proofs.station.Station.operate.Goals as goal

pub returns-in-Ok-clause-answers : goal.returns-in-Ok-clause-answers
returns-in-Ok-clause-answers g c =
    subst (λ event. MayOperate (λ d. g.D.Driver.meaning d) c.args.self.now.no event c.in-Ok.operated.reply) c.loop-look.invariant.same c.in-Ok.ensures.answers
