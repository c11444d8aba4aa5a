use Rattle.std.proofs.Common.{◌≡◌, ℕ, rules, subst}
use Rattle.sd_line.specs.Operates.{Operates}
use Rattle.sd_stations.proofs.station.Station.try_operate.Goals as goal

pub returns-clause-answers : goal.returns-clause-answers
returns-clause-answers g c =
    let side = c.deref_mut-side.result.now in
    let after = c.operate_on.new.side in
    let same : side.no ≡ c.args.self.now.no = search rules in
    (side.drive, after.drive, subst (λ (n : ℕ). Operates (λ d. g.D.Driver.meaning d) n c.args.event c.operate_on.result.reply side.drive after.drive) same c.operate_on.ensures.operates)
