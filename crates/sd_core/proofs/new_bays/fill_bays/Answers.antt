use Rattle.sd_core.proofs.NewBays.{all_stay, where_refused}
use Rattle.sd_core.proofs.new_bays.fill_bays.Goals as goal

pub returns-in_err-bays-clause-drivers : goal.returns-in_err-bays-clause-drivers
returns-in_err-bays-clause-drivers g c = where_refused c.from_residual.result _ (all_stay (λ d. g.D.Driver.meaning d) c.args.drivers.now.items)

pub returns-in_err-drives-clause-drivers : goal.returns-in_err-drives-clause-drivers
returns-in_err-drives-clause-drivers g c = where_refused c.from_residual-in_err-drives.result _ (all_stay (λ d. g.D.Driver.meaning d) c.args.drivers.now.items)

pub returns-in_err-rooms-clause-drivers : goal.returns-in_err-rooms-clause-drivers
returns-in_err-rooms-clause-drivers g c = where_refused c.from_residual-in_err-rooms.result _ (all_stay (λ d. g.D.Driver.meaning d) c.args.drivers.now.items)

pub returns-in_err-reserve_lanes-clause-drivers : goal.returns-in_err-reserve_lanes-clause-drivers
returns-in_err-reserve_lanes-clause-drivers g c = where_refused c.from_residual-in_err-reserve_lanes.result _ (all_stay (λ d. g.D.Driver.meaning d) c.args.drivers.now.items)
