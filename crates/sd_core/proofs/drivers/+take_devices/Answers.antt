use Rattle.std.proofs.Common.{◌++◌, ◌∷◌, [], ap, ◌∙◌}
use Rattle.sd_core.specs.View.{devices_of}
use Rattle.sd_core.proofs.Devices.{devices_some, devices_none}
use Rattle.sd_core.proofs.drivers.+take_devices.Goals as goal

pub returns-in-Some-drive-clause-taken : goal.returns-in-Some-drive-clause-taken
returns-in-Some-drive-clause-taken g t c =
    let had = c.args.devices.now.items in
    let front = c.pop.new.self.items in
    c.push_reserved.ensures.items
    ∙ ap (λ l. l ++ c.into_driver.result ∷ []) c.take_devices.ensures.taken
    ∙ ap (λ x. (had ++ devices_of front) ++ x ∷ []) c.into_driver.ensures
    ∙ devices_some c.args.bays.now.items front _ c.in-Some.bay c.in-Some-drive.drive had c.in-Some.ensures.items c.bay.view_is c.in-Some-drive.is

pub returns-clause-taken : goal.returns-clause-taken
returns-clause-taken g t c =
    let had = c.args.devices.now.items in
    let front = c.pop.new.self.items in
    c.take_devices.ensures.taken
    ∙ devices_none c.args.bays.now.items front _ c.in-Some.bay had c.in-Some.ensures.items c.bay.view_is c.in_default-drive.is
