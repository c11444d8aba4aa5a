use Rattle.std.proofs.Common.{ap, ◌∙◌}
use Rattle.sd_folder.specs.Place.{folder_named}
use Rattle.sd_daemon.specs.Setup.{HasFolder}
use Rattle.sd_daemon.proofs.SetupLemmas.{zip_more}
use Rattle.sd_daemon.proofs.drives.+devices_of.Goals as goal

pub returns-clause-folders : goal.returns-clause-folders
returns-clause-folders t c =
    zip_more HasFolder c.args.drives.now c.in-Some.front.now c.in-Some.last.now c.in_ok-devices.devices.items c.push.new.self.items c.in_ok-device.device
    c.in-Some.ensures.cases.0 c.in_ok-push.ensures.items c.in_ok-devices.ensures.folders (c.in_ok-device.ensures.folder ∙ ap folder_named c.as_str.ensures)
