use Rattle.sd_daemon.specs.Setup.{IsUnusedOf}
use Rattle.sd_daemon.proofs.SetupLemmas.{zip_more}
use Rattle.sd_daemon.proofs.drives.+unused_of.Goals as goal

pub returns : goal.returns
returns g t c =
    zip_more (IsUnusedOf c.args.conf.now c.args.time) c.args.drives.now c.in-Some.front.now c.in-Some.last.now c.in_ok-all.all.items c.push.new.self.items c.in_ok-drive.drive
    c.in-Some.ensures.cases.0 c.in_ok-push.ensures.items c.in_ok-all.ensures c.in_ok-drive.ensures
