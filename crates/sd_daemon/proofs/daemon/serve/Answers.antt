use Rattle.sd_daemon.proofs.NamedLemmas.{drives_named}
use Rattle.sd_daemon.proofs.daemon.serve.Goals as goal

pub serve_drives-requires-clause-named : goal.serve_drives-requires-clause-named
serve_drives-requires-clause-named g c κs within =
    drives_named c.args.conf.now c.in-Some.time c.args.conf.now.drives c.adopt_folders.new.drives.items c.adopt_folders.ensures.unused

pub returns-in-Err : goal.returns-in-Err
returns-in-Err g c = record { fault = c.port_fault.ensures c.args.conf.now }
