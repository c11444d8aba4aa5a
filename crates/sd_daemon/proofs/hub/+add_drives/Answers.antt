use Rattle.std.proofs.Common.{rules}
use Rattle.sd_daemon.proofs.TableLemmas.{first_named, last_named}
use Rattle.sd_daemon.proofs.hub.+add_drives.Goals as goal

pub add_drives-requires : goal.add_drives-requires
add_drives-requires g t c κs within = (search rules, (within.0, (within.1, first_named g.N.Naming.table g.N.Naming.time c.args.drives.items c.pop.new.self.items c.in-Some-Some.drive c.in-Some-Some.ensures'.items c.requires)))

pub add_drive-requires-after_bounds : goal.add_drive-requires-after_bounds
add_drive-requires-after_bounds g t c κs within =
    last_named g.N.Naming.table g.N.Naming.time c.args.drives.items c.pop.new.self.items c.in-Some-Some.drive c.in-Some.no c.in-Some-Some.ensures'.items c.requires (search rules) (search rules)
