use Rattle.std.proofs.Common.{◌-◌, ◌++◌, refl, ap, ◌∙◌, arith}
use Rattle.sd_folder.specs.Place.{folder_named}
use Rattle.sd_spool.specs.FileSpool.{lane_file, path_of}
use Rattle.sd_daemon.proofs.SetupLemmas.{path_is, paths_more}
use Rattle.sd_daemon.proofs.hub.+lanes_of.Goals as goal

pub returns-clause-files : goal.returns-clause-files
returns-clause-files t c =
    let is = c.in-Some.ensures in
    paths_more c.args.folder.now c.args.drive c.args.lanes (c.args.lanes - 1) c.in_ok-spools.spools.items c.push.new.self.items c.in_ok-spool.spool
    (omega (arith, (is.within.0 refl).0)) c.in_ok-push.ensures.items c.in_ok-spools.ensures.files
    (path_is c.args.folder.now (path_of c.in_ok-spool.spool) (lane_file c.args.drive c.in-Some.lane) c.in_ok-spool.ensures.there c.in_ok-spool.ensures.here
    ∙ ap (λ l. folder_named c.args.folder.now ++ lane_file c.args.drive l) is.value)
