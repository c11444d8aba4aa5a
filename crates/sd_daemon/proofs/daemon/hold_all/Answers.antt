use denote.Exit.{yes}
use denote.Param.{copied, param}
use denote.Param.Send.{arg_sync, param_sync, sendable}
use Rattle.sd_daemon.proofs.TalkLemmas.{metering_sync, ref_sync, talks_sync}
use Rattle.sd_daemon.proofs.daemon.hold_all.Goals as goal

pub hold_talks-requires-sync-K : goal.hold_talks-requires-sync-K
hold_talks-requires-sync-K g c κs within =
    param_sync 1 _ (arg_sync _ yes _ (talks_sync _ (param 0 g.row.N) (copied 1 g.row.W) (param 2 g.row.L) g.N.Naming
    (search (ref_sync, c.share.ensures.shared), (search (sendable, c.type_bounds.sync-W), (search (ref_sync, c.share-2.ensures.shared), (search sendable, (search (ref_sync, c.share-3.ensures.shared), (search (ref_sync, c.share-4.ensures.shared), (search (ref_sync, c.share-5.ensures.shared), (search sendable, (metering_sync _, (search (ref_sync, c.share-6.ensures.shared), (search (ref_sync, c.share-7.ensures.shared), tt)))))))))))))
