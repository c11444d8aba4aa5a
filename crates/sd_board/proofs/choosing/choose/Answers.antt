use Rattle.std.proofs.Common.{ap, Err, length, take}
use Rattle.sd_board.proofs.ViewLemmas.{none_takes}
use Rattle.sd_board.proofs.choosing.choose.Goals as goal

pub returns-in-Err-clause-err : goal.returns-in-Err-clause-err
returns-in-Err-clause-err g c =
    let views = c.views-views.result in
    none_takes c.args.drives.now c.args.seen.now c.args.pool.now c.args.media.now (take (length c.args.drives.now) views) c.in-Err.fault c.refusal.result c.views-views.ensures c.refusal.ensures
    (λ e. c.in-Err.ensures.no_drive.0 (ap Err e)) (λ e. c.in-Err.ensures.offline.0 (ap Err e)) (λ e. c.in-Err.ensures.no_lane.0 (ap Err e))
