use Rattle.std.proofs.Common.{ap, arith}
use Rattle.std.specs.List.{sum_by}
use Rattle.sd_journal.specs.Stretch.{counted}
use Rattle.sd_journal.proofs.share.Share.counts.Goals as goal

pub synced_in-requires : goal.synced_in-requires
synced_in-requires c =
    let same = ap (sum_by counted) c.deref.ensures.value in let most = c.self.invariant.counted in let fits = c.self.invariant.fits in omega (arith, same, most, fits)
