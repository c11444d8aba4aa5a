use Rattle.sd_driver.proofs.Lasting.{low_mark-lasts}
use Rattle.sd_driver.proofs.laws.lasting_bounds_low_mark.Goals as goal

pub returns : goal.returns
returns c = low_mark-lasts
