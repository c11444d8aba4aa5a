use Rattle.sd_reserve.specs.Reserve.{TakesMedia}
use Rattle.sd_base.proofs.ChoiceLemmas.{NoneBelow}
use Rattle.sd_reserve.proofs.drive.any_takes.Given as goal

abbrev pub invariant-loop-drive : goal.invariant-loop-drive
invariant-loop-drive l = NoneBelow (TakesMedia l.media) l.drives l.drive-index
