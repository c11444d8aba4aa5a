use Rattle.sd_base.proofs.ChoiceLemmas.{NoneBelow}
use Rattle.sd_desk.specs.Next.{TakesBlocksOf}
use Rattle.sd_desk.proofs.next.next_volume.Given as goal

abbrev pub invariant-loop-volume : goal.invariant-loop-volume
invariant-loop-volume l = NoneBelow (TakesBlocksOf l.pool) l.volumes l.volume-index
