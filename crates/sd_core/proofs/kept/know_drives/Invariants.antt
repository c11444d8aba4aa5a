use Rattle.sd_core.proofs.DrivesKept.{FirstKeep}
use Rattle.sd_core.proofs.kept.know_drives.Given as goal

-- each drive so far
abbrev pub invariant-loop-bay : goal.invariant-loop-bay
invariant-loop-bay g l = FirstKeep (λ d. g.D.Driver.meaning d) l.bays l.bay-index
