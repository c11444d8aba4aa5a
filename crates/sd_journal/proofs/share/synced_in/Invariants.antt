use Rattle.std.proofs.Common.{◌≡◌, take}
use Rattle.std.specs.List.{sum_by}
use Rattle.sd_journal.specs.declared.stretch.Stretch.{Stretch}
use Rattle.sd_journal.proofs.share.synced_in.Given as goal

abbrev pub invariant-loop-one : goal.invariant-loop-one
invariant-loop-one l = l.synced ≡ sum_by (λ (s : Stretch). s.synced) (take l.one-index l.stretches)
