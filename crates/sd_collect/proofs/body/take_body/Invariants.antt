use Rattle.std.proofs.Common.{◌≡◌, ◌++◌, ◌-◌, List, length}
use Rattle.sd_base.specs.Record.{Record}
use Rattle.sd_record.specs.Fragment.{Fragment}
use Rattle.sd_collect.specs.Collect.{GoesOn}
use Rattle.sd_collect.specs.Whole.{parts_of}
use Rattle.sd_collect.proofs.CollectLemmas.{Taken}
use Rattle.sd_collect.proofs.body.take_body.Given as goal

-- the fragments before `at` were taken
abbrev pub invariant-loop-fragment : goal.invariant-loop-fragment
invariant-loop-fragment g l =
    (fs : List Fragment) × (records : List Record) × Taken l.body l.at fs
    × (g.S.Salvaged.got l.sink ≡ g.S.Salvaged.got l.initial.sink ++ records)
    × (g.S.Salvaged.lost l.sink ≡ g.S.Salvaged.lost l.initial.sink)
    × GoesOn l.initial.collector l.collector (parts_of fs) records

abbrev pub decreases-loop-fragment : goal.decreases-loop-fragment
decreases-loop-fragment g l = length l.body - l.at
