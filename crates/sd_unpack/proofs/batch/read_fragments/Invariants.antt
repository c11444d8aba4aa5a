use Rattle.std.proofs.Common.{◌<◌, ◌-◌, List, [], length, drop}
use Rattle.sd_base.specs.Record.{Record}
use Rattle.sd_record.specs.Fragment.{Fragment}
use Rattle.sd_unpack.specs.Stage.{Reaches, AreTotalsOf, IsAtRest, IsStage}
use Rattle.sd_unpack.specs.Batch.{Brings}
use Rattle.sd_unpack.proofs.batch.read_fragments.Given as goal

-- the batch is what the fragments before `at` bring, and if more are there, no record is unfinished
abbrev pub invariant-loop-batch : goal.invariant-loop-batch
invariant-loop-batch l =
    IsStage l.batch.stage l.batch.so_far.items
    × (l.at < length l.body → IsAtRest l.batch.stage)
    × ((fs : List Fragment) (records : List Record) → Reaches l.fn.stage fs records [] → AreTotalsOf l.fn.totals records
    → Brings fs records (drop l.from l.body) (drop l.at l.body) l.batch)

abbrev pub decreases-loop-batch : goal.decreases-loop-batch
decreases-loop-batch l = length l.body - l.at
