use Rattle.std.proofs.Common.{◌≡◌, ◌-◌, ℕ, List, length}
use Rattle.sd_record.specs.Fragment.{Fragment, fragments_bytes, FitTogether}
use Rattle.sd_scan.proofs.IndexLemmas.{ReadTo}
use Rattle.sd_scan.proofs.indexes.indexes_in.Given as goal

abbrev pub invariant-loop-fragment : goal.invariant-loop-fragment
invariant-loop-fragment l =
    (fs : List Fragment) → FitTogether fs → l.body ≡ fragments_bytes fs → ReadTo l.body l.at l.found.first l.found.last fs

abbrev pub decreases-loop-fragment : goal.decreases-loop-fragment
decreases-loop-fragment l = length l.body - l.at
