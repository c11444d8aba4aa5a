use Rattle.std.proofs.Common.{◌≡◌, ℕ, ◌≤◌, List, ◌++◌, length, take, drop}
use Rattle.sd_crc.specs.Sums.{register_after}
use Rattle.sd_crc.proofs.sums.add_sums.Given as goal

abbrev pub invariant-loop-i : goal.invariant-loop-i
invariant-loop-i l =
    (rest : List ℕ) → 300 ≤ length rest → register_after (take 300 l.initial.sums) (l.bytes ++ rest) ≡ register_after (take 300 (drop l.i l.sums)) (drop l.i l.bytes ++ rest)
