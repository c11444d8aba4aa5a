use Rattle.std.proofs.Common.{◌≡◌, ℕ, ◌*◌, ◌≤◌, List, ◌++◌, length, take, fold}
use Rattle.sd_crc.specs.Crc32.{byte_step}
use Rattle.sd_crc.specs.Sums.{register_after}
use Rattle.sd_crc.proofs.sums.Sums.after.Given as goal

abbrev pub invariant-loop-block : goal.invariant-loop-block
invariant-loop-block l =
    (rest : List ℕ) → 300 ≤ length rest → register_after (take 300 l.sums.places) rest ≡ fold byte_step 0xFFFFFFFF (take (l.block-index * 4096) l.bytes ++ rest)
