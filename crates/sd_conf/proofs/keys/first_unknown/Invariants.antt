use Rattle.std.proofs.Common.{◌≡◌}
use Rattle.std.specs.Map.{keys_of}
use Rattle.sd_conf.proofs.KeyLemmas.{first_of}
use Rattle.sd_conf.proofs.keys.first_unknown.Given as goal

abbrev pub invariant-loop-key : goal.invariant-loop-key
invariant-loop-key l = first_of l.level l.key-iterator ≡ first_of l.level (keys_of l.table.entries)
