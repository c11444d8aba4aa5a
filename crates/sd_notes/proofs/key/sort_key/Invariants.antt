use Rattle.std.proofs.Common.{◌≡◌, ◌*◌, ◌≤◌, ◌++◌, length, drop}
use Rattle.sd_notes.specs.Order.{key_from, sort_key}
use Rattle.sd_notes.proofs.key.sort_key.Given as goal

abbrev pub invariant-loop-at : goal.invariant-loop-at
invariant-loop-at l = record {
  most : length l.key.items ≤ 3 * l.at;
  keyed : l.key.items ++ key_from l.in_number (drop l.at l.text) ≡ sort_key l.fn.name;
}
