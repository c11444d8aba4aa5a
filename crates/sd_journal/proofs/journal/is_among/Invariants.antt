use Rattle.std.proofs.Common.{◌≡◌, false, take}
use Rattle.std.specs.List.{list_any}
use Rattle.sd_base.specs.Key.{is_key}
use Rattle.sd_journal.proofs.journal.is_among.Given as goal

abbrev pub invariant-loop-one : goal.invariant-loop-one
invariant-loop-one l = list_any (is_key l.key) (take l.one-index l.ready) ≡ false
