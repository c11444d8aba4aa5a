use Rattle.std.proofs.Common.{◌≡◌, ◌<◌, ℕ, Option, Some, List, length, slice_get}
use Rattle.sd_base.specs.Limits.{most_drives}
use Rattle.sd_lines.proofs.FrontLemmas.{seen_at}
use Rattle.sd_lines.proofs.front.seen.Given as goal

-- each drive so far
abbrev pub invariant-loop-at : goal.invariant-loop-at
invariant-loop-at l = record {
  long : length l.seen ≡ most_drives;
  made : (k : ℕ) (p : Option (List ℕ)) → k < l.at → slice_get l.pools k ≡ Some p → slice_get l.seen k ≡ Some (seen_at l.loaded k p);
}
