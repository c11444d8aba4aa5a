use Rattle.std.proofs.Common.{◌≡◌, ℕ, ◌+◌, drop}
use Rattle.sd_memdrive.specs.Volumes.{volume_of, StandsFirstAt}
use Rattle.sd_memdrive.proofs.store.first_named.Given as goal

-- the first of those that are left is the first of all
abbrev pub invariant-loop-place : goal.invariant-loop-place
invariant-loop-place l = record {
  none : volume_of (drop l.place l.volumes) l.name ≡ volume_of l.volumes l.name;
  first : (j : ℕ) → StandsFirstAt l.name (drop l.place l.volumes) j → StandsFirstAt l.name l.volumes (l.place + j);
}
