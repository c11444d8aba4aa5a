use Rattle.std.proofs.Common.{◌≡◌, ℕ, ◌+◌, drop}
use Rattle.sd_memfolder.specs.Files.{file_of, StandsFirstAt}
use Rattle.sd_memfolder.proofs.files.first_named.Given as goal

-- the first of those that are left is the first of all
abbrev pub invariant-loop-place : goal.invariant-loop-place
invariant-loop-place l = record {
  none : file_of (drop l.place l.files) l.name ≡ file_of l.files l.name;
  first : (j : ℕ) → StandsFirstAt l.name (drop l.place l.files) j → StandsFirstAt l.name l.files (l.place + j);
}
