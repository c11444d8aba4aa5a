use Rattle.std.proofs.Common.{◌≡◌, map, take}
use Rattle.sd_memfolder.specs.Files.{left_of}
use Rattle.sd_memfolder.proofs.left.left_all.Given as goal

-- what a stop leaves of the files so far
abbrev pub invariant-loop-file : goal.invariant-loop-file
invariant-loop-file l = l.left.items ≡ map left_of (take l.file-index l.files)
