use Rattle.std.proofs.Common.{◌≡◌, take}
use Rattle.std.specs.List.{filter_map}
use Rattle.sd_memfolder.specs.Files.{left_file}
use Rattle.sd_memfolder.proofs.left.files_after.Given as goal

-- the files that were left so far
abbrev pub invariant-loop-one : goal.invariant-loop-one
invariant-loop-one l = l.files.items ≡ filter_map (left_file l.tail) (take l.one-index l.left)
