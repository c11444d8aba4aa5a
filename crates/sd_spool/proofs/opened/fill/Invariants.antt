use Rattle.std.proofs.Common.{length}
use Rattle.sd_spool.specs.Opened.{FillsSoFar}
use Rattle.sd_spool.proofs.opened.fill.Given as goal

abbrev pub invariant-loop : goal.invariant-loop
invariant-loop g l = FillsSoFar (g.F.Folder.name_of l.file) l.at (length l.initial.into) l.count l.into (g.F.Folder.meaning l.initial.folder) (g.F.Folder.meaning l.folder)
