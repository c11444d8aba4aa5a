use Rattle.std.proofs.Common.{◌≡◌, take}
use Rattle.sd_text.specs.Says.{Says, said_view}
use Rattle.sd_conf.specs.Check.{drive_lines}
use Rattle.sd_conf.proofs.check.print_drives.Given as goal

abbrev pub invariant-loop-drive : goal.invariant-loop-drive
invariant-loop-drive g l = record {
  number : l.number ≡ l.drive-index;
  says : Says (said_view g.W.Write.contents l.initial.out) (said_view g.W.Write.contents l.out) (drive_lines 1 (take l.drive-index l.drives));
}
