use Rattle.std.proofs.Common.{◌≡◌, ◌++◌, take}
use Rattle.std.specs.List.{flat_map}
use Rattle.std.specs.String.{string_bytes}
use Rattle.sd_text.specs.Lines.{line}
use Rattle.sd_console.specs.Status.{drive_line}
use Rattle.sd_console.proofs.status.put_drives.Given as goal

abbrev pub invariant-loop-drive : goal.invariant-loop-drive
invariant-loop-drive l =
    string_bytes l.text ≡ string_bytes l.fn.text ++ flat_map (λ drive. line (drive_line drive)) (take l.drive-index l.drives)
