use Rattle.std.proofs.Common.{◌≡◌, ◌++◌, take}
use Rattle.std.specs.List.{flat_map}
use Rattle.std.specs.String.{string_bytes}
use Rattle.sd_text.specs.Lines.{line}
use Rattle.sd_console.specs.Status.{volume_line}
use Rattle.sd_console.proofs.status.put_volumes.Given as goal

abbrev pub invariant-loop-volume : goal.invariant-loop-volume
invariant-loop-volume l =
    string_bytes l.text ≡ string_bytes l.fn.text ++ flat_map (λ volume. line (volume_line volume)) (take l.volume-index l.volumes)
