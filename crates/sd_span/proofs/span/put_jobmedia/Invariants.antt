use Rattle.std.proofs.Common.{◌≡◌, ◌++◌, take}
use Rattle.std.specs.List.{flat_map}
use Rattle.std.specs.String.{string_bytes}
use Rattle.sd_text.specs.Lines.{line}
use Rattle.sd_span.specs.JobMedia.{session_text, span_text}
use Rattle.sd_span.proofs.span.put_jobmedia.Given as goal

abbrev pub invariant-loop-span : goal.invariant-loop-span
invariant-loop-span l =
    string_bytes l.text ≡ line (session_text l.fn.key) ++ flat_map (λ s. line (span_text s)) (take l.span-index l.spans)
