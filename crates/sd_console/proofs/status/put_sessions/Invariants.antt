use Rattle.std.proofs.Common.{◌≡◌, ◌++◌, take}
use Rattle.std.specs.List.{flat_map}
use Rattle.std.specs.String.{string_bytes}
use Rattle.sd_text.specs.Lines.{line}
use Rattle.sd_console.specs.Status.{session_line}
use Rattle.sd_console.proofs.status.put_sessions.Given as goal

abbrev pub invariant-loop-session : goal.invariant-loop-session
invariant-loop-session l =
    string_bytes l.text ≡ string_bytes l.fn.text ++ flat_map (λ session. line (session_line session)) (take l.session-index l.sessions)
