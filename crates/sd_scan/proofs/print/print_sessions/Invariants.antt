use Rattle.std.proofs.Common.{ℕ, List}
use Rattle.sd_scan.specs.Found.{Found}
use Rattle.sd_scan.specs.Sessions.{KeepsBy, keys_in, sessions_in}
use Rattle.sd_text.specs.Says.{Says, said_view}
use Rattle.sd_span.specs.declared.placement.Placement.{Placement}
use Rattle.sd_scan.proofs.VolumeLemmas.{PrintsFirst}
use Rattle.sd_scan.proofs.print.print_sessions.Given as goal

abbrev pub invariant-loop-at : goal.invariant-loop-at
invariant-loop-at g l =
    (due : List ℕ) × Says (said_view g.W.Write.contents l.initial.out) (said_view g.W.Write.contents l.out) due
    × ((found : List Found) (placements : List Placement) → KeepsBy found placements (sessions_in l.sessions)
    → PrintsFirst l.told found placements (keys_in l.sessions) l.at due l.outcome)
