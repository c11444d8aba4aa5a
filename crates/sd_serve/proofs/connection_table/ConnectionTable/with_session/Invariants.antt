use Rattle.std.proofs.Common.{◌≡◌, ◌≤◌, ◌+◌, length, count_by}
use Rattle.sd_serve.specs.Connections.{most_open, session_count}
use Rattle.sd_serve.proofs.ConnectionLemmas.{in_a_session}
use Rattle.sd_serve.proofs.connection_table.ConnectionTable.with_session.Given as goal

-- what was counted, and what is left
abbrev pub invariant-loop-place : goal.invariant-loop-place
invariant-loop-place l =
    (goal.iterator-loop-place).can_next l._place-iterator ×
    (goal.iterator-loop-place).is_finite l._place-iterator ×
    (l.counted + count_by in_a_session l._place-iterator ≡ session_count l.self) ×
    (l.counted + length l._place-iterator ≤ most_open)
