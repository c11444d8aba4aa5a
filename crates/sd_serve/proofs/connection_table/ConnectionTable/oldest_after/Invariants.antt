use Rattle.std.proofs.Common.{◌≡◌, ◌≤◌, ◌<◌, ◌⊎◌, ℕ, Some, IfSome, IsSomeAnd, Contains}
use Rattle.sd_serve.specs.Connections.{open_at}
use Rattle.sd_serve.specs.declared.connection_table.OpenConnection.{OpenConnection}
use Rattle.sd_serve.proofs.connection_table.ConnectionTable.oldest_after.Given as goal

-- an open connection is among those that are left, or isn't older than the oldest so far, which is open
abbrev pub invariant-loop-place : goal.invariant-loop-place
invariant-loop-place l =
    (goal.iterator-loop-place).can_next l.place-iterator ×
    (goal.iterator-loop-place).is_finite l.place-iterator ×
    ((place : ℕ) (c : OpenConnection) → open_at l.self place ≡ Some c
    → Contains l.place-iterator (place, c) ⊎ (l.talk < c.talk → IsSomeAnd l.oldest (λ o. o.1.talk ≤ c.talk))) ×
    ((place : ℕ) (c : OpenConnection) → Contains l.place-iterator (place, c) → open_at l.self place ≡ Some c) ×
    IfSome l.oldest (λ o. open_at l.self o.0 ≡ Some o.1) ×
    IfSome l.oldest (λ o. l.talk < o.1.talk)
