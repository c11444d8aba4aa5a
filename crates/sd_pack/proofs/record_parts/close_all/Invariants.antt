use Rattle.std.proofs.Common.{◌≡◌, ◌+◌, [], ◌∷◌, ◌++◌}
use Rattle.std.specs.VecDeque.{deque_len, deque_capacity}
use Rattle.sd_pack.specs.KeptPacker.{AreWithin}
use Rattle.sd_base.specs.Limits.{most_body}
use Rattle.sd_pack.proofs.record_parts.close_all.Given as goal

-- what is closed, open and to come stays in one order throughout
abbrev pub invariant-loop-body : goal.invariant-loop-body
invariant-loop-body l =
    ((l.waiting.items ++ l.open_body ∷ []) ++ l.later.items ≡ (l.initial.waiting.items ++ l.initial.open_body ∷ []) ++ l.initial.later.items)
    × (deque_len l.waiting + deque_len l.later ≡ deque_len l.initial.waiting + deque_len l.initial.later)
    × (deque_capacity l.waiting ≡ deque_capacity l.initial.waiting)
    × AreWithin most_body (l.open_body ∷ l.later.items)

abbrev pub decreases-loop-body : goal.decreases-loop-body
decreases-loop-body l = deque_len l.later
