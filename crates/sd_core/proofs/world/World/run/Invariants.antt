use Rattle.std.proofs.Common.{◌+◌, ◌≤◌, List, ◌++◌, length, vec_len}
use Rattle.std.specs.Vec.{vec_capacity}
use Rattle.std.specs.Vec.Iter.{into_iter_items}
use Rattle.sd_machine.specs.declared.reply.Reply.{Reply}
use Rattle.sd_world.specs.World.{WorldView}
use Rattle.sd_world.specs.Steps.{StepsAlong}
use Rattle.sd_core.proofs.world.World.run.Given as goal

-- what is left to do completes the steps
abbrev pub invariant-loop-event : goal.invariant-loop-event
invariant-loop-event g l = record {
  can : (goal.iterator-loop-event g).can_next l.event-iterator;
  finite : (goal.iterator-loop-event g).is_finite l.event-iterator;
  room : vec_len l.replies + length (into_iter_items l.event-iterator) ≤ vec_capacity l.replies;
  along : (rs : List Reply) (w : WorldView _) → StepsAlong (λ d. g.D.Driver.meaning d) l.self (into_iter_items l.event-iterator) rs w
      → StepsAlong (λ d. g.D.Driver.meaning d) l.fn.self l.fn.events.items (l.replies.items ++ rs) w;
}
