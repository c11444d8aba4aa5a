use Rattle.std.proofs.Common.{rules, ap, subst, ◌∙◌, ◌++◌, ◌∷◌, []}
use Rattle.sd_lane.specs.Queue.{queued, pieces_of, WasFull, PlainView}
use Rattle.sd_lane.proofs.QueueLemmas.{push_sends, full_now}
use Rattle.sd_lane.proofs.plain.PlainLanes.push.Goals as goal

pub returns-clause-sent : goal.returns-clause-sent
returns-clause-sent c =
    push_sends (queued c.args.lane c.args.piece) _ _ _ _ (ap (λ (v : PlainView). v.taken) c.self.view_is)
    (c.push_back_reserved.ensures.items ∙ ap (λ (v : PlainView). v.held ++ queued c.args.lane c.args.piece ∷ []) c.self.view_is)

pub returns-then-len-self-clause-was_full : goal.returns-then-len-self-clause-was_full
returns-then-len-self-clause-was_full c =
    subst (λ (v : PlainView). WasFull v.lanes v.capacity c.args.lane (pieces_of c.args.lane (v.taken ++ v.held))) c.self.view_is
    (full_now _ _ c.args.lane _ _ (search rules) c.self.invariant.2)
