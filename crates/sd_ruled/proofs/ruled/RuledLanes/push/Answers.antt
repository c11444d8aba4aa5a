use Rattle.std.proofs.Common.{rules, ap, subst, sym, ◌∙◌, ◌++◌, ◌∷◌, [], ◌≤◌}
use Rattle.sd_lane.specs.Queue.{queued, pieces_of, WasFull}
use Rattle.sd_lane.proofs.QueueLemmas.{push_sends, full_now}
use Rattle.sd_ruled.specs.Passes.{PassView}
use Rattle.sd_ruled.specs.Seats.{RuledView}
use Rattle.sd_ruled.proofs.Pieces.{lanes_behind}
use Rattle.sd_ruled.proofs.Steps.{puts, learns}
use Rattle.sd_ruled.proofs.ruled.RuledLanes.push.Goals as goal

pub push_as-requires-clause-rule : goal.push_as-requires-clause-rule
push_as-requires-clause-rule g c = (
  puts _ _ _ c.self.inside.lanes _ c.self.invariant.alone c.requires.least
      (subst (λ (v : RuledView). c.args.lane ≤ v.lanes) (sym c.self.view_is) c.requires.most),
  learns _ _,
)

pub returns-clause-sent : goal.returns-clause-sent
returns-clause-sent g c =
    let r = c.in-Ok.ensures.rule in
    push_sends (queued c.args.lane c.args.piece) _ _ _ _
    (ap (λ (v : PassView). v.taken) r ∙ ap (λ (v : RuledView). v.taken) c.self.view_is)
    (ap (λ (v : PassView). v.held) r ∙ ap (λ (v : RuledView). v.held ++ queued c.args.lane c.args.piece ∷ []) c.self.view_is)

pub returns-then-self-capacity-clause-was_full : goal.returns-then-self-capacity-clause-was_full
returns-then-self-capacity-clause-was_full g c =
    subst (λ (v : RuledView). WasFull v.lanes v.capacity c.args.lane (pieces_of c.args.lane (v.taken ++ v.held))) c.self.view_is
    (full_now _ _ c.args.lane c.self.inside.pass.me.0.client.taken c.self.inside.pass.me.0.client.held (search rules) (lanes_behind _ _ _ c.self.invariant.of_lanes))
