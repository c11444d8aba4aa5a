use Rattle.std.proofs.Common.{ap, sym, ◌∙◌, []}
use Rattle.sd_ruled.specs.Passes.{PassView, of_owner}
use Rattle.sd_ruled.proofs.Steps.{opens}
use Rattle.sd_ruled.proofs.ruled.open_lanes.Goals as goal

pub another-requires-clause-rule : goal.another-requires-clause-rule
another-requires-clause-rule c = let is = c.loop-opened.invariant.is in opens _ _ (is ∙ ap (λ n. of_owner n [] []) (ap (λ (v : PassView). v.lanes) (sym is)))
