use Rattle.std.proofs.Common.{ap, sym, ◌∙◌}
use Rattle.sd_ruled.proofs.Steps.{meets}
use Rattle.sd_ruled.specs.Passes.{PassView}
use Rattle.sd_ruled.specs.Seats.{LaneSeatIs}
use Rattle.sd_ruled.proofs.split.take_in.Goals as goal

pub absorb-requires-clause-rule : goal.absorb-requires-clause-rule
absorb-requires-clause-rule c =
    let is = c.seat.invariant.1 in
    meets _ _ _ _ c.requires.pass.1 (ap (λ (v : PassView). v.sends) is)
    (c.requires.pass.2 ∙ (ap (λ (s : LaneSeatIs). s.lane) (sym c.seat.view_is) ∙ sym (ap (λ (v : PassView). v.lane) is)))
