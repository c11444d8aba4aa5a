use Rattle.std.proofs.Common.{rules, ◌≡◌, ap, ◌∙◌}
use Rattle.crossbeam_queue.specs.Passes.{view}
use Rattle.sd_ruled.specs.Passes.{PassView}
use Rattle.sd_ruled.specs.Seats.{LaneSeatIs, DriveSeatIs}
use Rattle.sd_ruled.proofs.Steps.{blanks, visits, goes, learns}
use Rattle.sd_ruled.proofs.Views.{took_all}
use Rattle.sd_ruled.proofs.seats.DriveSeat.compare.Goals as goal

pub another-blank-requires-clause-rule : goal.another-blank-requires-clause-rule
another-blank-requires-clause-rule g c = blanks _ _

pub absorb-requires-clause-rule : goal.absorb-requires-clause-rule
absorb-requires-clause-rule g c =
    let same : view c.replace-guest.result ≡ view c.seat.inside.pass = ap view c.replace-guest.ensures.value ∙ c.another-blank.ensures.rule.0 in
    visits _ _ _ _ c.self.invariant.takes (ap (λ (v : PassView). v.sends) (same ∙ c.seat.invariant.1))

pub len_as-held-requires-clause-rule : goal.len_as-held-requires-clause-rule
len_as-held-requires-clause-rule g c = learns _ _

pub another-requires-clause-rule : goal.another-requires-clause-rule
another-requires-clause-rule g c = goes _ _ (search rules) (search rules)

pub returns-clause-all : goal.returns-clause-all
returns-clause-all g c =
    let same : view c.replace-guest.result ≡ view c.seat.inside.pass = ap view c.replace-guest.ensures.value ∙ c.another-blank.ensures.rule.0 in
    let found = c.len_as-held.ensures.rule.1 in
    took_all c.args.self.now c.args.seat.now (view c.self.inside.pass) (view c.replace-guest.result) _ found.0 c.absorb.ensures.rule found.2
    (ap (λ (d : DriveSeatIs). d.taken) c.self.view_is)
    (ap (λ (v : PassView). v.lane) (same ∙ c.seat.invariant.1) ∙ ap (λ (s : LaneSeatIs). s.lane) c.seat.view_is)
    (ap (λ (v : PassView). v.sent) same ∙ ap (λ (s : LaneSeatIs). s.sent) c.seat.view_is)
