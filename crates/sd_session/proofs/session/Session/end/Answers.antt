use Rattle.std.proofs.Common.{ap, ◌∙◌, rules, Some}
use Rattle.std.specs.Int.{w64}
use Rattle.std.specs.Prelude.{FitsSigned}
use Rattle.std.proofs.lemmas.Int.{to_z-of_z}
use Rattle.sd_label.specs.declared.label.SessionLabel.{SessionLabel}
use Rattle.sd_session.specs.Session.{SessionView}
use Rattle.sd_session.proofs.SessionLemmas.{ends_session}
use Rattle.sd_session.proofs.session.Session.end.Goals as goal

pub returns-clause-ok : goal.returns-clause-ok
returns-clause-ok g c =
    let s = c.self.inside in
    let is = c.self.view_is in
    let active = ap (λ (v : SessionView). v.status) is ∙ c.in_ok-active.ensures.ok in
    let fits : FitsSigned w64 c.args.moment = search rules in
    let label = c.end_label-label.ensures.label
    ∙ ap (λ m. let l : SessionLabel = record { job = s.job; pool = s.pool; media = s.media; moment = m; totals = Some (record { records = s.count; bytes = s.bytes }) } in l)
    (to_z-of_z w64 c.args.moment fits) in
    ends_session _ c.args.self.now c.args.moment c.end_label-label.result c.put_label.new.self c.finish.new.self is active (c.self.invariant.active_open active) label
    c.end_label-label.ensures.is_label c.in_default.ensures.ends c.in_default.ensures.adds c.put_label.ensures.room c.finish.ensures.closed c.finish.ensures.none_open c.finish.ensures.room
