use Rattle.std.proofs.Common.{rules, ap, not, filter, ◌==◌, ◌∙◌}
use Rattle.std.proofs.lemmas.Fn.{filter_same}
use Rattle.sd_desk.specs.Desk.{DeskView}
use Rattle.sd_desk.specs.declared.request.Request.{Request}
use Rattle.sd_desk.proofs.desk.Desk.answered.Goals as goal

pub returns-clause-requests : goal.returns-clause-requests
returns-clause-requests c =
    filter_same _ _ _ (λ x b f' k. search rules) _ _ c.retain.ensures.filtered
    ∙ ap (λ (v : DeskView). filter (λ (r : Request). not (r.drive == c.args.drive)) v.requests) c.self.view_is
