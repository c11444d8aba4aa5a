use Rattle.std.proofs.Common.{sym, ap, ◌∙◌}
use Rattle.sd_desk.specs.Desk.{DeskView, claim_of, tells_purged}
use Rattle.sd_desk.proofs.Claims.{claims_lookup}
use Rattle.sd_desk.proofs.desk.Desk.is_purged.Goals as goal

pub returns-in-Some : goal.returns-in-Some
returns-in-Some c = ap tells_purged (c.in-Some.ensures.value
    ∙ sym (claims_lookup c.as_str.result.now c.self.inside.claims.entries)
    ∙ ap (λ (v : DeskView). claim_of v c.as_str.result.now) c.self.view_is
    ∙ ap (claim_of c.args.self.now) c.as_str.ensures.spelled)

pub returns-in-None : goal.returns-in-None
returns-in-None c = ap tells_purged (c.in-None.ensures.value
    ∙ sym (claims_lookup c.as_str.result.now c.self.inside.claims.entries)
    ∙ ap (λ (v : DeskView). claim_of v c.as_str.result.now) c.self.view_is
    ∙ ap (claim_of c.args.self.now) c.as_str.ensures.spelled)
