use Rattle.std.proofs.Common.{◌≡◌, rules, sym, ap, ◌∙◌}
use Rattle.std.specs.Option.{option_copied, option_map}
use Rattle.sd_desk.specs.declared.claim.Claim.{Claim}
use Rattle.sd_desk.specs.Desk.{DeskView, claim_of}
use Rattle.sd_desk.proofs.Claims.{claims_lookup}
use Rattle.sd_desk.proofs.desk.Desk.drive_of.Goals as goal

pub returns : goal.returns
returns c =
    let read : c.map.result ≡ option_map (λ (k : Claim). k.drive) (option_copied c.get.result) = search rules in
    read ∙ ap (option_map (λ (k : Claim). k.drive)) (c.get.ensures.value
    ∙ sym (claims_lookup c.as_str.result.now c.self.inside.claims.entries)
    ∙ ap (λ (v : DeskView). claim_of v c.as_str.result.now) c.self.view_is
    ∙ ap (claim_of c.args.self.now) c.as_str.ensures.spelled)
