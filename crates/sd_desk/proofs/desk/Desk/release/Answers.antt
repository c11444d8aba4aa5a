use Rattle.std.proofs.Common.{◌≡◌, None, sym, ap, ◌∙◌, arith}
use Rattle.std.proofs.lemmas.Map.Text.{text_keys}
use Rattle.std.specs.BTreeMap.{get_by_text}
use Rattle.sd_desk.specs.Desk.{DeskView, claim_of}
use Rattle.sd_desk.proofs.Claims.{claims_lookup}
use Rattle.sd_desk.proofs.desk.Desk.release.Goals as goal

pub returns-clause-released : goal.returns-clause-released
returns-clause-released c =
    let text : get_by_text c.remove.new.self c.args.name.now ≡ None = grind (arith, text_keys) in
    claims_lookup c.args.name.now c.remove.new.self.entries ∙ text

pub returns-clause-others : goal.returns-clause-others
returns-clause-others c other differs =
    let text : get_by_text c.remove.new.self other ≡ get_by_text c.self.inside.claims other = grind (arith, text_keys) in
    claims_lookup other c.remove.new.self.entries ∙ text
    ∙ sym (claims_lookup other c.self.inside.claims.entries) ∙ ap (λ (v : DeskView). claim_of v other) c.self.view_is
