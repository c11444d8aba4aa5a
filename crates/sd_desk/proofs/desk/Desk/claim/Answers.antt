use Rattle.std.proofs.Common.{◌≡◌, ◌≢◌, ℕ, List, Some, OnOk, sym, ap, ◌∙◌, arith}
use Rattle.std.proofs.lemmas.Map.Text.{text_keys}
use Rattle.std.specs.BTreeMap.{get_by_text}
use Rattle.sd_desk.specs.Desk.{DeskView, claim_of, new_claim}
use Rattle.sd_desk.proofs.Claims.{claims_lookup, on_ok}
use Rattle.sd_desk.proofs.desk.Desk.claim.Goals as goal

pub returns-clause-claimed : goal.returns-clause-claimed
returns-clause-claimed c =
    let text : OnOk c.match-insert.result (get_by_text c.insert.new.self c.args.name.now ≡ Some (new_claim c.args.drive)) =
    grind (arith, text_keys) in
    on_ok c.match-insert.result (λ is. claims_lookup c.args.name.now c.insert.new.self.entries ∙ is) text

pub returns-clause-others : goal.returns-clause-others
returns-clause-others c =
    let text : OnOk c.match-insert.result ((other : List ℕ) → other ≢ c.args.name.now
    → get_by_text c.insert.new.self other ≡ get_by_text c.self.inside.claims other) = grind (arith, text_keys) in
    on_ok c.match-insert.result (λ same other differs.
    claims_lookup other c.insert.new.self.entries ∙ same other differs
    ∙ sym (claims_lookup other c.self.inside.claims.entries) ∙ ap (λ (v : DeskView). claim_of v other) c.self.view_is) text
