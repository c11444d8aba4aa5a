use Rattle.std.proofs.Common.{◌≡◌, IsSome, refl, sym, ap, subst, ◌∙◌}
use Rattle.std.specs.BTreeMap.{get_by_text}
use Rattle.std.specs.Option.{option_map}
use Rattle.sd_desk.specs.Desk.{DeskView, claim_of, purged_claim}
use Rattle.sd_desk.specs.contracts.desk.Desk.{the_view}
use Rattle.sd_desk.specs.declared.desk.Desk.TheInside.{Inside}
use Rattle.sd_desk.proofs.Claims.{claims_lookup, same_claims, others_stay}
use Rattle.sd_desk.proofs.desk.Desk.purged.Goals.{in-Some, in_default}
use Rattle.sd_desk.proofs.desk.Desk.purged.Goals as goal

pub returns-clause-noted : goal.returns-clause-noted
returns-clause-noted c =
    let claims = c.self.inside.claims in
    let name = c.args.name.now in
    let text = c.as_str.result.now in
    let was : get_by_text claims text ≡ claim_of c.args.self.now name =
    sym (claims_lookup text claims.entries) ∙ ap (λ (v : DeskView). claim_of v text) c.self.view_is
    ∙ ap (claim_of c.args.self.now) c.as_str.ensures.spelled in
    elim c.match-get_mut.branch [
      | in-Some w ↦
          let claim = purged_claim w.in-Some.claim.now in
          let after = c.get_mut.follows.lender claim in
          let updates = (c.get_mut.follows.holds claim).3 (subst IsSome w.in-Some.ensures.value refl) in
          ap (λ (d : Inside). claim_of (the_view d) name) w.self-inside-is
          ∙ claims_lookup name after.entries ∙ ap (get_by_text after) (sym c.as_str.ensures.spelled) ∙ updates.1
          ∙ ap (option_map purged_claim) (w.in-Some.ensures.value ∙ was)
      | in_default w ↦
          let none = w.in_default.ensures.value ∙ was in
          ap (λ (d : Inside). claim_of (the_view d) name) w.self-inside-is
          ∙ same_claims name claims c.get_mut.follows.lender-at-none c.get_mut.follows.holds-at-none
          ∙ ap (λ (v : DeskView). claim_of v name) c.self.view_is
          ∙ sym none ∙ ap (option_map purged_claim) none
    ]

pub returns-clause-others : goal.returns-clause-others
returns-clause-others c other differs =
    let claims = c.self.inside.claims in
    let text = c.as_str.result.now in
    elim c.match-get_mut.branch [
      | in-Some w ↦
          let claim = purged_claim w.in-Some.claim.now in
          let after = c.get_mut.follows.lender claim in
          let updates = (c.get_mut.follows.holds claim).3 (subst IsSome w.in-Some.ensures.value refl) in
          ap (λ (d : Inside). claim_of (the_view d) other) w.self-inside-is
          ∙ claims_lookup other after.entries
          ∙ others_stay text other claims after _ updates (λ same. differs (same ∙ c.as_str.ensures.spelled))
          ∙ sym (claims_lookup other claims.entries) ∙ ap (λ (v : DeskView). claim_of v other) c.self.view_is
      | in_default w ↦
          ap (λ (d : Inside). claim_of (the_view d) other) w.self-inside-is
          ∙ same_claims other claims c.get_mut.follows.lender-at-none c.get_mut.follows.holds-at-none
          ∙ ap (λ (v : DeskView). claim_of v other) c.self.view_is
    ]
