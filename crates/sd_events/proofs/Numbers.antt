-- Where a session is among those whose numbers rise.
use Rattle.std.proofs.Common.{◌≡◌, ◌≢◌, ◌⊎◌, ℕ, zero, suc, ◌+◌, ◌<◌, ◌≤◌, ltb, true, false, sym, ap, subst, ◌∙◌, inl, inr, Some, None, List, [], ◌∷◌, length, get_or, slice_get, arith}
use Rattle.std.proofs.lemmas.Bool.Decides.{eqb_tells, leb_tells}
use Rattle.std.proofs.lemmas.Bool.{ltb-true, ltb-false}
use Rattle.std.proofs.lemmas.Option.{get_or_from_slice_get, slice_get-get_or, slice_get_within}
use Rattle.std.specs.List.Sorted.{IsNonDecreasingBy, IsPartitionPoint}
use Rattle.sd_world.specs.World.{WorldSession, session_at}
use Rattle.sd_world.specs.Rules.{NumbersRise}
use Rattle.sd_world.proofs.Lookups.{number_least, found_by_number, changed_by_number, none_found}
use Rattle.sd_events.specs.Found.{IsFoundAt}

-- the number of a session
abbrev pub number_of : WorldSession → ℕ
number_of e = e.session.key.id

-- a later session has the greater number
pub later_rises : (time least next : ℕ) (es : List WorldSession) (at behind : ℕ) (e f : WorldSession)
    → NumbersRise time least next es → at < behind → slice_get es at ≡ Some e → slice_get es behind ≡ Some f → number_of e < number_of f
later_rises time least next [] at behind e f rise below there then = absurd (cc there)
later_rises time least next (x ∷ es) zero zero e f rise below there then = absurd (omega (arith, below))
later_rises time least next (x ∷ es) zero (suc behind) e f rise below there then =
    let is : x ≡ e = cc there in
    let later : number_of x + 1 ≤ number_of f = number_least time (number_of x + 1) next es behind f rise.2 then in
    subst (λ (z : WorldSession). number_of z < number_of f) is (omega arith)
later_rises time least next (x ∷ es) (suc at) zero e f rise below there then = absurd (omega (arith, below))
later_rises time least next (x ∷ es) (suc at) (suc behind) e f rise below there then =
    later_rises time (number_of x + 1) next es at behind e f rise.2 (omega (arith, below)) there then

-- numbers that rise do not fall
pub never_fall : (time least next : ℕ) (es : List WorldSession) → NumbersRise time least next es → IsNonDecreasingBy number_of es
never_fall time least next es rise i j d below within =
    elim (eqb_tells i j) [
      | inl p ↦ subst (λ k. number_of (get_or es i d) ≤ number_of (get_or es k d)) p.1 (omega arith)
      | inr p ↦
          let differs : i ≢ j = p.1 in
          let less : number_of (get_or es i d) < number_of (get_or es j d) =
          later_rises time least next es i j (get_or es i d) (get_or es j d) rise (omega arith)
          (slice_get-get_or es i d (omega arith)) (slice_get-get_or es j d within) in
          omega arith
    ]

-- where the session of a ticket is, it is found and changed
pub found_at : (time next : ℕ) (es : List WorldSession) (at ticket : ℕ) (e : WorldSession)
    → NumbersRise time 1 next es → slice_get es at ≡ Some e → number_of e ≡ ticket → IsFoundAt ticket es at
found_at time next es at ticket e rise there is =
    record {
      e = e;
      there = there;
      found = subst (λ n. session_at n es ≡ Some e) is (found_by_number time 1 next es at e rise there);
      id_is = is;
      changes = λ new same. changed_by_number time 1 next es at e new rise there (same ∙ sym is);
    }

-- A place at which the numbers below the ticket end; what is there, if anything is, isn't of the ticket: no session has
-- it.
pub missing : (time next ticket : ℕ) (es : List WorldSession) (place : ℕ) → NumbersRise time 1 next es
    → IsPartitionPoint (λ e. ltb (number_of e) ticket ≡ true) (λ e. ltb (number_of e) ticket ≡ false) es place
    → ((length es ≤ place) ⊎ ((e : WorldSession) × (slice_get es place ≡ Some e) × (number_of e ≢ ticket)))
    → session_at ticket es ≡ None
missing time next ticket es place rise point here = none_found ticket es (λ at e there same.
    let within : at < length es = slice_get_within es at e there in
    let stands : get_or es at e ≡ e = get_or_from_slice_get es at e e there in
    elim (leb_tells place at) [
      | inr before ↦
          let below : ltb (number_of e) ticket ≡ true = subst (λ (z : WorldSession). ltb (number_of z) ticket ≡ true) stands (point.0 at e (omega arith) before.1) in
          absurd (omega (arith, ltb-true (number_of e) ticket below))
      | inl behind ↦ elim here [
        | inl past ↦ absurd (omega (arith, behind.1))
        | inr that ↦
            elim (leb_tells at place) [
              | inl not_behind ↦
                  let one : at ≡ place = omega (arith, behind.1, not_behind.1) in
                  let both : Some e ≡ Some that.0 = sym there ∙ ap (slice_get es) one ∙ that.1 in
                  that.2 (ap number_of (sym (let is : e ≡ that.0 = cc in is)) ∙ same)
              | inr later ↦
                  let rose : number_of that.0 < number_of e = later_rises time 1 next es place at that.0 e rise later.1 that.1 there in
                  let stood : get_or es place that.0 ≡ that.0 = get_or_from_slice_get es place that.0 that.0 that.1 in
                  let up : ltb (number_of that.0) ticket ≡ false = subst (λ (z : WorldSession). ltb (number_of z) ticket ≡ false) stood (point.1 place that.0 (omega arith) (slice_get_within es place that.0 that.1)) in
                  absurd (omega (arith, ltb-false (number_of that.0) ticket up))
            ]
      ]
    ])
