-- What the tests of a session say.
use Rattle.std.proofs.Common.{◌≡◌, ◌≢◌, ◌⊎◌, ℕ, Bool, true, false, not, refl, sym, ◌∙◌, inl, inr, List}
use Rattle.std.specs.Prelude.{IsTrue, ◌↔◌}
use Rattle.std.proofs.lemmas.Bool.{cases_eq, false≢true}
use Rattle.sd_journal.specs.Journal.{Entry, placed_of, synced_of}
use Rattle.sd_line.specs.Ends.{ToldSession}
use Rattle.sd_session.specs.declared.status.Status.TheVariants.{Closed}
use Rattle.sd_hub.specs.Settles.{IsUnsettled}

-- if not both of two numbers are this one, one of them is another
short_by : (placed synced sent : ℕ) (b : Bool) → (IsTrue b ↔ ((placed ≡ sent) × (synced ≡ sent))) → IsTrue (not b) ↔ ((placed ≢ sent) ⊎ (synced ≢ sent))
short_by placed synced sent true all = (λ (e : false ≡ true). absurd (false≢true e), λ short. absurd (elim short [ inl p ↦ p (all.0 refl).0 | inr s ↦ s (all.0 refl).1 ]))
short_by placed synced sent false all = (
  λ e. elim (cases_eq placed sent) [ inl p ↦ inr (λ s. false≢true (all.1 (p, s))) | inr p ↦ inl p ],
  λ short. refl,
)

pub closed_unsettled : (journal : List Entry) (s : ToldSession) (placed synced sent : ℕ) (b : Bool) → Closed ≡ s.session.status → placed ≡ placed_of s.session.key journal
    → synced ≡ synced_of s.session.key journal → sent ≡ s.session.sent → (IsTrue b ↔ ((placed ≡ sent) × (synced ≡ sent))) → IsTrue (not b) ↔ IsUnsettled journal s
closed_unsettled journal s placed synced sent b closed p y n all =
    let short = short_by placed synced sent b all in (
      λ e. (sym closed, elim (short.0 e) [ inl h ↦ inl (λ x. h (p ∙ x ∙ sym n)) | inr h ↦ inr (λ x. h (y ∙ x ∙ sym n)) ]),
      λ (u : IsUnsettled journal s). short.1 (elim u.1 [ inl h ↦ inl (λ x. h (sym p ∙ x ∙ n)) | inr h ↦ inr (λ x. h (sym y ∙ x ∙ n)) ]),
    )
