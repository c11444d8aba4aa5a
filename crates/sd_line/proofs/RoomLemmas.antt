-- What a drive answers if there is no memory for a volume that a label or an adoption brings.
use Rattle.std.proofs.Common.{◌≡◌, ◌≢◌, ℕ, ℤ, true, false, None, Some, Option, List, refl, inl, inr}
use Rattle.std.specs.Prelude.{is_some}
use Rattle.sd_base.specs.declared.refusal.Refusal.TheVariants.{OtherPoolOrMedia, InUse, AlreadyLabelled, Memory}
use Rattle.sd_drive.specs.Moves.{index_of}
use Rattle.sd_drive.specs.View.{DriveIs}
use Rattle.sd_driver.specs.Meaning.{Meaning}
use Rattle.sd_line.specs.Operates.{AnswersAlone, desk_of}
use Rattle.sd_line.proofs.ClaimLemmas.{is_claimed, same_desk, unclaimed}
use Rattle.sd_machine.specs.declared.event.Event.TheVariants.{Label, Adopt}
use Rattle.sd_machine.specs.declared.reply.Reply.TheVariants.{Refused}

-- whether a place is there
at_place : (o : Option ℕ) → is_some o ≡ true → (at : ℕ) × (o ≡ Some at)
at_place None is = absurd (cc is)
at_place (Some at) is = (at, refl)

no_place : (o : Option ℕ) → is_some o ≡ false → o ≡ None
no_place None is = refl
no_place (Some at) is = absurd (cc is)

some_place : (o : Option ℕ) → is_some o ≡ true → o ≢ None
some_place None is none = cc is
some_place (Some at) is none = cc none

module _ {D : Type 0} (meaning : D → Meaning) (d : DriveIs D) (name : List ℕ) where
  pub label_other : (media : List ℕ) → media ≢ d.media → (own : ℕ) (pool : List ℕ) (moment : ℤ)
      → AnswersAlone meaning own (Label own name pool media moment) (Refused OtherPoolOrMedia) d d
  label_other media apart own pool moment queue requests = (desk_of own d requests, None, inl (apart, refl, refl))

  pub label_loaded : (media : List ℕ) → media ≡ d.media → is_some d.loaded ≡ true → (own : ℕ) (pool : List ℕ) (moment : ℤ)
      → AnswersAlone meaning own (Label own name pool media moment) (Refused InUse) d d
  label_loaded media same in_ own pool moment queue requests = (desk_of own d requests, None, inr (inl (same, some_place d.loaded in_, refl, refl)))

  pub label_there : (media : List ℕ) → media ≡ d.media → is_some d.loaded ≡ false → is_some (index_of d.volumes name) ≡ true → (own : ℕ) (pool : List ℕ) (moment : ℤ)
      → AnswersAlone meaning own (Label own name pool media moment) (Refused AlreadyLabelled) d d
  label_there media same out there own pool moment queue requests =
      let at = at_place (index_of d.volumes name) there in
      (desk_of own d requests, None, inr (inr (inl (same, no_place d.loaded out, is_claimed own d requests name at.0 at.1, refl, refl))))

  pub label_memory : (media : List ℕ) → media ≡ d.media → is_some d.loaded ≡ false → is_some (index_of d.volumes name) ≡ false → (own : ℕ) (pool : List ℕ) (moment : ℤ)
      → AnswersAlone meaning own (Label own name pool media moment) (Refused Memory) d d
  label_memory media same out apart own pool moment queue requests =
      let desk = desk_of own d requests in
      (desk, None, inr (inr (inr (inl (same, no_place d.loaded out, unclaimed own d requests name (no_place (index_of d.volumes name) apart), refl, (same_desk desk, refl))))))

  pub adopt_there : is_some (index_of d.volumes name) ≡ true → (own : ℕ) → AnswersAlone meaning own (Adopt own name) (Refused AlreadyLabelled) d d
  adopt_there there own queue requests =
      let at = at_place (index_of d.volumes name) there in
      (desk_of own d requests, None, inl (is_claimed own d requests name at.0 at.1, refl, refl))

  pub adopt_loaded : is_some (index_of d.volumes name) ≡ false → is_some d.loaded ≡ true → (own : ℕ) → AnswersAlone meaning own (Adopt own name) (Refused InUse) d d
  adopt_loaded apart in_ own queue requests =
      (desk_of own d requests, None, inr (inl (unclaimed own d requests name (no_place (index_of d.volumes name) apart), some_place d.loaded in_, refl, refl)))

  pub adopt_memory : is_some (index_of d.volumes name) ≡ false → is_some d.loaded ≡ false → (own : ℕ) → AnswersAlone meaning own (Adopt own name) (Refused Memory) d d
  adopt_memory apart out own queue requests =
      let desk = desk_of own d requests in
      (desk, None, inr (inr (inl (unclaimed own d requests name (no_place (index_of d.volumes name) apart), no_place d.loaded out, refl, (same_desk desk, refl)))))
