-- What a signal is by its number.
use Rattle.std.proofs.Common.{◌≡◌, ◌≢◌, ◌⊎◌, ℕ, ℤ, pos, negsuc, refl, sym, ap, ap₂, ◌∙◌, inl, inr, Bool, true, false, if◌then◌else◌, eqb-true, eq-eqb}
use Rattle.std.specs.Prelude.{◌==◌, ◌||◌}
use Rattle.std.proofs.lemmas.Bool.{true≢false}
use Rattle.sd_append.specs.TalkStage.{meaning_of}
use Rattle.sd_append.specs.declared.signal.Meaning.{Meaning}
use Rattle.sd_append.specs.declared.signal.Meaning.TheVariants.{EndOfData, Terminate, Poll, Other}
use Rattle.sd_append.specs.Phases.{is_heard}
use Rattle.sd_append.specs.Turns.{is_poll}

-- a signal that neither ends data nor the talk, and whether it is a poll
pub record IsMinor (number : ℤ) (polls : Bool) (meaning : Meaning) : Type 0 where
  pub unheard : is_heard number ≡ false
  pub goes_on : number ≢ negsuc 3
  pub polls_is : is_poll number ≡ polls
  pub meaning_is : meaning_of number ≡ meaning

-- the end of data, or the end of the talk, or neither
abbrev pub IsSignalOf : ℤ → Type 0
IsSignalOf number = (number ≡ negsuc 0) ⊎ (number ≡ negsuc 3) ⊎ IsMinor number true Poll ⊎ IsMinor number false Other

same_negative : (a b : ℕ) → negsuc a ≡ negsuc b → a ≡ b
same_negative a b e = cc

negative : (n : ℕ) (end stop polls : Bool) → (n == 0) ≡ end → (n == 3) ≡ stop → (n == 4 || n == 5) ≡ polls → IsSignalOf (negsuc n)
negative n true stop polls e f g = inl (ap negsuc (eqb-true n 0 e))
negative n false true polls e f g = inr (inl (ap negsuc (eqb-true n 3 f)))
negative n false false true e f g = inr (inr (inl (record {
  unheard = ap₂ (λ (a b : Bool). a || b) e f;
  goes_on = λ same. true≢false (sym (eq-eqb n 3 (same_negative n 3 same)) ∙ f);
  polls_is = g;
  meaning_is = ap₂ (λ (a b : Bool). if a then EndOfData else (if b then Terminate else (if n == 4 || n == 5 then Poll else Other))) e f
      ∙ ap (λ (c : Bool). if c then Poll else Other) g;
})))
negative n false false false e f g = inr (inr (inr (record {
  unheard = ap₂ (λ (a b : Bool). a || b) e f;
  goes_on = λ same. true≢false (sym (eq-eqb n 3 (same_negative n 3 same)) ∙ f);
  polls_is = g;
  meaning_is = ap₂ (λ (a b : Bool). if a then EndOfData else (if b then Terminate else (if n == 4 || n == 5 then Poll else Other))) e f
      ∙ ap (λ (c : Bool). if c then Poll else Other) g;
})))

pub signal_is : (number : ℤ) → IsSignalOf number
signal_is (pos n) = inr (inr (inr (record { unheard = refl; goes_on = λ same. absurd (cc same); polls_is = refl; meaning_is = refl })))
signal_is (negsuc n) = negative n (n == 0) (n == 3) (n == 4 || n == 5) refl refl refl
