-- What the getters of the matches answer, by the matches.
use Rattle.std.proofs.Common.{◌≡◌, ◌∙◌, ℕ, Bool, true, false, refl, sym, ap, subst, is_some, IsSome, List, Option, Some, None, option_map, Result, Ok, Err, codes, map}
use Rattle.std.specs.Borrow.{Bor}
use Rattle.std.specs.Option.{unwrap_or}
use Rattle.std.specs.Str.Parse.{ParsesUnsigned}
use Rattle.clap.specs.Matches.{ReadsOne, first_value, matched_of, one_text, raw_values}
use Rattle.clap.specs.Walk.{Text, all_of, first_of, one_of, rows_of}
use Rattle.clap.specs.declared.parser.matches.Found.{Found}
use Rattle.clap.proofs.CallerLemmas.{some_of_text}
use Rattle.clap.proofs.WalkLemmas.{first_value-rows, one_text-rows, raw_values-rows}
use Rattle.sd_arguments.specs.Lines.{IsCountOf, IsFlagOf}

-- the text for an argument
pub text_is : (f : Found) (id : Text) (o : Option (Bor Text)) (r : Bor Text) → option_map (λ s. s.now) o ≡ first_value f id → o ≡ Some r
    → first_of id (rows_of f) ≡ Some r.now
text_is f id o r value is = sym (first_value-rows f id) ∙ (sym value ∙ ap (option_map (λ s. s.now)) is)

-- the text for an argument, of which there may be none
pub word_is : (f : Found) (id : Text) (o : Option (Bor Text)) → option_map (λ s. s.now) o ≡ first_value f id → option_map (λ s. s.now) o ≡ first_of id (rows_of f)
word_is f id o value = value ∙ first_value-rows f id

-- a text that is given is there
pub text_there : (f : Found) (id : Text) (o : Option (Bor Text)) → option_map (λ s. s.now) o ≡ first_value f id → IsSome (first_of id (rows_of f)) → IsSome o
text_there f id o value there = some_of_text (λ s. s.now) o (first_value f id) value (ap is_some (first_value-rows f id) ∙ there)

-- all texts for an argument
pub texts_are : (f : Found) (id : Text) (o : Option (Bor (List (Bor Text)))) → option_map (λ s. map (λ v. v.now) s.now) o ≡ option_map raw_values (matched_of f id)
    → option_map (λ s. map (λ v. v.now) s.now) o ≡ all_of id (rows_of f)
texts_are f id o value = value ∙ raw_values-rows f id

module _ (E : Type 0) (G : Text → Result ℕ E → Type 0) (only : (u : Text) (x : Result ℕ E) → G u x → ParsesUnsigned 32 10 u x) where
  count_read : (text : Text) (r : Option ℕ) → ReadsOne G text r → IsCountOf (Some text) (unwrap_or r 0)
  count_read text (Some v) h = let p = only text (Ok v) h in ((λ spells. p.1), (λ none. absurd (none p.0)))
  count_read text None h = let p = only text (Err h.0) h.1 in ((λ spells. absurd (p spells)), (λ none. refl))

  count_in : (o : Option Text) (r : Option ℕ) → (o ≡ None → r ≡ None) → ((t : Text) → o ≡ Some t → ReadsOne G t r) → IsCountOf o (unwrap_or r 0)
  count_in None r none value = ap (λ x. unwrap_or x 0) (none refl)
  count_in (Some t) r none value = count_read t r (value t refl)

  -- the number for an argument
  pub count_is : (f : Found) (id : Text) (r : Option ℕ) (n : ℕ) → (one_text f id ≡ None → r ≡ None) → ((t : Text) → one_text f id ≡ Some t → ReadsOne G t r)
      → n ≡ unwrap_or r 0 → IsCountOf (one_of id (rows_of f)) n
  count_is f id r n none value is = rw is (subst (λ o. IsCountOf o (unwrap_or r 0)) (one_text-rows f id) (count_in (one_text f id) r none value))

flag_in : (o : Option Text) (b : Bool) → (o ≡ None → b ≡ false) → (o ≡ Some (codes "true") → b ≡ true) → (o ≡ Some (codes "false") → b ≡ false) → IsFlagOf o b
flag_in None b none up down = none refl
flag_in (Some t) b none up down = ((λ e. up (ap (λ x. Some x) e)), (λ e. down (ap (λ x. Some x) e)))

-- the flag for an argument
pub flag_is : (f : Found) (id : Text) (b : Bool) → (one_text f id ≡ None → b ≡ false) → (one_text f id ≡ Some (codes "true") → b ≡ true)
    → (one_text f id ≡ Some (codes "false") → b ≡ false) → IsFlagOf (one_of id (rows_of f)) b
flag_is f id b none up down = subst (λ o. IsFlagOf o b) (one_text-rows f id) (flag_in (one_text f id) b none up down)
