-- What is noted of the volumes of which a sync failed.
use Rattle.std.proofs.Common.{◌≡◌, ◌≢◌, ℕ, ◌+◌, ◌≤◌, inl, inr, Bool, true, false, List, [], ◌∷◌, ◌++◌, Option, Some, None, refl, ap, sym, ◌∙◌, subst, arith, if◌then◌else◌}
use Rattle.std.specs.Str.{bytes_eq}
use Rattle.std.proofs.lemmas.Slice.Eq.{bytes_eq-Decides}
use Rattle.sd_driver.proofs.Names.{name_cases}
use Rattle.sd_folder.specs.Meaning.{FileState, FolderMeaning}
use Rattle.sd_folder.specs.Steps.{Takes, MayMake}
use Rattle.sd_base.proofs.ChoiceLemmas.{same_some}
use Rattle.sd_filedrive.specs.declared.files.Torn.{Torn}
use Rattle.sd_filedrive.specs.Torn.{torn_at, noted_first, IsNoted, Covers}

not_both : {b : Bool} → b ≡ true → b ≡ false → ⊥
not_both t f = cc

-- of a name that a note is for, that note tells if it is the last one
pub noted_last : (torn : List Torn) (x : Torn) → torn_at (torn ++ x ∷ []) x.name ≡ Some x.synced
noted_last [] x = ap (λ b. if b then Some x.synced else None) (bytes_eq-refl x.name)
  where
    bytes_eq-refl : (name : List ℕ) → bytes_eq name name ≡ true
    bytes_eq-refl name = (bytes_eq-Decides name name).1 refl
noted_last (t ∷ rest) x = ap (noted_first t x.name) (noted_last rest x)

-- of any other name it tells nothing
pub noted_other : (torn : List Torn) (x : Torn) (name : List ℕ) → name ≢ x.name → torn_at (torn ++ x ∷ []) name ≡ torn_at torn name
noted_other [] x name differs = ap (λ b. if b then Some x.synced else None) (is_false (bytes_eq x.name name) refl)
  where
    is_false : (b : Bool) → bytes_eq x.name name ≡ b → bytes_eq x.name name ≡ false
    is_false false e = e
    is_false true e = absurd (differs (sym ((bytes_eq-Decides x.name name).0 e)))
noted_other (t ∷ rest) x name differs = ap (noted_first t name) (noted_other rest x name differs)

-- a file more, of which no sync failed
pub Covers-made : (torn : List Torn) (name : List ℕ) (a b : FolderMeaning) → MayMake name a b → Covers torn a → Covers torn b
Covers-made torn name a b may covers other state is t = elim (name_cases other name) [
  | inl e ↦ (let here : b.file name ≡ Some state = ap b.file (sym e) ∙ is in
      let P : List ℕ → Type 0 = λ n. IsNoted torn n state in subst P (sym e) (of here (a.file name) refl))
  | inr differs ↦ covers other state (sym (may.others other differs) ∙ is) t
]
  where
    of : b.file name ≡ Some state → (o : Option FileState) → a.file name ≡ o → IsNoted torn name state
    of here None e = absurd (not_both t (may.untorn state e here))
    of here (Some s) e = covers name state (e ∙ sym (may.there s e) ∙ here) t

-- a file that may be torn is noted
pub Covers-noted : (torn : List Torn) (x : Torn) (step : FileState → FileState → Type 0) (name : List ℕ) (a b : FolderMeaning)
    → x.name ≡ name → ((state : FileState) → b.file name ≡ Some state → x.synced ≤ state.written)
    → Takes step name a b → Covers torn a → Covers (torn ++ x ∷ []) b
Covers-noted torn x step name a b named within takes covers other state is t = elim (name_cases other name) [
  | inl e ↦ (let told : torn_at (torn ++ x ∷ []) other ≡ Some x.synced = ap (torn_at (torn ++ x ∷ [])) (e ∙ sym named) ∙ noted_last torn x in
      record {
        there = λ none. (let n = sym told ∙ none in cc);
        within = λ synced noted. (let same : x.synced ≡ synced = same_some (sym told ∙ noted) in
            omega (arith, same, within state (ap b.file (sym e) ∙ is)));
      })
  | inr differs ↦ (
      let old = covers other state (sym (takes.others other differs) ∙ is) t in
      let told : torn_at (torn ++ x ∷ []) other ≡ torn_at torn other = noted_other torn x other (λ e. differs (e ∙ named)) in
      record {
        there = λ none. old.there (sym told ∙ none);
        within = λ synced noted. old.within synced (sym told ∙ noted);
      })
]
