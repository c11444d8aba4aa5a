-- The fragments of a record give the record back.
use Rattle.std.proofs.Common.{◌≡◌, ◌≢◌, ℕ, zero, suc, ◌≤◌, refl, sym, ap, subst, ◌∙◌, arith, inl, inr, List, [], ◌∷◌, ◌++◌, drop, length}
use Rattle.std.specs.Prelude.{ℤ, pos, negsuc, neg_ℤ, FitsSigned}
use Rattle.std.specs.Int.{w32}
use Rattle.std.proofs.lemmas.List.{append_assoc, append-nil, length-append, nil_from_length, length-drop}
use Rattle.sd_base.specs.Record.{Record, IsRecord}
use Rattle.sd_base.specs.Limits.{most_number, most_data}
use Rattle.sd_record.specs.Fragment.{Fragment, IsFragment, IsZeroStream, BeginsData, Continue, Fragments, FragmentsOfAll}

-- two equal lists have the same first element and the same rest
pub first_same : {X : Type 0} (x y : X) (xs ys : List X) → x ∷ xs ≡ y ∷ ys → x ≡ y
first_same x y xs ys e = cc

pub rest_same : {X : Type 0} (x y : X) (xs ys : List X) → x ∷ xs ≡ y ∷ ys → xs ≡ ys
rest_same x y xs ys e = cc

pos_same : (m n : ℕ) → pos m ≡ pos n → m ≡ n
pos_same m n e = cc

same_record : (r s : Record) → r.index ≡ s.index → r.stream ≡ s.stream → r.bytes ≡ s.bytes → r ≡ s
same_record r s i t b =
    let record_of : ℕ → ℕ → List ℕ → Record = (λ i t b. record { index = i; stream = t; bytes = b }) in
    ap (λ x. record_of x r.stream r.bytes) i ∙ ap (λ x. record_of s.index x r.bytes) t ∙ ap (λ x. record_of s.index s.stream x) b

-- data of one length that begin with one part leave rests of one length
rests_long : (part left left' : List ℕ) → left ≡ part ++ drop (length part) left → left' ≡ part ++ drop (length part) left'
    → length left ≡ length left' → length (drop (length part) left) ≡ length (drop (length part) left')
rests_long part left left' e e' long =
    let one = ap length e ∙ length-append part (drop (length part) left) in
    let two = ap length e' ∙ length-append part (drop (length part) left') in
    omega arith

-- if nothing remains, there is no later fragment
none_remain : (f : Fragment) (index stream : ℤ) (left : List ℕ) → BeginsData f index stream left → f.part ≢ [] → length left ≡ 0 → ⊥
none_remain f index stream left begins some none =
    let whole = ap length begins.part_first ∙ length-append f.part (drop (length f.part) left) in
    some (nil_from_length f.part (omega arith))

-- later fragments that begin one list, for data of one length, are the same and carry the same data
continue_apart : (index stream : ℤ) (left left' : List ℕ) (fs gs xs ys : List Fragment) → Continue index stream left fs
    → Continue index stream left' gs → length left ≡ length left' → fs ++ xs ≡ gs ++ ys
    → (left ≡ left') × (fs ≡ gs) × (xs ≡ ys)
continue_apart index stream left left' [] [] xs ys c d long e = (c ∙ sym d, refl, e)
continue_apart index stream left left' [] (g ∷ gs) xs ys c d long e =
    absurd (none_remain g index (neg_ℤ stream) left' d.0 d.1 (sym long ∙ ap length c))
continue_apart index stream left left' (f ∷ fs) [] xs ys c d long e =
    absurd (none_remain f index (neg_ℤ stream) left c.0 c.1 (long ∙ ap length d))
continue_apart index stream left left' (f ∷ fs) (g ∷ gs) xs ys c d long e =
    let same = first_same f g (fs ++ xs) (gs ++ ys) e in
    let d_first : left' ≡ f.part ++ drop (length f.part) left' =
    subst (λ h. left' ≡ h.part ++ drop (length h.part) left') (sym same) d.0.part_first in
    let d_rest : Continue index stream (drop (length f.part) left') gs =
    subst (λ h. Continue index stream (drop (length h.part) left') gs) (sym same) d.2 in
    let ih = continue_apart index stream (drop (length f.part) left) (drop (length f.part) left') fs gs xs ys c.2 d_rest
    (rests_long f.part left left' c.0.part_first d_first long) (rest_same f g (fs ++ xs) (gs ++ ys) e) in
    (c.0.part_first ∙ ap (λ l. f.part ++ l) ih.0 ∙ sym d_first, ap (λ h. h ∷ fs) same ∙ ap (λ l. g ∷ l) ih.1, ih.2)

-- the fragments of two records that begin one list are of one record
pub fragments_of_one : (r s : Record) (fs gs xs ys : List Fragment) → Fragments r fs → Fragments s gs → fs ++ xs ≡ gs ++ ys
    → (r ≡ s) × (fs ≡ gs) × (xs ≡ ys)
fragments_of_one r s [] gs xs ys c d e = absurd c
fragments_of_one r s (f ∷ fs) [] xs ys c d e = absurd d
fragments_of_one r s (f ∷ fs) (g ∷ gs) xs ys c d e =
    let same = first_same f g (fs ++ xs) (gs ++ ys) e in
    let index : r.index ≡ s.index = pos_same _ _ (sym c.0.index_is ∙ ap (λ h. h.index) same ∙ d.0.index_is) in
    let stream : r.stream ≡ s.stream = pos_same _ _ (sym c.0.stream_is ∙ ap (λ h. h.stream) same ∙ d.0.stream_is) in
    let long : length r.bytes ≡ length s.bytes = sym c.0.size_is ∙ ap (λ h. h.size) same ∙ d.0.size_is in
    let d_first : s.bytes ≡ f.part ++ drop (length f.part) s.bytes =
    subst (λ h. s.bytes ≡ h.part ++ drop (length h.part) s.bytes) (sym same) d.0.part_first in
    let d_rest : Continue (pos r.index) (pos r.stream) (drop (length f.part) s.bytes) gs =
    subst (λ h. Continue (pos r.index) (pos r.stream) (drop (length h.part) s.bytes) gs) (sym same)
    (subst (λ n. Continue (pos n) (pos r.stream) (drop (length g.part) s.bytes) gs) (sym index)
    (subst (λ n. Continue (pos s.index) (pos n) (drop (length g.part) s.bytes) gs) (sym stream) d.1)) in
    let rest = continue_apart (pos r.index) (pos r.stream) (drop (length f.part) r.bytes) (drop (length f.part) s.bytes) fs gs xs ys c.1 d_rest
    (rests_long f.part r.bytes s.bytes c.0.part_first d_first long) (rest_same f g (fs ++ xs) (gs ++ ys) e) in (
      same_record r s index stream (c.0.part_first ∙ ap (λ l. f.part ++ l) rest.0 ∙ sym d_first),
      ap (λ h. h ∷ fs) same ∙ ap (λ l. g ∷ l) rest.1,
      rest.2,
    )

-- one record more
pub FragmentsOfAll-more : (rs : List Record) (r : Record) (fs gs : List Fragment) → FragmentsOfAll rs fs → Fragments r gs
    → FragmentsOfAll (rs ++ r ∷ []) (fs ++ gs)
FragmentsOfAll-more [] r fs gs c d = (gs, [], ap (λ l. l ++ gs) c ∙ sym (append-nil gs), d, refl)
FragmentsOfAll-more (s ∷ rs) r fs gs c d =
    (c.0, c.1 ++ gs, ap (λ l. l ++ gs) c.2 ∙ append_assoc c.0 c.1 gs, c.3, FragmentsOfAll-more rs r c.1 gs c.4 d)

-- Fragments of a record are fragments that a body may hold.

-- each of them is a fragment
abbrev pub AreFragments : List Fragment → Type 0
AreFragments [] = Unit {0}
AreFragments (f ∷ fs) = IsFragment f × AreFragments fs

pos_fits : (n : ℕ) → n ≤ most_number → FitsSigned w32 (pos n)
pos_fits n most = record { sfits = omega arith }

neg_fits : (n : ℕ) → n ≤ most_number → FitsSigned w32 (neg_ℤ (pos n))
neg_fits zero most = record { sfits = omega arith }
neg_fits (suc n) most = record { sfits = omega arith }

negsuc_same : (m n : ℕ) → negsuc m ≡ negsuc n → m ≡ n
negsuc_same m n e = cc

pos_named : (n : ℕ) → 1 ≤ n → n ≤ most_number → IsZeroStream (pos n) → ⊥
pos_named n least most unnamed = elim unnamed [ inl e ↦ (let none = pos_same n 0 e in omega arith) | inr e ↦ cc e ]

neg_named : (n : ℕ) → 1 ≤ n → n ≤ most_number → IsZeroStream (neg_ℤ (pos n)) → ⊥
neg_named zero least most unnamed = absurd (omega arith)
neg_named (suc n) least most unnamed = elim unnamed [ inl e ↦ cc e | inr e ↦ (let least = negsuc_same n _ e in omega arith) ]

-- a header's numbers fit their fields, and a part is no longer than its header says
begins_fragment : (f : Fragment) (index stream : ℤ) (left : List ℕ) → BeginsData f index stream left → FitsSigned w32 index
    → FitsSigned w32 stream → (IsZeroStream stream → ⊥) → length left ≤ most_data → IsFragment f
begins_fragment f index stream left begins fits_i fits_s named most = record {
  index_fits = subst (FitsSigned w32) (sym begins.index_is) fits_i;
  stream_fits = subst (FitsSigned w32) (sym begins.stream_is) fits_s;
  stream_named = (λ unnamed. named (subst IsZeroStream begins.stream_is unnamed));
  size_fits = let size = begins.size_is in omega arith;
  part_within = let size = begins.size_is in let whole = ap length begins.part_first ∙ length-append f.part (drop (length f.part) left) in omega arith;
}

continue_fragments : (index stream : ℤ) (left : List ℕ) (fs : List Fragment) → FitsSigned w32 index → FitsSigned w32 (neg_ℤ stream)
    → (IsZeroStream (neg_ℤ stream) → ⊥) → length left ≤ most_data → Continue index stream left fs → AreFragments fs
continue_fragments index stream left [] fits_i fits_s named most c = tt
continue_fragments index stream left (f ∷ fs) fits_i fits_s named most c = (
  begins_fragment f index (neg_ℤ stream) left c.0 fits_i fits_s named most,
  continue_fragments index stream (drop (length f.part) left) fs fits_i fits_s named (omega (arith, length-drop (length f.part) left)) c.2,
)

pub record_fragments : (r : Record) (fs : List Fragment) → IsRecord r → Fragments r fs → AreFragments fs
record_fragments r [] is c = absurd c
record_fragments r (f ∷ fs) is c = (
  begins_fragment f (pos r.index) (pos r.stream) r.bytes c.0 (pos_fits r.index is.index_most) (pos_fits r.stream is.stream_most)
      (pos_named r.stream is.stream_least is.stream_most) is.data_most,
  continue_fragments (pos r.index) (pos r.stream) (drop (length f.part) r.bytes) fs (pos_fits r.index is.index_most) (neg_fits r.stream is.stream_most)
      (neg_named r.stream is.stream_least is.stream_most) (let most = is.data_most in omega (arith, length-drop (length f.part) r.bytes)) c.1,
)

pub AreFragments-back : (fs gs : List Fragment) → AreFragments (fs ++ gs) → AreFragments gs
AreFragments-back [] gs are = are
AreFragments-back (f ∷ fs) gs are = AreFragments-back fs gs are.1
