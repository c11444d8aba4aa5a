-- A body is one list of fragments: each says where it ends.
use Rattle.std.proofs.Common.{◌≡◌, ℕ, ◌+◌, ◌-◌, refl, sym, ap, ◌∙◌, arith, List, [], ◌∷◌, ◌++◌, drop, length, min}
use Rattle.std.specs.Prelude.{ℤ}
use Rattle.std.proofs.lemmas.List.{append_assoc, append-nil, length-append, length-drop, drop_all, drop_at}
use Rattle.sd_base.proofs.FieldLemmas.{length-u32_bytes, u32_apart, i32_apart, append_apart}
use Rattle.sd_record.specs.Fragment.{Fragment, fragment_bytes, fragments_bytes, IsFragment, GoesOn, FitTogether, StandsAt}

pub length-fragment_bytes : (f : Fragment) → length (fragment_bytes f) ≡ 12 + length f.part
length-fragment_bytes f =
    simp (length-append, length-u32_bytes) (omega arith)

-- the part ends where its size or the bytes do
pub part_until : (f : Fragment) (xs : List ℕ) → IsFragment f → (GoesOn f → xs ≡ []) → length f.part ≡ min f.size (length (f.part ++ xs))
part_until f [] fits last = simp (length-append) (let h = fits.part_within in omega arith)
part_until f (x ∷ xs) fits last =
    let whole : GoesOn f → ⊥ = (λ (g : GoesOn f). cc (last g)) in
    simp (length-append) (let h = fits.part_within in omega arith)

abbrev fragment_of : ℤ → ℤ → ℕ → List ℕ → Fragment
fragment_of i s n p = record { index = i; stream = s; size = n; part = p }

-- two fragments with the same four parts are one
same_parts : (f g : Fragment) → f.index ≡ g.index → f.stream ≡ g.stream → f.size ≡ g.size → f.part ≡ g.part → f ≡ g
same_parts f g i s n p =
    ap (λ x. fragment_of x f.stream f.size f.part) i ∙ ap (λ x. fragment_of g.index x f.size f.part) s
    ∙ ap (λ x. fragment_of g.index g.stream x f.part) n ∙ ap (λ x. fragment_of g.index g.stream g.size x) p

-- two fragments that begin the same bytes are one, if only the last goes on
pub fragment_apart : (f g : Fragment) (xs ys : List ℕ) → IsFragment f → IsFragment g
    → (GoesOn f → xs ≡ []) → (GoesOn g → ys ≡ []) → fragment_bytes f ++ xs ≡ fragment_bytes g ++ ys → (f ≡ g) × (xs ≡ ys)
fragment_apart f g xs ys f_fits g_fits f_last g_last e =
    let flat = simp append_assoc at e in
    let index = i32_apart f.index g.index _ _ f_fits.index_fits g_fits.index_fits flat in
    let stream = i32_apart f.stream g.stream _ _ f_fits.stream_fits g_fits.stream_fits index.1 in
    let size = u32_apart f.size g.size _ _ f_fits.size_fits g_fits.size_fits stream.1 in
    let long : length f.part ≡ length g.part =
    part_until f xs f_fits f_last ∙ ap (λ n. min n (length (f.part ++ xs))) size.0
    ∙ ap (λ l. min g.size (length l)) size.1 ∙ sym (part_until g ys g_fits g_last) in
    let part = append_apart f.part g.part xs ys long size.1 in
    (same_parts f g index.0 stream.0 size.0 part.0, part.1)

pub never_empty : (f : Fragment) (fs : List Fragment) → fragments_bytes (f ∷ fs) ≡ [] → ⊥
never_empty f fs e =
    let long : length (fragment_bytes f) + length (fragments_bytes fs) ≡ 0 =
    sym (length-append (fragment_bytes f) (fragments_bytes fs)) ∙ ap length e in
    omega (arith, length-fragment_bytes f)

-- so a body is one list of fragments
pub fragments_apart : (fs gs : List Fragment) → FitTogether fs → FitTogether gs → fragments_bytes fs ≡ fragments_bytes gs → fs ≡ gs
fragments_apart [] [] fits fits' e = refl
fragments_apart [] (g ∷ gs) fits fits' e = absurd (never_empty g gs (sym e))
fragments_apart (f ∷ fs) [] fits fits' e = absurd (never_empty f fs e)
fragments_apart (f ∷ fs) (g ∷ gs) fits fits' e =
    let first = fragment_apart f g (fragments_bytes fs) (fragments_bytes gs) fits.0 fits'.0 (λ more. ap fragments_bytes (fits.1 more)) (λ more. ap fragments_bytes (fits'.1 more)) e in
    ap (λ l. l ∷ fs) first.0 ∙ ap (λ l. g ∷ l) (fragments_apart fs gs fits.2 fits'.2 first.1)

-- a fragment that is written at the end of a body is there, if it is one
pub stands_last : (body old : List ℕ) (f : Fragment) → body ≡ old ++ fragment_bytes f → IsFragment f → StandsAt body (length old) f (length body)
stands_last body old f e fits =
    let long : length body ≡ length old + (12 + length f.part) =
    ap length e ∙ length-append old (fragment_bytes f) ∙ ap (λ n. length old + n) (length-fragment_bytes f) in
    let none : drop (length body) body ≡ [] = drop_all (length body) body (omega arith) in
    record {
      bytes_there = ap (drop (length old)) e ∙ drop_at old (fragment_bytes f) (length old) refl ∙ sym (ap (λ l. fragment_bytes f ++ l) none ∙ append-nil (fragment_bytes f));
      part_length = let within = fits.part_within in omega arith;
      next_is = omega arith;
      fragment = fits;
    }

-- what the reader says is at a place is what is there
pub stands_apart : (body rest : List ℕ) (at next : ℕ) (f g : Fragment) → StandsAt body at f next → IsFragment g
    → (GoesOn g → rest ≡ []) → drop at body ≡ fragment_bytes g ++ rest → f ≡ g
stands_apart body rest at next f g stands g_fits g_last there =
    let long : length body - at ≡ 12 + length f.part + (length body - next) =
    sym (length-drop at body) ∙ ap length stands.bytes_there ∙ length-append (fragment_bytes f) (drop next body)
    ∙ ap (λ n. n + length (drop next body)) (length-fragment_bytes f) ∙ ap (λ n. 12 + length f.part + n) (length-drop next body) in
    let last : GoesOn f → drop next body ≡ [] = (λ (more : GoesOn f).
    let h = stands.part_length in let n = stands.next_is in drop_all next body (omega arith)) in
    (fragment_apart f g (drop next body) rest stands.fragment g_fits last g_last (sym stands.bytes_there ∙ there)).0
