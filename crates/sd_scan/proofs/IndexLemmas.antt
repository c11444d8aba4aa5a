-- The FileIndexes of the fragments before a place of a body.
use Rattle.std.proofs.Common.{◌≡◌, ◌<◌, ℕ, ◌+◌, List, [], ◌∷◌, ◌++◌, length, take, drop, refl, sym, ap, ap₂, ◌∙◌, arith}
use Rattle.std.specs.Prelude.{Option, Some, None}
use Rattle.std.proofs.lemmas.List.{append_assoc, append-nil, take_at, drop_at, drop-drop, length-drop}
use Rattle.sd_base.specs.FileIndex.{first_nonzero}
use Rattle.sd_label.specs.Label.{IsSessionLabel, session_label_bytes, session_label_fragment}
use Rattle.sd_label.specs.declared.label.SessionLabel.{SessionLabel}
use Rattle.sd_label.proofs.LabelLemmas.{IsFragment-session_label}
use Rattle.sd_pack.specs.Body.{file_index, first_file_index, last_file_index}
use Rattle.sd_record.specs.Fragment.{Fragment, fragment_bytes, fragments_bytes, FitTogether, GoesOn, IsFragment}
use Rattle.sd_record.proofs.FragmentLemmas.{length-fragment_bytes}
use Rattle.sd_base.proofs.IndexLemmas.{first_nonzero-zero, first_nonzero_assoc}

first_push : (fs : List Fragment) (f : Fragment) → first_file_index (fs ++ f ∷ []) ≡ first_nonzero (first_file_index fs) (file_index f.index)
first_push [] f = first_nonzero-zero (file_index f.index)
first_push (g ∷ fs) f =
    ap (first_nonzero (file_index g.index)) (first_push fs f)
    ∙ sym (first_nonzero_assoc (file_index g.index) (first_file_index fs) (file_index f.index))

last_push : (fs : List Fragment) (f : Fragment) → last_file_index (fs ++ f ∷ []) ≡ first_nonzero (file_index f.index) (last_file_index fs)
last_push [] f = sym (first_nonzero-zero (file_index f.index))
last_push (g ∷ fs) f =
    ap (λ n. first_nonzero n (file_index g.index)) (last_push fs f)
    ∙ first_nonzero_assoc (file_index f.index) (last_file_index fs) (file_index g.index)

-- the body's fragments: those before a place, whose FileIndexes these are, and those from there on
pub record ReadTo (body : List ℕ) (at first last : ℕ) (fs : List Fragment) : Type 0 where
  pub front : List Fragment
  pub back : List Fragment
  pub all : fs ≡ front ++ back
  pub rest : drop at body ≡ fragments_bytes back
  pub fit : FitTogether back
  pub first_is : first ≡ first_file_index front
  pub last_is : last ≡ last_file_index front

-- whoever is asked for the fragment at a place answers one that is there
abbrev pub Finds : List ℕ → ℕ → Option (Fragment × ℕ) → Type 0
Finds body at answer =
    (g : Fragment) (rest : List ℕ) → IsFragment g → (GoesOn g → rest ≡ []) → drop at body ≡ fragment_bytes g ++ rest
    → answer ≡ Some (g, at + 12 + length g.part)

rest_nil : (f : Fragment) (fs : List Fragment) → (GoesOn f → fs ≡ []) → GoesOn f → fragments_bytes fs ≡ []
rest_nil f fs last goes = ap fragments_bytes (last goes)

same_found : (a b : Fragment × ℕ) → ◌≡◌ {A = Option (Fragment × ℕ)} (Some a) (Some b) → a ≡ b
same_found a b e = cc

pub read_more : (body : List ℕ) (at first last : ℕ) (fs : List Fragment) (f : Fragment) (next : ℕ) → ReadTo body at first last fs
    → Finds body at (Some (f, next)) → at < length body
    → ReadTo body next (first_nonzero first (file_index f.index)) (first_nonzero (file_index f.index) last) fs
read_more body at first last fs f next r finds below = more r.front r.back r.all r.rest r.fit r.first_is r.last_is
  where
    more : (front back : List Fragment) → fs ≡ front ++ back → drop at body ≡ fragments_bytes back → FitTogether back → first ≡ first_file_index front
        → last ≡ last_file_index front → ReadTo body next (first_nonzero first (file_index f.index)) (first_nonzero (file_index f.index) last) fs
    more front [] all rest fit first_is last_is =
        let none : length (drop at body) ≡ 0 = ap length rest in
        absurd (omega (arith, length-drop at body))
    more front (g ∷ gs) all rest fit first_is last_is =
        let same = same_found (f, next) (g, at + 12 + length g.part) (finds g (fragments_bytes gs) fit.0 (rest_nil g gs fit.1) rest) in
        let f_is : f ≡ g = ap (λ (p : Fragment × ℕ). p.0) same in
        let next_is : next ≡ at + 12 + length g.part = ap (λ (p : Fragment × ℕ). p.1) same in
        let long = length-fragment_bytes g in
        let behind : drop (12 + length g.part) (drop at body) ≡ fragments_bytes gs =
        ap (drop (12 + length g.part)) rest ∙ drop_at (fragment_bytes g) (fragments_bytes gs) (12 + length g.part) long in
        let place : at + (12 + length g.part) ≡ next = omega arith in
        record {
          front = front ++ g ∷ [];
          back = gs;
          all = all ∙ sym (append_assoc front (g ∷ []) gs);
          rest = ap (λ n. drop n body) (sym place) ∙ sym (drop-drop (12 + length g.part) at body) ∙ behind;
          fit = fit.2;
          first_is = ap₂ (λ (x : ℕ) (h : Fragment). first_nonzero x (file_index h.index)) first_is f_is ∙ sym (first_push front g);
          last_is = ap₂ (λ (x : ℕ) (h : Fragment). first_nonzero (file_index h.index) x) last_is f_is ∙ sym (last_push front g);
        }

pub never_some : (found : Fragment × ℕ) → ◌≡◌ {A = Option (Fragment × ℕ)} None (Some found) → ⊥
never_some found e = cc

-- if none is found, all were read
pub read_all : (body : List ℕ) (at first last : ℕ) (fs : List Fragment) (answer : Option (Fragment × ℕ)) → ReadTo body at first last fs
    → Finds body at answer → answer ≡ None → (first ≡ first_file_index fs) × (last ≡ last_file_index fs)
read_all body at first last fs answer r finds none = all r.front r.back r.all r.rest r.fit r.first_is r.last_is
  where
    all : (front back : List Fragment) → fs ≡ front ++ back → drop at body ≡ fragments_bytes back → FitTogether back → first ≡ first_file_index front
        → last ≡ last_file_index front → (first ≡ first_file_index fs) × (last ≡ last_file_index fs)
    all front [] are rest fit first_is last_is =
        let whole : front ≡ fs = sym (are ∙ append-nil front) in
        (first_is ∙ ap first_file_index whole, last_is ∙ ap last_file_index whole)
    all front (g ∷ gs) are rest fit first_is last_is =
        absurd (never_some (g, at + 12 + length g.part) (sym none ∙ finds g (fragments_bytes gs) fit.0 (rest_nil g gs fit.1) rest))

-- The start label that a body begins with.

-- if the body begins with a session label, its fragment is found first
pub label_first : (body behind : List ℕ) (label : SessionLabel) (answer : Option (Fragment × ℕ)) → Finds body 0 answer → IsSessionLabel label
    → body ≡ session_label_bytes label ++ behind → answer ≡ Some (session_label_fragment label, length (session_label_bytes label))
label_first body behind label answer finds is begins =
    let f = session_label_fragment label in
    finds f behind (IsFragment-session_label label is) (λ goes. absurd (omega arith)) begins
    ∙ ap (λ (n : ℕ). Some (f, n)) (sym (length-fragment_bytes f))

-- and its bytes are those in front of what comes after it
pub label_in_front : (body behind : List ℕ) (label : SessionLabel) (n : ℕ) → body ≡ session_label_bytes label ++ behind → n ≡ length (session_label_bytes label)
    → take n body ≡ session_label_bytes label
label_in_front body behind label n begins n_is = ap (take n) begins ∙ take_at (session_label_bytes label) behind n (sym n_is)

pub found_end : (a b : Fragment × ℕ) → ◌≡◌ {A = Option (Fragment × ℕ)} (Some a) (Some b) → a.1 ≡ b.1
found_end a b e = ap (λ (p : Fragment × ℕ). p.1) (same_found a b e)
