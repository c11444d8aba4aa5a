-- A session has fewer bodies than a count of 64 bits can say: two neighbours among them have nearly a block's bytes.
use Rattle.std.proofs.Common.{◌≡◌, ◌⊎◌, inl, inr, ℕ, ◌+◌, ◌*◌, ◌^◌, ◌<◌, ◌≤◌, ap, ◌∙◌, arith, List, [], ◌∷◌, ◌++◌, length, drop}
use Rattle.std.specs.Prelude.{ℤ, pos, zero, suc}
use Rattle.std.proofs.lemmas.List.{length-append, length-map}
use Rattle.std.proofs.lemmas.Grind.{flat_map-append}
use Rattle.std.proofs.lemmas.List.Sums.{sum_by-append}
use Rattle.sd_base.specs.Record.{Record}
use Rattle.sd_record.specs.Fragment.{Fragment, fragment_bytes, fragments_bytes, Continue, Fragments, FragmentsOfAll}
use Rattle.sd_record.proofs.FragmentLemmas.{length-fragment_bytes}
use Rattle.sd_label.specs.Label.{session_label_fragment}
use Rattle.sd_label.specs.Cutting.{Standing, Between, Within, AtEnd, Behind, BeginsWithLongLabel, IsSession, joined, LastGoesOn, IsFilled, AreTight, total_bytes}
use Rattle.sd_label.proofs.LabelLemmas.{length-session_label_bytes-le}
use Rattle.sd_pack.specs.Body.{PackedBody, body_of}
use Rattle.sd_pack.specs.Packing.{Packs}
use Rattle.sd_pack.proofs.BodyLemmas.{some_length}

-- how many bytes fragments have
abbrev size_of : List Fragment → ℕ
size_of fs = length (fragments_bytes fs)

size_of-append : (fs gs : List Fragment) → size_of (fs ++ gs) ≡ size_of fs + size_of gs
size_of-append fs gs = ap length (flat_map-append fragment_bytes fs gs) ∙ length-append (fragments_bytes fs) (fragments_bytes gs)

size_of-more : (f : Fragment) (fs : List Fragment) → size_of (f ∷ fs) ≡ 12 + length f.part + size_of fs
size_of-more f fs = length-append (fragment_bytes f) (fragments_bytes fs) ∙ ap (λ n. n + size_of fs) (length-fragment_bytes f)

-- the fragments of data that go on: none is empty
continue_size : (index stream : ℤ) (left : List ℕ) (fs : List Fragment) → Continue index stream left fs → size_of fs ≤ 13 * length left
continue_size index stream left [] c = omega arith
continue_size index stream left (f ∷ fs) c =
    let long = ap length c.0.part_first ∙ length-append f.part (drop (length f.part) left) in
    let some = some_length f.part c.1 in
    let rest = continue_size index stream (drop (length f.part) left) fs c.2 in
    let size = size_of-more f fs in
    omega arith

record_size : (r : Record) (fs : List Fragment) → Fragments r fs → size_of fs ≤ 12 + 13 * length r.bytes
record_size r [] c = absurd c
record_size r (f ∷ fs) c =
    let long = ap length c.0.part_first ∙ length-append f.part (drop (length f.part) r.bytes) in
    let rest = continue_size (pos r.index) (pos r.stream) (drop (length f.part) r.bytes) fs c.1 in
    let size = size_of-more f fs in
    omega arith

total_bytes-one : (r : Record) → total_bytes (r ∷ []) ≡ length r.bytes
total_bytes-one r = omega arith

total_bytes-more : (r : Record) (rs : List Record) → total_bytes (r ∷ rs) ≡ length r.bytes + total_bytes rs
total_bytes-more r rs = sum_by-append (λ (x : Record). length x.bytes) (r ∷ []) rs ∙ ap (λ n. n + total_bytes rs) (total_bytes-one r)

pub total_bytes-push : (rs : List Record) (r : Record) → total_bytes (rs ++ r ∷ []) ≡ total_bytes rs + length r.bytes
total_bytes-push rs r = sum_by-append (λ (x : Record). length x.bytes) rs (r ∷ []) ∙ ap (λ n. total_bytes rs + n) (total_bytes-one r)

records_size : (rs : List Record) (fs : List Fragment) → FragmentsOfAll rs fs → size_of fs ≤ 12 * length rs + 13 * total_bytes rs
records_size [] fs c = let none : size_of fs ≡ 0 = ap size_of c in omega arith
records_size (r ∷ rs) fs c =
    let size = ap size_of c.2 ∙ size_of-append c.0 c.1 in
    let first = record_size r c.0 c.3 in
    let rest = records_size rs c.1 c.4 in
    let total = total_bytes-more r rs in
    omega arith

behind_size : (records : List Record) (standing : Standing) (fs : List Fragment) → (standing ≡ Between) ⊎ (standing ≡ AtEnd) → Behind records standing fs → size_of fs ≤ 316
behind_size records Between fs how behind = let none : size_of fs ≡ 0 = ap size_of behind in omega arith
behind_size records AtEnd fs how behind =
    let most = length-session_label_bytes-le behind.0 behind.1.label_is in
    let one : size_of fs ≡ length (fragment_bytes (session_label_fragment behind.0)) + 0 = ap size_of behind.2 ∙ length-append (fragment_bytes (session_label_fragment behind.0)) [] in
    omega arith
behind_size records Within fs (inl e) behind = absurd (cc e)
behind_size records Within fs (inr e) behind = absurd (cc e)

session_size : (fs : List Fragment) (records : List Record) (standing : Standing) → (standing ≡ Between) ⊎ (standing ≡ AtEnd) → IsSession fs records standing
    → size_of fs ≤ 632 + (12 * length records + 13 * total_bytes records)
session_size fs records standing how s =
    let whole = ap size_of s.order ∙ length-append (fragment_bytes (session_label_fragment s.start)) (fragments_bytes (s.parts ++ s.behind)) in
    let split = size_of-append s.parts s.behind in
    let start = length-session_label_bytes-le s.start s.start_is.label_is in
    let parts = records_size records s.parts s.parts_are in
    let behind = behind_size records standing s.behind how s.behind_is in
    omega arith

-- Neighbours.

less_step : (m n : ℕ) → (m < n) ⊎ (m < n → ⊥) → (suc m < suc n) ⊎ (suc m < suc n → ⊥)
less_step m n (inl h) = inl (omega arith)
less_step m n (inr h) = inr (λ k. h (omega arith))

less_or_not : (m n : ℕ) → (m < n) ⊎ (m < n → ⊥)
less_or_not zero zero = inr (λ h. omega arith)
less_or_not zero (suc n) = inl (omega arith)
less_or_not (suc m) zero = inr (λ h. omega arith)
less_or_not (suc m) (suc n) = less_step m n (less_or_not m n)

decide_last : (fs : List Fragment) → LastGoesOn fs ⊎ (LastGoesOn fs → ⊥)
decide_last [] = inr (λ more. more)
decide_last (f ∷ []) = less_or_not (length f.part) f.size
decide_last (f ∷ g ∷ fs) = decide_last (g ∷ fs)

first_size : (f : Fragment) (fs : List Fragment) → length (fragment_bytes f) ≤ size_of (f ∷ fs)
first_size f fs = let size = length-append (fragment_bytes f) (fragments_bytes fs) in omega arith

closed_size : (room : ℕ) (fs gs : List Fragment) → 1000 ≤ room → (room < size_of fs + 12) ⊎ BeginsWithLongLabel room (size_of fs) gs → 989 ≤ size_of fs + size_of gs
closed_size room fs gs least (inl short) = omega arith
closed_size room fs [] least (inr long) = absurd long
closed_size room fs (g ∷ gs) least (inr long) = let over = long.2 in let size = first_size g gs in omega arith

filled_size : (room : ℕ) (fs gs : List Fragment) → 1000 ≤ room → IsFilled room fs gs → LastGoesOn fs ⊎ (LastGoesOn fs → ⊥) → 989 ≤ size_of fs + size_of gs
filled_size room fs gs least filled (inl more) = let full = filled.going_on more in omega arith
filled_size room fs gs least filled (inr none) = closed_size room fs gs least (filled.else_closed none)

neighbours : (room : ℕ) (fs gs : List Fragment) → 1000 ≤ room → IsFilled room fs gs → 989 ≤ size_of fs + size_of gs
neighbours room fs gs least filled = filled_size room fs gs least filled (decide_last fs)

abbrev first_of : List (List Fragment) → ℕ
first_of [] = 0
first_of (fs ∷ rest) = size_of fs

tight_size : (room : ℕ) (fragments : List (List Fragment)) → 1000 ≤ room → AreTight room fragments → 989 * length fragments + first_of fragments ≤ 2 * size_of (joined fragments) + 989
tight_size room [] least tight = omega arith
tight_size room (fs ∷ []) least tight = let size = size_of-append fs [] in omega arith
tight_size room (fs ∷ gs ∷ rest) least tight =
    let size = size_of-append fs (joined (gs ∷ rest)) in
    let behind = tight_size room (gs ∷ rest) least tight.2 in
    let pair = neighbours room fs gs least tight.1 in
    omega arith

-- the bodies of a session can be counted
pub bodies_counted : (room : ℕ) (bodies : List PackedBody) (records : List Record) (standing : Standing) → (standing ≡ Between) ⊎ (standing ≡ AtEnd)
    → 1000 ≤ room → Packs room bodies records standing → length records < 2 ^ 64 → total_bytes records < 2 ^ 64 → length bodies < 2 ^ 64
bodies_counted room bodies records standing how least packs count bytes =
    let long = ap length packs.bodies_are ∙ length-map packs.fragments body_of in
    let size = session_size (joined packs.fragments) records standing how packs.holds_by.session_is in
    let tight = tight_size room packs.fragments least packs.tight in
    omega arith
