-- Stretches with one block more, and after marks.
use Rattle.std.proofs.Common.{◌≡◌, ℕ, zero, suc, ◌+◌, ◌≤◌, ◌<◌, Bool, true, false, cond, List, [], ◌∷◌, ◌++◌, length, map, take, drop, get_or, slice_set, refl, ap, ap₂, sym, ◌∙◌, arith}
use Rattle.std.specs.Prelude.{◌==◌}
use Rattle.std.specs.List.{sum_by}
use Rattle.std.proofs.lemmas.Bool.{cond-true, cond-false}
use Rattle.std.proofs.lemmas.List.{get_or_default, take_all, drop_all, append-nil}
use Rattle.std.proofs.lemmas.List.Edits.{map_over_more}
use Rattle.std.proofs.lemmas.List.Sums.{sum_by-cons}
use Rattle.sd_journal.specs.declared.mark.Mark.{Mark}
use Rattle.sd_journal.specs.declared.mark.Mark.TheVariants.{Unsynced, Synced, Lost, Purged}
use Rattle.sd_journal.specs.declared.noted.Noted.{Noted}
use Rattle.sd_journal.specs.declared.stretch.Stretch.{Stretch}
use Rattle.sd_journal.specs.Stretch.{counted, begun_by, longer_by, grown_by, with_mark, marked_at}

-- what no place of a list has
abbrev pub empty : Stretch
empty = record { volume = 0; first = 0; last = 0; start = 0; end = 0; unsynced = 0; synced = 0; lost = 0 }

-- One block more.

-- the last stretch grows
pub last_grown : (ss : List Stretch) (i : ℕ) (s seen : Stretch) (n : Noted) → i + 1 ≡ length ss → s ≡ get_or ss i s → seen ≡ get_or ss i seen
    → (n.volume == seen.volume) ≡ true → slice_set ss i (longer_by s n) ≡ grown_by ss n
last_grown [] i s seen n last is was on = absurd (omega (arith, last))
last_grown (t ∷ []) zero s seen n last is was on =
    ap (λ u. longer_by u n ∷ []) is ∙ sym (cond-true (n.volume == t.volume) _ _ (ap (λ u. n.volume == u.volume) (sym was) ∙ on))
last_grown (t ∷ []) (suc i) s seen n last is was on = absurd (omega (arith, last))
last_grown (t ∷ u ∷ ss) zero s seen n last is was on = absurd (omega (arith, last))
last_grown (t ∷ u ∷ ss) (suc i) s seen n last is was on = ap (λ l. t ∷ l) (last_grown (u ∷ ss) i s seen n (omega (arith, last)) is was on)

-- or another begins
pub other_begun : (ss : List Stretch) (i : ℕ) (s : Stretch) (n : Noted) → i + 1 ≡ length ss → s ≡ get_or ss i s → (n.volume == s.volume) ≡ false
    → ss ++ begun_by n ∷ [] ≡ grown_by ss n
other_begun [] i s n last is off = absurd (omega (arith, last))
other_begun (t ∷ []) zero s n last is off = sym (cond-false (n.volume == t.volume) _ _ (ap (λ u. n.volume == u.volume) (sym is) ∙ off))
other_begun (t ∷ []) (suc i) s n last is off = absurd (omega (arith, last))
other_begun (t ∷ u ∷ ss) zero s n last is off = absurd (omega (arith, last))
other_begun (t ∷ u ∷ ss) (suc i) s n last is off = ap (λ l. t ∷ l) (other_begun (u ∷ ss) i s n (omega (arith, last)) is off)

pub first_begun : (ss : List Stretch) (n : Noted) → length ss ≡ 0 → ss ++ begun_by n ∷ [] ≡ grown_by ss n
first_begun [] n none = refl
first_begun (s ∷ ss) n none = absurd (omega (arith, none))

one_counted : (n : Noted) (s : Stretch) (b : Bool) → sum_by counted (cond b (longer_by s n ∷ []) (s ∷ begun_by n ∷ [])) ≡ counted s + 1
one_counted n s true = omega arith
one_counted n s false = omega arith

-- it is counted
pub counted_grown : (ss : List Stretch) (n : Noted) → sum_by counted (grown_by ss n) ≡ sum_by counted ss + 1
counted_grown [] n = omega arith
counted_grown (s ∷ []) n = one_counted n s (n.volume == s.volume) ∙ omega arith
counted_grown (s ∷ t ∷ ss) n =
    let more = sum_by-cons counted s (grown_by (t ∷ ss) n) in
    let before = sum_by-cons counted s (t ∷ ss) in
    let rest = counted_grown (t ∷ ss) n in omega (arith, more, before, rest)

-- Marks.

marked_counted : (mark : Mark) (s : Stretch) → counted (with_mark mark s) ≤ counted s
marked_counted Unsynced s = omega arith
marked_counted Synced s = omega arith
marked_counted Lost s = omega arith
marked_counted Purged s = omega arith

one_marked : (mark : Mark) (s : Stretch) (b : Bool) → counted (cond b (with_mark mark s) s) ≤ counted s
one_marked mark s true = marked_counted mark s
one_marked mark s false = omega arith

-- marks count no stretch anew
pub counted_marked : (mark : Mark) (volume : ℕ) (ss : List Stretch) → sum_by counted (map (marked_at mark volume) ss) ≤ sum_by counted ss
counted_marked mark volume [] = omega arith
counted_marked mark volume (s ∷ ss) =
    let after = sum_by-cons counted (marked_at mark volume s) (map (marked_at mark volume) ss) in
    let before = sum_by-cons counted s ss in
    let one = one_marked mark s (volume == s.volume) in
    let rest = counted_marked mark volume ss in omega (arith, after, before, one, rest)

-- what a loop that marks finds at its place
pub rest_at : (mark : Mark) (volume : ℕ) (xs ys : List Stretch) (i : ℕ) (d : Stretch) → i < length xs → ys ≡ map (marked_at mark volume) (take i xs) ++ drop i xs → get_or ys i d ≡ get_or xs i d
rest_at mark volume xs ys i d below e = ap (λ l. get_or l i d) e ∙ at xs i below
  where
    at : (xs : List Stretch) (i : ℕ) → i < length xs → get_or (map (marked_at mark volume) (take i xs) ++ drop i xs) i d ≡ get_or xs i d
    at [] i below = absurd (omega (arith, below))
    at (x ∷ xs) zero below = refl
    at (x ∷ xs) (suc i) below = at xs i (omega (arith, below))

-- as far as a loop has come
pub mark_more : (mark : Mark) (volume : ℕ) (xs ys : List Stretch) (i : ℕ) (d s : Stretch) → i < length xs → i < length ys → ys ≡ map (marked_at mark volume) (take i xs) ++ drop i xs
    → s ≡ marked_at mark volume (get_or ys i d) → slice_set ys i s ≡ map (marked_at mark volume) (take (i + 1) xs) ++ drop (i + 1) xs
mark_more mark volume xs ys i d s below below' before new =
    ap (λ m. slice_set ys i m) new ∙ map_over_more (marked_at mark volume) xs ys i (get_or ys i d) below before (get_or_default ys i d (get_or ys i d) below')

-- and once it is over
pub mark_all : (mark : Mark) (volume : ℕ) (xs ys : List Stretch) (i : ℕ) → length xs ≤ i → ys ≡ map (marked_at mark volume) (take i xs) ++ drop i xs
    → ys ≡ map (marked_at mark volume) xs
mark_all mark volume xs ys i over e =
    e ∙ ap₂ (λ a b. map (marked_at mark volume) a ++ b) (take_all i xs over) (drop_all i xs over) ∙ append-nil (map (marked_at mark volume) xs)

-- Counts fit.

pub synced_counted : (ss : List Stretch) → sum_by (λ (s : Stretch). s.synced) ss ≤ sum_by counted ss
synced_counted [] = omega arith
synced_counted (s ∷ ss) =
    let one = sum_by-cons (λ (x : Stretch). x.synced) s ss in
    let all = sum_by-cons counted s ss in
    let rest = synced_counted ss in omega (arith, one, all, rest)
