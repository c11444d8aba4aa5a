-- Stretches that grow at their end are those of the whole list.
use Rattle.std.proofs.Common.{◌≡◌, ℕ, zero, suc, ◌+◌, ◌<◌, Bool, true, false, cond, List, [], ◌∷◌, ◌++◌, length, take, get_or, slice_set, refl, ap, ap₂, sym, ◌∙◌, arith}
use Rattle.std.specs.Str.{bytes_eq}
use Rattle.std.proofs.lemmas.Bool.{cond-true, cond-false, false_from_ne_true}
use Rattle.std.proofs.lemmas.List.{append-nil, length-take, take_more}
use Rattle.std.proofs.lemmas.Slice.Eq.{bytes_eq-Decides}
use Rattle.sd_base.specs.FileIndex.{first_nonzero}
use Rattle.sd_base.specs.Key.{is_key}
use Rattle.sd_base.specs.declared.number.SessionKey.{SessionKey}
use Rattle.sd_base.proofs.IndexLemmas.{first_nonzero_assoc}
use Rattle.sd_span.specs.declared.span.Span.{Span}
use Rattle.sd_span.specs.declared.placement.Placement.{Placement}
use Rattle.sd_span.specs.Spans.{placements_of, stretch_of, in_front, stretches, numbered_from, stretch_with, grown, StretchesGrow}

-- a stretch from the beginning of one placement more in front of it
abbrev begun_by : Placement → Span → Span
begun_by q s = record s { first = first_nonzero q.first s.first; last = first_nonzero s.last q.last; start = q.start }

-- the span with these parts, on a volume
span_parts : List ℕ → ℕ → ℕ → ℕ → ℕ → ℕ → Span
span_parts volume index first last start end =
    record { volume = volume; vol_index = index; first = first; last = last; start = start; end = end }

-- it begins and ends in either order
begun_grown : (q : Placement) (s : Span) (p : Placement) → begun_by q (stretch_with s p) ≡ stretch_with (begun_by q s) p
unfolding span_parts
begun_grown q s p =
    ap₂ (λ first last. span_parts s.volume s.vol_index first last q.start (p.start + p.length))
    (sym (first_nonzero_assoc q.first s.first p.first)) (first_nonzero_assoc p.last s.last q.last)

-- of two placements the one begins the other's stretch, or the other ends the one's
two_placements : (q p : Placement) → q.volume ≡ p.volume → begun_by q (stretch_of p) ≡ stretch_with (stretch_of q) p
unfolding span_parts
two_placements q p same =
    ap (λ v. span_parts v 0 (first_nonzero q.first p.first) (first_nonzero p.last q.last) q.start (p.start + p.length)) (sym same)

-- a placement in front of stretches that grow at their end
front_of_one : (q p : Placement) (a : Bool) → bytes_eq q.volume p.volume ≡ a → in_front q (stretch_of p ∷ []) ≡ grown (stretch_of q ∷ []) p
front_of_one q p true e =
    cond-true (bytes_eq q.volume p.volume) _ _ e ∙ ap (λ s. s ∷ []) (two_placements q p ((bytes_eq-Decides q.volume p.volume).0 e))
    ∙ sym (cond-true (bytes_eq q.volume p.volume) _ _ e)
front_of_one q p false e = cond-false (bytes_eq q.volume p.volume) _ _ e ∙ sym (cond-false (bytes_eq q.volume p.volume) _ _ e)

front_of_last : (q : Placement) (s : Span) (p : Placement) (a b : Bool) → bytes_eq q.volume s.volume ≡ a → bytes_eq s.volume p.volume ≡ b
    → in_front q (grown (s ∷ []) p) ≡ grown (in_front q (s ∷ [])) p
front_of_last q s p true true own on =
    ap (in_front q) (cond-true (bytes_eq s.volume p.volume) _ _ on) ∙ cond-true (bytes_eq q.volume s.volume) _ _ own
    ∙ ap (λ t. t ∷ []) (begun_grown q s p) ∙ sym (cond-true (bytes_eq s.volume p.volume) _ _ on)
    ∙ ap (λ l. grown l p) (sym (cond-true (bytes_eq q.volume s.volume) _ _ own))
front_of_last q s p true false own on =
    ap (in_front q) (cond-false (bytes_eq s.volume p.volume) _ _ on) ∙ cond-true (bytes_eq q.volume s.volume) _ _ own
    ∙ sym (cond-false (bytes_eq s.volume p.volume) _ _ on) ∙ ap (λ l. grown l p) (sym (cond-true (bytes_eq q.volume s.volume) _ _ own))
front_of_last q s p false true own on =
    ap (in_front q) (cond-true (bytes_eq s.volume p.volume) _ _ on) ∙ cond-false (bytes_eq q.volume s.volume) _ _ own
    ∙ ap (λ l. stretch_of q ∷ l) (sym (cond-true (bytes_eq s.volume p.volume) _ _ on)) ∙ ap (λ l. grown l p) (sym (cond-false (bytes_eq q.volume s.volume) _ _ own))
front_of_last q s p false false own on =
    ap (in_front q) (cond-false (bytes_eq s.volume p.volume) _ _ on) ∙ cond-false (bytes_eq q.volume s.volume) _ _ own
    ∙ ap (λ l. stretch_of q ∷ l) (sym (cond-false (bytes_eq s.volume p.volume) _ _ on)) ∙ ap (λ l. grown l p) (sym (cond-false (bytes_eq q.volume s.volume) _ _ own))

front_of_more : (q : Placement) (s t : Span) (ss : List Span) (p : Placement) (a : Bool) → bytes_eq q.volume s.volume ≡ a
    → in_front q (grown (s ∷ t ∷ ss) p) ≡ grown (in_front q (s ∷ t ∷ ss)) p
front_of_more q s t ss p true own =
    cond-true (bytes_eq q.volume s.volume) _ _ own ∙ ap (λ l. grown l p) (sym (cond-true (bytes_eq q.volume s.volume) _ _ own))
front_of_more q s t ss p false own =
    cond-false (bytes_eq q.volume s.volume) _ _ own ∙ ap (λ l. grown l p) (sym (cond-false (bytes_eq q.volume s.volume) _ _ own))

front_grown : (q : Placement) (ss : List Span) (p : Placement) → in_front q (grown ss p) ≡ grown (in_front q ss) p
front_grown q [] p = front_of_one q p (bytes_eq q.volume p.volume) refl
front_grown q (s ∷ []) p = front_of_last q s p (bytes_eq q.volume s.volume) (bytes_eq s.volume p.volume) refl refl
front_grown q (s ∷ t ∷ ss) p = front_of_more q s t ss p (bytes_eq q.volume s.volume) refl

pub stretches_grow : StretchesGrow
stretches_grow [] p = refl
stretches_grow (q ∷ qs) p = ap (in_front q) (stretches_grow qs p) ∙ front_grown q (stretches qs) p

-- The loops that make the spans of a session.

pub cond_more : {X : Type 0} (b : Bool) (x : X) (xs ys all : List X) → all ≡ xs ++ ys → cond b (x ∷ all) all ≡ cond b (x ∷ xs) xs ++ ys
cond_more true x xs ys all e = ap (λ l. x ∷ l) e
cond_more false x xs ys all e = e

pub placements_of-append : (key : SessionKey) (ps qs : List Placement) → placements_of key (ps ++ qs) ≡ placements_of key ps ++ placements_of key qs
placements_of-append key [] qs = refl
placements_of-append key (p ∷ ps) qs =
    cond_more (is_key key p.key) p (placements_of key ps) (placements_of key qs) (placements_of key (ps ++ qs)) (placements_of-append key ps qs)

-- the placements up to one of them, and that one
up_to : (key : SessionKey) (ps : List Placement) (i : ℕ) (p : Placement) → p ≡ get_or ps i p → i < length ps
    → placements_of key (take (i + 1) ps) ≡ placements_of key (take i ps) ++ placements_of key (p ∷ [])
up_to key ps i p is below =
    ap (placements_of key) (take_more ps i p below ∙ ap (λ q. take i ps ++ q ∷ []) (sym is)) ∙ placements_of-append key (take i ps) (p ∷ [])

pub own_noted : (key : SessionKey) (ps : List Placement) (i : ℕ) (p : Placement) (ss : List Span) → p ≡ get_or ps i p → i < length ps → is_key key p.key ≡ true
    → ss ≡ stretches (placements_of key (take i ps)) → grown ss p ≡ stretches (placements_of key (take (i + 1) ps))
own_noted key ps i p ss is below own e =
    ap (λ l. grown l p) e ∙ sym (stretches_grow (placements_of key (take i ps)) p)
    ∙ ap (λ l. stretches (placements_of key (take i ps) ++ l)) (sym (cond-true (is_key key p.key) (p ∷ []) [] own))
    ∙ ap stretches (sym (up_to key ps i p is below))

pub other_passed : (key : SessionKey) (ps : List Placement) (i : ℕ) (p : Placement) (ss : List Span) → p ≡ get_or ps i p → i < length ps → is_key key p.key ≡ false
    → ss ≡ stretches (placements_of key (take i ps)) → ss ≡ stretches (placements_of key (take (i + 1) ps))
other_passed key ps i p ss is below other e =
    e ∙ ap stretches (sym (up_to key ps i p is below ∙ ap (λ l. placements_of key (take i ps) ++ l) (cond-false (is_key key p.key) (p ∷ []) [] other)
    ∙ append-nil (placements_of key (take i ps))))

-- the last stretch grows
pub last_grown : (ss : List Span) (i : ℕ) (s seen : Span) (p : Placement) → i + 1 ≡ length ss → s ≡ get_or ss i s → seen ≡ get_or ss i seen
    → seen.volume ≡ p.volume → slice_set ss i (stretch_with s p) ≡ grown ss p
last_grown [] i s seen p last is was on = absurd (omega (arith, last))
last_grown (t ∷ []) zero s seen p last is was on =
    ap (λ u. stretch_with u p ∷ []) is ∙ sym (cond-true (bytes_eq t.volume p.volume) _ _ ((bytes_eq-Decides t.volume p.volume).1 (ap (λ u. u.volume) (sym was) ∙ on)))
last_grown (t ∷ []) (suc i) s seen p last is was on = absurd (omega (arith, last))
last_grown (t ∷ u ∷ ss) zero s seen p last is was on = absurd (omega (arith, last))
last_grown (t ∷ u ∷ ss) (suc i) s seen p last is was on = ap (λ l. t ∷ l) (last_grown (u ∷ ss) i s seen p (omega (arith, last)) is was on)

-- or another begins
pub other_begun : (ss : List Span) (i : ℕ) (s : Span) (p : Placement) → i + 1 ≡ length ss → s ≡ get_or ss i s → (s.volume ≡ p.volume → ⊥)
    → ss ++ stretch_of p ∷ [] ≡ grown ss p
other_begun [] i s p last is off = absurd (omega (arith, last))
other_begun (t ∷ []) zero s p last is off =
    sym (cond-false (bytes_eq t.volume p.volume) _ _ (false_from_ne_true (bytes_eq t.volume p.volume)
    (λ e. off (ap (λ u. u.volume) is ∙ (bytes_eq-Decides t.volume p.volume).0 e))))
other_begun (t ∷ []) (suc i) s p last is off = absurd (omega (arith, last))
other_begun (t ∷ u ∷ ss) zero s p last is off = absurd (omega (arith, last))
other_begun (t ∷ u ∷ ss) (suc i) s p last is off = ap (λ l. t ∷ l) (other_begun (u ∷ ss) i s p (omega (arith, last)) is off)

pub first_begun : (ss : List Span) (p : Placement) → length ss ≡ 0 → ss ++ stretch_of p ∷ [] ≡ grown ss p
first_begun [] p none = refl
first_begun (s ∷ ss) p none = absurd (omega (arith, none))

-- one span more, numbered
with_index : Span → ℕ → Span
with_index s index = record s { vol_index = index }

numbered_from-append : (n : ℕ) (ss : List Span) (s : Span) → numbered_from n (ss ++ s ∷ []) ≡ numbered_from n ss ++ with_index s (n + length ss) ∷ []
unfolding with_index
numbered_from-append n [] s = ap (λ m. with_index s m ∷ []) (omega arith)
numbered_from-append n (t ∷ ss) s =
    ap (λ l. with_index t n ∷ l) (numbered_from-append (n + 1) ss s ∙ ap (λ m. numbered_from (n + 1) ss ++ with_index s m ∷ []) (omega arith))

pub numbered_more : (ss : List Span) (i : ℕ) (s : Span) → s ≡ get_or ss i s → i < length ss
    → numbered_from 1 (take i ss) ++ (record s { vol_index = i + 1 }) ∷ [] ≡ numbered_from 1 (take (i + 1) ss)
unfolding with_index
numbered_more ss i s is below =
    let long = length-take i ss in
    ap (λ m. numbered_from 1 (take i ss) ++ with_index s m ∷ []) (omega (arith, long))
    ∙ sym (ap (numbered_from 1) (take_more ss i s below ∙ ap (λ t. take i ss ++ t ∷ []) (sym is)) ∙ numbered_from-append 1 (take i ss) s)
