-- What is counted of each lane when a piece more was taken.
use Rattle.std.proofs.Common.{◌≡◌, ◌≢◌, ◌≤◌, ◌+◌, ◌-◌, ℕ, zero, suc, arith, refl, sym, ap, subst, ◌∙◌, ◌⊎◌, inl, inr, if◌then◌else◌, Bool, List, [], ◌∷◌, ◌++◌, length, length-append, get_or, slice_set}
use Rattle.std.proofs.lemmas.Bool.{eq-eqb, ne_eqb}
use Rattle.std.proofs.lemmas.List.{get_or-set_same, get_or-replicate, get_or-set_other, map-append, append-nil}
use Rattle.sd_base.specs.Limits.{most_lanes}
use Rattle.sd_lane.proofs.QueueLemmas.{pieces_of-append}
use Rattle.sd_lane.specs.Queue.{pieces_of}
use Rattle.sd_lane.specs.declared.piece.Piece.{Piece}
use Rattle.sd_lane.specs.declared.piece.Queued.{Queued}
use Rattle.sd_line.specs.Counts.{Counts, CountsEach, taken_of}

-- the counts where nothing was taken
abbrev pub no_counts : List ℕ
no_counts = 0 ∷ 0 ∷ 0 ∷ 0 ∷ 0 ∷ 0 ∷ 0 ∷ 0 ∷ 0 ∷ 0 ∷ 0 ∷ 0 ∷ 0 ∷ 0 ∷ 0 ∷ 0 ∷ 0 ∷ 0 ∷ 0 ∷ 0 ∷ 0 ∷ 0 ∷ 0 ∷ 0 ∷ 0 ∷ 0 ∷ 0 ∷ 0 ∷ 0 ∷ 0 ∷ 0 ∷ 0 ∷ []

pub counts_none : CountsEach no_counts []
counts_none k within = inl (get_or-replicate 32 k 0 0 within)

-- the lane of the piece has one more, and another as many
more_of : (lane : ℕ) (taken : List Queued) (q : Queued) → q.lane ≡ lane → length (pieces_of lane (taken ++ q ∷ [])) ≡ length (pieces_of lane taken) + 1
more_of lane taken q is =
    ap length (pieces_of-append lane taken (q ∷ []) ∙ ap (λ (c : Bool). pieces_of lane taken ++ (if c then q.piece ∷ [] else [])) (eq-eqb q.lane lane is))
    ∙ length-append (pieces_of lane taken) (q.piece ∷ [])

same_of : (lane : ℕ) (taken : List Queued) (q : Queued) → q.lane ≢ lane → pieces_of lane (taken ++ q ∷ []) ≡ pieces_of lane taken
same_of lane taken q apart =
    pieces_of-append lane taken (q ∷ []) ∙ ap (λ (c : Bool). pieces_of lane taken ++ (if c then q.piece ∷ [] else [])) (ne_eqb q.lane lane apart)
    ∙ append-nil (pieces_of lane taken)

one_or_two : (a b : ℕ) → (a ≡ b) ⊎ (a ≢ b)
one_or_two zero zero = inl refl
one_or_two zero (suc b) = inr (λ e. absurd (omega (arith, e)))
one_or_two (suc a) zero = inr (λ e. absurd (omega (arith, e)))
one_or_two (suc a) (suc b) = elim (one_or_two a b) [ inl e ↦ inl (ap suc e) | inr n ↦ inr (λ e. n (omega (arith, e))) ]

-- one piece more was taken, and the count of its lane is one more
pub counts_more : (counts : List ℕ) (taken : List Queued) (q : Queued) (n : ℕ) → most_lanes ≤ length counts → 1 ≤ q.lane → q.lane ≤ most_lanes
    → ((many : ℕ) → Counts (get_or counts (q.lane - 1) 0) many → Counts n (many + 1))
    → CountsEach counts taken → CountsEach (slice_set counts (q.lane - 1) n) (taken ++ q ∷ [])
counts_more counts taken q n all least most more each k within =
    elim (one_or_two q.lane (k + 1)) [
      | inl own ↦ (
          let at : q.lane - 1 ≡ k = omega (arith, own) in
          let here : get_or (slice_set counts (q.lane - 1) n) k 0 ≡ n = ap (λ i. get_or (slice_set counts (q.lane - 1) n) i 0) (sym at) ∙ get_or-set_same counts (q.lane - 1) n 0 (omega (arith, least, most, all)) in
          let was = subst (λ (i : ℕ). Counts (get_or counts i 0) (length (pieces_of (k + 1) taken))) (sym at) (each k within) in
          subst (λ (m : ℕ). Counts (get_or (slice_set counts (q.lane - 1) n) k 0) m) (sym (more_of (k + 1) taken q own))
          (subst (λ (m : ℕ). Counts m (length (pieces_of (k + 1) taken) + 1)) (sym here) (more (length (pieces_of (k + 1) taken)) was)))
      | inr apart ↦ (
          let there : get_or (slice_set counts (q.lane - 1) n) k 0 ≡ get_or counts k 0 = get_or-set_other counts (q.lane - 1) k n 0 (λ e. apart (omega (arith, e, least))) in
          subst (λ (m : ℕ). Counts m (length (pieces_of (k + 1) (taken ++ q ∷ [])))) (sym there)
          (subst (λ (ps : List Piece). Counts (get_or counts k 0) (length ps)) (sym (same_of (k + 1) taken q apart)) (each k within)))
    ]

-- what the log has then
pub taken-and : (items : List (Queued × Unit {0})) (q : Queued) (unit : Unit {0}) → taken_of (items ++ (q, unit) ∷ []) ≡ taken_of items ++ q ∷ []
taken-and items q unit = map-append (λ (i : Queued × Unit {0}). i.0) items ((q, unit) ∷ [])
