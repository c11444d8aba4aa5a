-- Lists of pieces with their lanes.
use Rattle.std.proofs.Common.{◌≡◌, ◌≢◌, ◌≤◌, ℕ, zero, suc, ◌==◌, eq-eqb, ne_eqb, List, [], ◌∷◌, ◌++◌, map, length, sym, refl, ap, ◌∙◌, length-append, arith}
use Rattle.std.proofs.lemmas.List.{append-nil}
use Rattle.std.specs.Prelude.{if◌then◌else◌}
use native.Mathlib.Decide.{ℕ_discrete}
use Rattle.sd_lane.specs.declared.piece.Piece.{Piece}
use Rattle.sd_lane.specs.declared.piece.Queued.{Queued}
use Rattle.sd_lane.specs.Queue.{queued, pieces_of, AreOfLanes}
use Rattle.sd_lane.proofs.QueueLemmas.{pieces_of-append}
use Rattle.sd_ruled.specs.Passes.{of_others}

-- ---- one piece in front

pub of_here : (q : Queued) (k : ℕ) (qs : List Queued) → q.lane ≡ k → pieces_of k (q ∷ qs) ≡ q.piece ∷ pieces_of k qs
of_here q k qs e = ap (λ b. if b then q.piece ∷ pieces_of k qs else pieces_of k qs) (eq-eqb q.lane k e)

pub of_other : (q : Queued) (k : ℕ) (qs : List Queued) → q.lane ≢ k → pieces_of k (q ∷ qs) ≡ pieces_of k qs
of_other q k qs n = ap (λ b. if b then q.piece ∷ pieces_of k qs else pieces_of k qs) (ne_eqb q.lane k n)

-- ---- the pieces of the other lanes

others_here : (q : Queued) (k : ℕ) (qs : List Queued) → q.lane ≡ k → of_others k (q ∷ qs) ≡ of_others k qs
others_here q k qs e = ap (λ b. if b then of_others k qs else q ∷ of_others k qs) (eq-eqb q.lane k e)

others_other : (q : Queued) (k : ℕ) (qs : List Queued) → q.lane ≢ k → of_others k (q ∷ qs) ≡ q ∷ of_others k qs
others_other q k qs n = ap (λ b. if b then of_others k qs else q ∷ of_others k qs) (ne_eqb q.lane k n)

none_of_others : (k : ℕ) (qs : List Queued) → pieces_of k (of_others k qs) ≡ []
none_of_others k [] = refl
none_of_others k (q ∷ qs) = elim (ℕ_discrete q.lane k) as (λ _. pieces_of k (of_others k (q ∷ qs)) ≡ []) [
  | yes e ↦ ap (pieces_of k) (others_here q k qs e) ∙ none_of_others k qs
  | no n ↦ ap (pieces_of k) (others_other q k qs n) ∙ (of_other q k (of_others k qs) n ∙ none_of_others k qs)
]

all_of_others : (j k : ℕ) (qs : List Queued) → j ≢ k → pieces_of k (of_others j qs) ≡ pieces_of k qs
all_of_others j k [] n = refl
all_of_others j k (q ∷ qs) n = elim (ℕ_discrete q.lane j) as (λ _. pieces_of k (of_others j (q ∷ qs)) ≡ pieces_of k (q ∷ qs)) [
  | yes e ↦ ap (pieces_of k) (others_here q j qs e) ∙ (all_of_others j k qs n ∙ sym (of_other q k qs (λ f. n (sym e ∙ f))))
  | no m ↦ ap (pieces_of k) (others_other q j qs m) ∙ ap (λ l. if q.lane == k then q.piece ∷ l else l) (all_of_others j k qs n)
]

of_own : (k : ℕ) (ps : List Piece) → pieces_of k (map (queued k) ps) ≡ ps
of_own k [] = refl
of_own k (p ∷ ps) = of_here (queued k p) k (map (queued k) ps) refl ∙ ap (λ l. p ∷ l) (of_own k ps)

of_foreign : (j k : ℕ) (ps : List Piece) → j ≢ k → pieces_of k (map (queued j) ps) ≡ []
of_foreign j k [] n = refl
of_foreign j k (p ∷ ps) n = of_other (queued j p) k (map (queued j) ps) n ∙ of_foreign j k ps n

-- what all lanes sent, if one lane's is known anew: of another lane it is as before, of that lane it is this
pub others_as : (l k : ℕ) (all : List Queued) (s : List Piece) → l ≢ k → pieces_of k (of_others l all ++ map (queued l) s) ≡ pieces_of k all
others_as l k all s n =
    pieces_of-append k (of_others l all) (map (queued l) s) ∙ (ap (λ y. pieces_of k (of_others l all) ++ y) (of_foreign l k s n) ∙ (append-nil (pieces_of k (of_others l all)) ∙ all_of_others l k all n))

pub own_is : (l : ℕ) (all : List Queued) (s : List Piece) → pieces_of l (of_others l all ++ map (queued l) s) ≡ s
own_is l all s = pieces_of-append l (of_others l all) (map (queued l) s) ∙ (ap (λ y. y ++ pieces_of l (map (queued l) s)) (none_of_others l all) ∙ of_own l s)

-- ---- pieces of the lanes 1 to n

pub lanes_more : (n : ℕ) (xs : List Queued) (q : Queued) → AreOfLanes n xs → 1 ≤ q.lane → q.lane ≤ n → AreOfLanes n (xs ++ q ∷ [])
lanes_more n [] q h least most = ((least, most), h)
lanes_more n (x ∷ xs) q h least most = (h.0, lanes_more n xs q h.1 least most)

pub lanes_behind : (n : ℕ) (xs ys : List Queued) → AreOfLanes n (xs ++ ys) → AreOfLanes n ys
lanes_behind n [] ys h = h
lanes_behind n (x ∷ xs) ys h = lanes_behind n xs ys h.1

pub lane_within : (n : ℕ) (xs : List Queued) (q : Queued) (ys : List Queued) → AreOfLanes n (xs ++ q ∷ ys) → (1 ≤ q.lane) × (q.lane ≤ n)
lane_within n xs q ys h = (lanes_behind n xs (q ∷ ys) h).0

-- none came by lane 0, or by one after the last
pub none_outside : (n k : ℕ) (qs : List Queued) → AreOfLanes n qs → ((l : ℕ) → 1 ≤ l → l ≤ n → l ≢ k) → pieces_of k qs ≡ []
none_outside n k [] h out = refl
none_outside n k (q ∷ qs) h out = of_other q k qs (out q.lane h.0.0 h.0.1) ∙ none_outside n k qs h.1 out

pub none_of_0 : (n : ℕ) (qs : List Queued) → AreOfLanes n qs → pieces_of 0 qs ≡ []
none_of_0 n qs h = none_outside n 0 qs h (λ l least most e. absurd (omega (arith, least, e)))

-- two lists with the same pieces of the lanes from 1 on have the same of each
pub from_1 : (n m : ℕ) (xs ys : List Queued) → AreOfLanes n xs → AreOfLanes m ys → ((j : ℕ) → pieces_of (suc j) xs ≡ pieces_of (suc j) ys) → (k : ℕ) → pieces_of k xs ≡ pieces_of k ys
from_1 n m xs ys h i same zero = none_of_0 n xs h ∙ sym (none_of_0 m ys i)
from_1 n m xs ys h i same (suc j) = same j

-- a list after another that adds no piece of any lane is empty
pub none_left : (taken items : List Queued) → ((k : ℕ) → pieces_of k (taken ++ items) ≡ pieces_of k taken) → items ≡ []
none_left taken [] h = refl
none_left taken (q ∷ qs) h =
    let e = ap length (sym (pieces_of-append q.lane taken (q ∷ qs)) ∙ h q.lane) in
    let f = ap length (of_here q q.lane qs refl) in
    absurd (omega (arith, e, f, length-append (pieces_of q.lane taken) (pieces_of q.lane (q ∷ qs))))

pub no_items : {T : Type 0} (xs : List T) → length xs ≡ 0 → xs ≡ []
no_items [] e = refl
no_items (x ∷ xs) e = absurd (omega arith)

-- of what a lane sent the first part was taken; if that is as long, it is all
pub all_taken : (lane : ℕ) (taken held : List Queued) (sent : List Piece) → pieces_of lane (taken ++ held) ≡ sent → length (pieces_of lane taken) ≡ length sent → pieces_of lane taken ≡ sent
all_taken lane taken held sent e long =
    let xs = pieces_of lane taken in
    let ys = pieces_of lane held in
    let whole : xs ++ ys ≡ sent = sym (pieces_of-append lane taken held) ∙ e in
    let none = no_items ys (omega (arith, long, length-append xs ys, ap length whole)) in
    sym (append-nil xs) ∙ (ap (λ l. xs ++ l) (sym none) ∙ whole)
