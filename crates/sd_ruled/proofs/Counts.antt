-- Lists with the same pieces of each lane are as long.
use Rattle.std.proofs.Common.{◌≡◌, ◌≢◌, ◌≤◌, ℕ, take, drop, subst, suc, true, ◌==◌, eq-eqb, ne_eqb, List, [], ◌∷◌, ◌++◌, length, sym, refl, ap, ◌∙◌, length-append, arith}
use Rattle.std.proofs.lemmas.List.{append-nil}
use Rattle.std.specs.Prelude.{if◌then◌else◌}
use native.Mathlib.Decide.{ℕ_discrete}
use Rattle.crossbeam_queue.specs.Fifo.{Held, Forks}
use Rattle.sd_lane.specs.declared.piece.Piece.{Piece}
use Rattle.sd_lane.specs.declared.piece.Queued.{Queued}
use Rattle.sd_lane.specs.Queue.{pieces_of, AreOfLanes}
use Rattle.sd_lane.proofs.QueueLemmas.{pieces_of-append}
use Rattle.sd_ruled.specs.Passes.{PassView, of_nobody, of_owner, at_rest}
use Rattle.sd_ruled.specs.Rule.{Keeps}
use Rattle.sd_ruled.specs.Seats.{WasEmpty}
use Rattle.sd_ruled.specs.Steps.{Tells, Lifted}
use Rattle.sd_ruled.proofs.Pieces.{of_here, of_other, from_1, lane_within, no_items}
use Rattle.sd_ruled.proofs.Steps.{rests}
use Rattle.sd_ruled.proofs.Turns.{all_round}

-- without the first piece of a lane
abbrev less : ℕ → List Queued → List Queued
less lane [] = []
less lane (q ∷ qs) = if q.lane == lane then qs else q ∷ less lane qs

less_here : (q : Queued) (k : ℕ) (qs : List Queued) → q.lane ≡ k → less k (q ∷ qs) ≡ qs
less_here q k qs e = ap (λ b. if b then qs else q ∷ less k qs) (eq-eqb q.lane k e)

less_other : (q : Queued) (k : ℕ) (qs : List Queued) → q.lane ≢ k → less k (q ∷ qs) ≡ q ∷ less k qs
less_other q k qs n = ap (λ b. if b then qs else q ∷ less k qs) (ne_eqb q.lane k n)

less_of : (k : ℕ) (qs : List Queued) (p : Piece) (rest : List Piece) → pieces_of k qs ≡ p ∷ rest → (pieces_of k (less k qs) ≡ rest) × (length qs ≡ suc (length (less k qs)))
less_of k [] p rest e = absurd (cc e)
less_of k (q ∷ qs) p rest e = elim (ℕ_discrete q.lane k) as (λ _. (pieces_of k (less k (q ∷ qs)) ≡ rest) × (length (q ∷ qs) ≡ suc (length (less k (q ∷ qs))))) [
  | yes y ↦ (ap (pieces_of k) (less_here q k qs y) ∙ cc (sym (of_here q k qs y) ∙ e), ap suc (ap length (sym (less_here q k qs y))))
  | no n ↦ (
      let r = less_of k qs p rest (sym (of_other q k qs n) ∙ e) in (
        ap (pieces_of k) (less_other q k qs n) ∙ (of_other q k (less k qs) n ∙ r.0),
        ap suc r.1 ∙ ap (λ l. suc (length l)) (sym (less_other q k qs n)),
      )
      )
]

less_else : (j k : ℕ) (qs : List Queued) → j ≢ k → pieces_of k (less j qs) ≡ pieces_of k qs
less_else j k [] n = refl
less_else j k (q ∷ qs) n = elim (ℕ_discrete q.lane j) as (λ _. pieces_of k (less j (q ∷ qs)) ≡ pieces_of k (q ∷ qs)) [
  | yes e ↦ ap (pieces_of k) (less_here q j qs e) ∙ sym (of_other q k qs (λ f. n (sym e ∙ f)))
  | no m ↦ ap (pieces_of k) (less_other q j qs m) ∙ ap (λ l. if q.lane == k then q.piece ∷ l else l) (less_else j k qs n)
]

pub same_length : (xs ys : List Queued) → ((k : ℕ) → pieces_of k xs ≡ pieces_of k ys) → length xs ≡ length ys
same_length [] [] h = refl
same_length [] (y ∷ ys) h = absurd (cc (h y.lane ∙ of_here y y.lane ys refl))
same_length (x ∷ xs) ys h =
    let l = x.lane in
    let r = less_of l ys x.piece (pieces_of l xs) (sym (h l) ∙ of_here x l xs refl) in
    ap suc (same_length xs (less l ys) (λ k. elim (ℕ_discrete l k) as (λ _. pieces_of k xs ≡ pieces_of k (less l ys)) [
      | yes e ↦ ap (λ j. pieces_of j xs) (sym e) ∙ (sym r.0 ∙ ap (λ j. pieces_of j (less l ys)) e)
      | no n ↦ sym (of_other x k xs n) ∙ (h k ∙ sym (less_else l k ys n))
    ])) ∙ sym r.1

cancel : (xs ys zs : List Piece) → xs ++ ys ≡ xs ++ zs → ys ≡ zs
cancel [] ys zs e = e
cancel (x ∷ xs) ys zs e = cancel xs ys zs (cc e)

-- the queue held n pieces, and so n are in a list that has, after what was taken, all that the lanes sent
pub as_long : (v : PassView) (n : ℕ) (found : List Queued) → v.takes ≡ true → v.away ≡ 0 → Held n (Tells v) → AreOfLanes v.lanes (v.taken ++ found)
    → ((j : ℕ) → pieces_of (suc j) (v.taken ++ found) ≡ pieces_of (suc j) v.before) → length found ≡ n
as_long v n found takes away held are h =
    same_length found held.0 (λ k. cancel (pieces_of k v.taken) (pieces_of k found) (pieces_of k held.0)
    (sym (pieces_of-append k v.taken found)
    ∙ (from_1 v.lanes v.lanes (v.taken ++ found) (v.taken ++ held.0) are (held.2.of_lanes takes) (λ j. h j ∙ sym (held.2.total takes j (omega (arith, away)))) k
    ∙ pieces_of-append k v.taken held.0))) ∙ held.1

-- ---- a queue that was found empty

nothing_held : (v : PassView) (found : Held 0 (Tells v)) → v.taken ++ found.0 ≡ v.taken
nothing_held v found = ap (λ l. v.taken ++ l) (no_items found.0 found.1) ∙ append-nil v.taken

pub was_empty : (v : PassView) → v.takes ≡ true → Held 0 (Tells v) → WasEmpty v.before v.taken
was_empty v takes found k = let r = found.2.after takes k in (r.0, ap (pieces_of k) (sym (nothing_held v found)) ∙ r.1)

pub found_at_rest : (pass : ℕ) (v w : PassView) → w ≡ v → v.takes ≡ true → v.away ≡ 0 → Held 0 (Tells v) → Forks Keeps pass w (at_rest w) of_nobody
found_at_rest pass v w same takes away found =
    subst (λ (u : PassView). Forks Keeps pass u (at_rest u) of_nobody) (sym same)
    (rests pass v takes away (subst (AreOfLanes v.lanes) (nothing_held v found) (found.2.of_lanes takes))
    (λ j. ap (pieces_of (suc j)) (sym (nothing_held v found)) ∙ found.2.total takes j (omega (arith, away))))

-- ---- a piece that was taken out

pub lifted_lane : (v w : PassView) (q : Queued) → Lifted v q w → (1 ≤ q.lane) × (q.lane ≤ w.lanes)
lifted_lane v w q lifted =
    let r = lane_within v.lanes v.taken q w.held lifted.of_lanes in
    let e = ap (λ (u : PassView). u.lanes) lifted.now in (r.0, omega (arith, e, r.1))

pub lifted_count : (v0 v w : PassView) (n : ℕ) (q : Queued) → v ≡ v0 → v0.takes ≡ true → v0.away ≡ 0 → Held n (Tells v0) → Lifted v q w → suc (length w.held) ≡ n
lifted_count v0 v w n q same takes away held lifted =
    as_long v n (q ∷ w.held) (ap (λ (u : PassView). u.takes) same ∙ takes) (ap (λ (u : PassView). u.away) same ∙ away) (subst (λ (u : PassView). Held n (Tells u)) (sym same) held) lifted.of_lanes lifted.total

-- the queue went round once: the only pass holds what it held, and knows it
pub record WentRound (v0 z : PassView) (n : ℕ) : Type 0 where
  pub is : z ≡ of_owner v0.lanes v0.taken z.held
  pub count : n ≡ length z.held
  pub total : (j : ℕ) → pieces_of (suc j) (v0.taken ++ z.held) ≡ pieces_of (suc j) v0.before
  pub of_lanes : AreOfLanes v0.lanes (v0.taken ++ z.held)

pub went_round : (v0 v w p z : PassView) (q : Queued) (m n : ℕ) → v ≡ v0 → Lifted v q w → p ≡ of_owner w.lanes w.taken (w.held ++ q ∷ []) → m ≡ length w.held → n ≡ suc m
    → z ≡ of_owner p.lanes p.taken (drop m p.held ++ take m p.held) → WentRound v0 z n
went_round v0 v w p z q m n same lifted p_is m_is n_is z_is =
    let back : of_owner w.lanes w.taken (q ∷ w.held) ≡ of_owner v0.lanes v0.taken (q ∷ w.held) = ap (λ (u : PassView). of_owner u.lanes u.taken (q ∷ w.held)) lifted.now ∙ ap (λ (u : PassView). of_owner u.lanes u.taken (q ∷ w.held)) same in
    let e : z ≡ of_owner v0.lanes v0.taken (q ∷ w.held) =
    z_is
    ∙ (ap (λ (u : PassView). of_owner u.lanes u.taken (drop m u.held ++ take m u.held)) p_is
    ∙ (ap (λ k. of_owner w.lanes w.taken (drop k (w.held ++ q ∷ []) ++ take k (w.held ++ q ∷ []))) m_is
    ∙ (ap (of_owner w.lanes w.taken) (all_round w.held q) ∙ back))) in
    let held : z.held ≡ q ∷ w.held = ap (λ (u : PassView). u.held) e in
    record {
      is = e ∙ ap (of_owner v0.lanes v0.taken) (sym held);
      count = n_is ∙ (ap suc m_is ∙ ap length (sym held));
      total = λ j. ap (λ l. pieces_of (suc j) (v0.taken ++ l)) held ∙ (ap (λ (u : PassView). pieces_of (suc j) (u.taken ++ q ∷ w.held)) (sym same) ∙ (lifted.total j ∙ ap (λ (u : PassView). pieces_of (suc j) u.before) same));
      of_lanes = subst (λ l. AreOfLanes v0.lanes (v0.taken ++ l)) (sym held) (subst (λ (u : PassView). AreOfLanes u.lanes (u.taken ++ q ∷ w.held)) same lifted.of_lanes);
    }

-- one piece more is held, if one was put back
pub one_back : (lanes : ℕ) (taken held : List Queued) (p : PassView) (q : Queued) → p ≡ of_owner lanes taken (held ++ q ∷ []) → length p.held ≡ suc (length held)
one_back lanes taken held p q is = ap (λ (u : PassView). length u.held) is ∙ (length-append held (q ∷ []) ∙ omega arith)
