-- Queues and lanes: what lists of queued pieces say of each lane.
use Rattle.std.proofs.Common.{◌≡◌, ℕ, Bool, true, false, ◌==◌, List, [], ◌∷◌, ◌++◌, if◌then◌else◌, refl, sym, ap, ◌∙◌, length}
use Rattle.std.proofs.lemmas.List.{append_assoc}
use Rattle.sd_lane.specs.declared.piece.Queued.{Queued}
use Rattle.sd_lane.specs.Queue.{pieces_of, Sends, AreOfLanes, WasFull, PlainView}

-- the pieces of a lane, over two lists one after the other
pub pieces_of-append : (lane : ℕ) (xs ys : List Queued) → pieces_of lane (xs ++ ys) ≡ pieces_of lane xs ++ pieces_of lane ys
pieces_of-append lane [] ys = refl
pieces_of-append lane (q ∷ qs) ys = of_test (q.lane == lane) (pieces_of-append lane qs ys)
  where
    of_test : (test : Bool) → pieces_of lane (qs ++ ys) ≡ pieces_of lane qs ++ pieces_of lane ys
        → (if test then q.piece ∷ pieces_of lane (qs ++ ys) else pieces_of lane (qs ++ ys))
        ≡ (if test then q.piece ∷ pieces_of lane qs else pieces_of lane qs) ++ pieces_of lane ys
    of_test true e = ap (λ l. q.piece ∷ l) e
    of_test false e = e

-- a piece more at the end is sent by its lane
pub push_sends : (q : Queued) (taken held taken' held' : List Queued) → taken' ≡ taken → held' ≡ held ++ q ∷ []
    → Sends (λ lane. pieces_of lane (taken ++ held)) (λ lane. pieces_of lane (taken' ++ held')) q
push_sends q taken held taken' held' same more lane =
    ap (λ l. pieces_of lane (l ++ held')) same
    ∙ ap (λ l. pieces_of lane (taken ++ l)) more
    ∙ ap (pieces_of lane) (sym (append_assoc taken held (q ∷ [])))
    ∙ pieces_of-append lane (taken ++ held) (q ∷ [])

-- a queue that is full and holds what its lanes sent last
pub full_now : (lanes capacity lane : ℕ) (taken held : List Queued) → length held ≡ capacity → AreOfLanes lanes held → WasFull lanes capacity lane (pieces_of lane (taken ++ held))
full_now lanes capacity lane taken held many are = record {
  held = held;
  many = many;
  of_lanes = are;
  before = pieces_of lane taken;
  sent_is = pieces_of-append lane taken held;
}

-- a queue after a take
pub take_is : (v old : PlainView) (q : Queued) (taken rest : List Queued) → v ≡ old → taken ≡ v.taken ++ q ∷ []
    → ◌≡◌ {A = PlainView} (record v { taken = taken; held = rest }) (record old { taken = old.taken ++ q ∷ []; held = rest })
take_is v old q taken rest is e =
    ap (λ t. record v { taken = t; held = rest }) e
    ∙ ap (λ (x : PlainView). record x { taken = x.taken ++ q ∷ []; held = rest }) is
