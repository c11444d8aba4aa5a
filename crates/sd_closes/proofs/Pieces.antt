-- The pieces of one session among those of a queue, and what they are as items and as bodies.
use Rattle.std.proofs.Common.{◌≡◌, ◌≤◌, ◌+◌, ◌==◌, ℕ, suc, arith, refl, sym, ap, ◌∙◌, if◌then◌else◌, Bool, true, false, List, [], ◌∷◌, ◌++◌, length, length-append, map}
use Rattle.std.specs.List.{AllByRecursion}
use Rattle.sd_base.specs.Key.{is_key}
use Rattle.sd_base.specs.declared.number.SessionKey.{SessionKey}
use Rattle.sd_closes.specs.Pieces.{OwnOnly, keyed, pieces_in}
use Rattle.sd_drive.specs.View.{item_of_piece}
use Rattle.sd_lane.specs.Queue.{pieces_of}
use Rattle.sd_lane.specs.declared.piece.Piece.{Piece}
use Rattle.sd_lane.specs.declared.piece.Queued.{Queued}
use Rattle.sd_world.specs.World.{items_with}

-- over two lists, one after the other
pub keyed-append : (key : SessionKey) (ps rest : List Piece) → keyed key (ps ++ rest) ≡ keyed key ps ++ keyed key rest
keyed-append key [] rest = refl
keyed-append key (p ∷ ps) rest = by (is_key key p.key) (keyed-append key ps rest)
  where
    by : (own : Bool) → keyed key (ps ++ rest) ≡ keyed key ps ++ keyed key rest
        → (if own then p ∷ keyed key (ps ++ rest) else keyed key (ps ++ rest)) ≡ (if own then p ∷ keyed key ps else keyed key ps) ++ keyed key rest
    by true e = ap (λ l. p ∷ l) e
    by false e = e

-- pieces that are all the session's
pub keyed_all : (key : SessionKey) (own : List Piece) → AllByRecursion (λ (p : Piece). is_key key p.key ≡ true) own → keyed key own ≡ own
keyed_all key [] all = refl
keyed_all key (p ∷ ps) all = ap (λ (c : Bool). if c then p ∷ keyed key ps else keyed key ps) all.0 ∙ ap (λ (l : List Piece). p ∷ l) (keyed_all key ps all.1)

-- there are as many items of a session as pieces
pub length_items : (key : SessionKey) (ps : List Piece) → length (items_with key (map item_of_piece ps)) ≡ length (keyed key ps)
length_items key [] = refl
length_items key (p ∷ ps) = by (is_key key p.key) (length_items key ps)
  where
    by : (own : Bool) → length (items_with key (map item_of_piece ps)) ≡ length (keyed key ps)
        → length (if own then item_of_piece p ∷ items_with key (map item_of_piece ps) else items_with key (map item_of_piece ps)) ≡ length (if own then p ∷ keyed key ps else keyed key ps)
    by true e = ap suc e
    by false e = e

-- what each piece in a queue becomes
pub map_pieces : {B : Type 0} (f : Piece → B) (qs : List Queued) → map (λ (q : Queued). f q.piece) qs ≡ map f (pieces_in qs)
map_pieces f [] = refl
map_pieces f (q ∷ qs) = ap (λ l. f q.piece ∷ l) (map_pieces f qs)

-- Of one lane.

-- the one list is no longer than the other, and if it is as long it is the same
abbrev Front : List Piece → List Piece → Type 0
Front l r = (length l ≤ length r) × (length r ≤ length l → l ≡ r)

both : (c : Bool) (p : Piece) (l r : List Piece) → Front l r → Front (if c then p ∷ l else l) (if c then p ∷ r else r)
both true p l r f = let a = f.0 in (omega (arith, a), λ h. ap (λ (x : List Piece). p ∷ x) (f.1 (omega (arith, h))))
both false p l r f = f

more : (c : Bool) (p : Piece) (l r : List Piece) → Front l r → Front l (if c then p ∷ r else r)
more true p l r f = let a = f.0 in (omega (arith, a), λ h. absurd (omega (arith, h, a)))
more false p l r f = f

-- a session's pieces by one lane are no more than all of its
front : (key : SessionKey) (lane : ℕ) (qs : List Queued) → Front (keyed key (pieces_of lane qs)) (keyed key (pieces_in qs))
front key lane [] = (omega arith, λ h. refl)
front key lane (q ∷ qs) = by (q.lane == lane) (front key lane qs)
  where
    by : (own : Bool) → Front (keyed key (pieces_of lane qs)) (keyed key (pieces_in qs))
        → Front (keyed key (if own then q.piece ∷ pieces_of lane qs else pieces_of lane qs)) (keyed key (q.piece ∷ pieces_in qs))
    by true f = both (is_key key q.piece.key) q.piece (keyed key (pieces_of lane qs)) (keyed key (pieces_in qs)) f
    by false f = more (is_key key q.piece.key) q.piece (keyed key (pieces_of lane qs)) (keyed key (pieces_in qs)) f

-- a list of no length is empty
none : (ps : List Piece) → length ps ≡ 0 → ps ≡ []
none [] e = refl
none (p ∷ ps) e = absurd (omega (arith, e))

pub own_only : OwnOnly
own_only key lane taken before own is all long =
    let f = front key lane taken in
    let sent : keyed key (before ++ own) ≡ keyed key before ++ own =
    keyed-append key before own ∙ ap (λ (l : List Piece). keyed key before ++ l) (keyed_all key own all) in
    let left : keyed key (pieces_of lane taken) ≡ keyed key before ++ own = ap (keyed key) is ∙ sent in
    let count : length (keyed key (pieces_of lane taken)) ≡ length (keyed key before) + length own = ap length left ∙ length-append (keyed key before) own in
    let a = f.0 in
    let nothing : keyed key before ≡ [] = none (keyed key before) (omega (arith, count, a, long)) in
    let alone : keyed key before ++ own ≡ own = ap (λ (l : List Piece). l ++ own) nothing in
    (sym (f.1 (omega (arith, count, long))) ∙ (left ∙ alone), sent ∙ alone)
