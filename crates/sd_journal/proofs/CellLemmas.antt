-- What cells tell.
use Rattle.std.proofs.Common.{◌≡◌, ℕ, ◌+◌, Bool, true, false, cond, List, [], ◌∷◌, ◌++◌, length, get_or, refl, ap, ap₂, sym, ◌∙◌, arith, subst}
use Rattle.std.specs.Prelude.{◌==◌, All}
use Rattle.std.specs.List.{fold}
use Rattle.std.proofs.lemmas.Bool.{cond-true, cond-false, eqb-true}
use Rattle.std.proofs.lemmas.List.{get_or_append_left, get_or_push, length_push, append-nil}
use Rattle.std.proofs.lemmas.List.Elements.{All-head, All-tail, All-push, All-weaker}
use Rattle.std.proofs.lemmas.List.Sums.{fold_push}
use Rattle.sd_base.specs.declared.number.SessionKey.{SessionKey}
use Rattle.sd_journal.specs.Noted.{index_after, last_index}
use Rattle.sd_journal.specs.Cells.{CellsView, behind, tail_of, nothing, key_of, near_by, told_by, with_cell, told, HasKey, IsThere}
use Rattle.sd_journal.specs.declared.cells.Cell.{Cell}
use Rattle.sd_journal.specs.declared.cells.Tail.{Tail}
use Rattle.sd_journal.specs.declared.noted.Noted.{Noted}

-- what no place of a list has
abbrev pub blank : Cell
blank = record { time = 0; id = 0; length = 0; code = 0 }

-- the block that a cell tells behind these
abbrev pub next_by : List Noted → List Noted → Cell → Noted
next_by whole ns c = told_by whole c (last_index (key_of c) ns) (tail_of ns)

-- a view by its parts
abbrev pub cells_view : List Noted → ℕ → CellsView
cells_view noted room = record { noted = noted; room = room }

-- a cell that tells a block of itself has the block's key
pub told_has_key : (whole : List Noted) (c : Cell) (was : ℕ) (t : Tail) (n : Noted) → (c.code == 65535) ≡ false → told_by whole c was t ≡ n → HasKey n.key c
told_has_key whole c was t n near told_is = ap (λ m. m.key) (sym (cond-false (c.code == 65535) (get_or whole c.time nothing) (near_by c was t) near) ∙ told_is)

-- One cell more.

pub told_more : (whole : List Noted) (cells : List Cell) (c : Cell) → told whole (cells ++ c ∷ []) ≡ told whole cells ++ next_by whole (told whole cells) c ∷ []
told_more whole cells c = fold_push (with_cell whole) [] cells c

pub tail_more : (ns : List Noted) (n : Noted) → tail_of (ns ++ n ∷ []) ≡ behind n
tail_more ns n = fold_push (λ (t : Tail) (m : Noted). behind m) (record { volume = 0; end = 0 }) ns n

pub index_more : (key : SessionKey) (ns : List Noted) (n : Noted) → last_index key (ns ++ n ∷ []) ≡ index_after key (last_index key ns) n
index_more key ns n = fold_push (index_after key) 0 ns n

-- each cell tells one
pub told_count : (whole : List Noted) (cells : List Cell) → length (told whole cells) ≡ length cells
told_count whole cells = let all = from [] cells in omega (arith, all)
  where
    from : (ns : List Noted) (cs : List Cell) → length (fold (with_cell whole) ns cs) ≡ length ns + length cs
    from ns [] = omega arith
    from ns (c ∷ cs) =
        let rest = from (with_cell whole ns c) cs in
        let one = length_push ns (next_by whole ns c) in omega (arith, rest, one)

-- One block more that is kept whole.

same_told : (whole : List Noted) (n : Noted) (c : Cell) (was : ℕ) (t : Tail) → IsThere whole c → told_by (whole ++ n ∷ []) c was t ≡ told_by whole c was t
same_told whole n c was t there = from (c.code == 65535) refl
  where
    from : (b : Bool) → (c.code == 65535) ≡ b → told_by (whole ++ n ∷ []) c was t ≡ told_by whole c was t
    from true is =
        cond-true (c.code == 65535) (get_or (whole ++ n ∷ []) c.time nothing) (near_by c was t) is
        ∙ get_or_append_left whole (n ∷ []) nothing c.time (there (eqb-true c.code 65535 is))
        ∙ sym (cond-true (c.code == 65535) (get_or whole c.time nothing) (near_by c was t) is)
    from false is =
        cond-false (c.code == 65535) (get_or (whole ++ n ∷ []) c.time nothing) (near_by c was t) is
        ∙ sym (cond-false (c.code == 65535) (get_or whole c.time nothing) (near_by c was t) is)

same_from : (whole : List Noted) (n : Noted) (ns : List Noted) (cells : List Cell) → All (IsThere whole) cells → fold (with_cell (whole ++ n ∷ [])) ns cells ≡ fold (with_cell whole) ns cells
same_from whole n ns [] there = refl
same_from whole n ns (c ∷ cs) there =
    ap (λ m. fold (with_cell (whole ++ n ∷ [])) (ns ++ m ∷ []) cs) (same_told whole n c (last_index (key_of c) ns) (tail_of ns) (All-head (IsThere whole) c cs there))
    ∙ same_from whole n (with_cell whole ns c) cs (All-tail (IsThere whole) c cs there)

-- the cells tell what they told
pub told_still : (whole : List Noted) (n : Noted) (cells : List Cell) → All (IsThere whole) cells → told (whole ++ n ∷ []) cells ≡ told whole cells
told_still whole n cells there = same_from whole n [] cells there

pub there_still : (whole : List Noted) (n : Noted) (cells : List Cell) → All (IsThere whole) cells → All (IsThere (whole ++ n ∷ [])) cells
there_still whole n cells there =
    All-weaker (IsThere whole) (IsThere (whole ++ n ∷ [])) (λ c here is. (let low = here is in let long = length_push whole n in omega (arith, low, long))) cells there

-- and that block is told by its own
pub whole_told : (whole : List Noted) (n : Noted) (c : Cell) (was : ℕ) (t : Tail) → c.code ≡ 65535 → c.time ≡ length whole → told_by (whole ++ n ∷ []) c was t ≡ n
whole_told whole n c was t code place =
    ap (λ k. cond (k == 65535) (get_or (whole ++ n ∷ []) c.time nothing) (near_by c was t)) code ∙ get_or_push whole n nothing c.time (sym place)

-- A cell tells one block, whichever blocks it was made beside.

-- what is told by a cell that was made for a block
pub told_for : (whole : List Noted) (n : Noted) (c : Cell) (ns : List Noted) → ((c.code == 65535) ≡ false → HasKey n.key c) → told_by whole c (last_index n.key ns) (tail_of ns) ≡ n → next_by whole ns c ≡ n
told_for whole n c ns key told_is = from (c.code == 65535) refl
  where
    from : (b : Bool) → (c.code == 65535) ≡ b → next_by whole ns c ≡ n
    from true is =
        cond-true (c.code == 65535) (get_or whole c.time nothing) (near_by c (last_index (key_of c) ns) (tail_of ns)) is
        ∙ sym (cond-true (c.code == 65535) (get_or whole c.time nothing) (near_by c (last_index n.key ns) (tail_of ns)) is) ∙ told_is
    from false is = ap (λ k. told_by whole c (last_index k ns) (tail_of ns)) (key is) ∙ told_is

-- the blocks with one more, whether it is kept whole or not
pub told_with : (whole whole' : List Noted) (cells : List Cell) (n : Noted) (c : Cell) → All (IsThere whole) cells → whole' ≡ whole ++ cond (c.code == 65535) (n ∷ []) []
    → ((c.code == 65535) ≡ false → HasKey n.key c) → told_by whole' c (last_index n.key (told whole cells)) (tail_of (told whole cells)) ≡ n → told whole' (cells ++ c ∷ []) ≡ told whole cells ++ n ∷ []
told_with whole whole' cells n c there grown key told_is =
    let still : told whole' cells ≡ told whole cells = ap (λ w. told w cells) grown ∙ from (c.code == 65535) in
    told_more whole' cells c ∙ ap₂ (λ l m. l ++ m ∷ []) still (ap (λ ns. next_by whole' ns c) still ∙ told_for whole' n c (told whole cells) key told_is)
  where
    from : (b : Bool) → told (whole ++ cond b (n ∷ []) []) cells ≡ told whole cells
    from true = told_still whole n cells there
    from false = ap (λ w. told w cells) (append-nil whole)

pub there_with : (whole whole' : List Noted) (cells : List Cell) (n : Noted) (c : Cell) → All (IsThere whole) cells → whole' ≡ whole ++ cond (c.code == 65535) (n ∷ []) [] → IsThere whole' c
    → All (IsThere whole') (cells ++ c ∷ [])
there_with whole whole' cells n c there grown here =
    All-push (IsThere whole') cells c (subst (λ w. All (IsThere w) cells) (sym grown) (from (c.code == 65535))) here
  where
    from : (b : Bool) → All (IsThere (whole ++ cond b (n ∷ []) [])) cells
    from true = there_still whole n cells there
    from false = subst (λ w. All (IsThere w) cells) (sym (append-nil whole)) there
