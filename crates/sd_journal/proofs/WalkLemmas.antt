-- What is found of a session among cells.
use Rattle.std.proofs.Common.{◌≡◌, ℕ, Bool, true, false, cond, List, [], ◌∷◌, ◌++◌, map, get_or, refl, ap, ap₂, sym, ◌∙◌}
use Rattle.std.specs.Prelude.{◌==◌, All}
use Rattle.std.specs.List.{fold}
use Rattle.std.proofs.lemmas.Bool.{cond-true, cond-false}
use Rattle.std.proofs.lemmas.List.Elements.{All-cons, All-head, All-tail}
use Rattle.sd_base.specs.FileIndex.{first_nonzero}
use Rattle.sd_base.specs.Key.{is_key}
use Rattle.sd_base.specs.declared.number.SessionKey.{SessionKey}
use Rattle.sd_span.specs.Spans.{placements_of}
use Rattle.sd_journal.specs.Noted.{placement_of, last_index, own_of}
use Rattle.sd_journal.specs.Cells.{behind, tail_of, nothing, key_of, near_by, told_by, with_cell, told}
use Rattle.sd_journal.specs.Walk.{Walk, with_next, walk_step}
use Rattle.sd_journal.specs.declared.cells.Cell.{Cell}
use Rattle.sd_journal.specs.declared.cells.Tail.{Tail}
use Rattle.sd_journal.specs.declared.noted.Noted.{Noted}
use Rattle.sd_journal.proofs.KeyLemmas.{key_same}
use Rattle.sd_journal.proofs.CellLemmas.{next_by, tail_more, index_more}

-- a walk by its parts
pub walk_parts : List Noted → Tail → ℕ → Walk
walk_parts own tail was = record { own = own; tail = tail; was = was }

pub found_own : (key : SessionKey) (w : Walk) (n : Noted) (own : List Noted) (tail : Tail) (was : ℕ) → is_key key n.key ≡ true → own ≡ w.own ++ n ∷ [] → tail ≡ behind n → was ≡ first_nonzero n.last w.was
    → record { own = own; tail = tail; was = was } ≡ with_next key w n
unfolding walk_parts
found_own key w n own tail was is own_is tail_is was_is =
    ap₂ (λ o t. walk_parts o t was) (own_is ∙ sym (cond-true (is_key key n.key) (w.own ++ n ∷ []) w.own is)) tail_is
    ∙ ap (walk_parts (cond (is_key key n.key) (w.own ++ n ∷ []) w.own) (behind n)) (was_is ∙ sym (cond-true (is_key key n.key) (first_nonzero n.last w.was) w.was is))

pub found_other : (key : SessionKey) (w : Walk) (n : Noted) (tail : Tail) → is_key key n.key ≡ false → tail ≡ behind n → record { own = w.own; tail = tail; was = w.was } ≡ with_next key w n
unfolding walk_parts
found_other key w n tail is tail_is =
    ap₂ (λ o t. walk_parts o t w.was) (sym (cond-false (is_key key n.key) (w.own ++ n ∷ []) w.own is)) tail_is
    ∙ ap (walk_parts (cond (is_key key n.key) (w.own ++ n ∷ []) w.own) (behind n)) (sym (cond-false (is_key key n.key) (first_nonzero n.last w.was) w.was is))

-- A cell tells the same block but for its FileIndexes, whatever its session had.

told_key : (whole : List Noted) (c : Cell) (was was' : ℕ) (t : Tail) → (told_by whole c was t).key ≡ (told_by whole c was' t).key
told_key whole c was was' t = from (c.code == 65535)
  where
    from : (b : Bool) → (cond b (get_or whole c.time nothing) (near_by c was t)).key ≡ (cond b (get_or whole c.time nothing) (near_by c was' t)).key
    from true = refl
    from false = refl

told_behind : (whole : List Noted) (c : Cell) (was was' : ℕ) (t : Tail) → behind (told_by whole c was t) ≡ behind (told_by whole c was' t)
told_behind whole c was was' t = from (c.code == 65535)
  where
    from : (b : Bool) → behind (cond b (get_or whole c.time nothing) (near_by c was t)) ≡ behind (cond b (get_or whole c.time nothing) (near_by c was' t))
    from true = refl
    from false = refl

-- and of that session it tells the block
told_own : (whole : List Noted) (c : Cell) (key : SessionKey) (ns : List Noted) (t : Tail) → is_key key (told_by whole c (last_index key ns) t).key ≡ true
    → told_by whole c (last_index key ns) t ≡ told_by whole c (last_index (key_of c) ns) t
told_own whole c key ns t own = from (c.code == 65535) own
  where
    from : (b : Bool) → is_key key (cond b (get_or whole c.time nothing) (near_by c (last_index key ns) t)).key ≡ true
        → cond b (get_or whole c.time nothing) (near_by c (last_index key ns) t) ≡ cond b (get_or whole c.time nothing) (near_by c (last_index (key_of c) ns) t)
    from true own = refl
    from false own = ap (λ k. near_by c (last_index k ns) t) (key_same key (key_of c) own)

-- One block more.

own_more : (key : SessionKey) (ns : List Noted) (n : Noted) → own_of key (ns ++ n ∷ []) ≡ cond (is_key key n.key) (own_of key ns ++ n ∷ []) (own_of key ns)
own_more key [] n = refl
own_more key (m ∷ ns) n = from (is_key key m.key) (is_key key n.key) (own_more key ns n)
  where
    from : (a b : Bool) → own_of key (ns ++ n ∷ []) ≡ cond b (own_of key ns ++ n ∷ []) (own_of key ns)
        → cond a (m ∷ own_of key (ns ++ n ∷ [])) (own_of key (ns ++ n ∷ [])) ≡ cond b (cond a (m ∷ own_of key ns) (own_of key ns) ++ n ∷ []) (cond a (m ∷ own_of key ns) (own_of key ns))
    from true true e = ap (λ l. m ∷ l) e
    from true false e = ap (λ l. m ∷ l) e
    from false true e = e
    from false false e = e

-- what was found of a session is what these blocks have of it
pub record HasWalked (key : SessionKey) (ns : List Noted) (w : Walk) : Type 0 where
  pub own : w.own ≡ own_of key ns
  pub tail : w.tail ≡ tail_of ns
  pub was : w.was ≡ last_index key ns

step : (whole : List Noted) (key : SessionKey) (ns : List Noted) (c : Cell) (w : Walk) → HasWalked key ns w → HasWalked key (with_cell whole ns c) (walk_step whole key w c)
step whole key ns c w has =
    let found : told_by whole c w.was w.tail ≡ told_by whole c (last_index key ns) (tail_of ns) = ap₂ (told_by whole c) has.was has.tail in
    from (is_key key (told_by whole c w.was w.tail).key) refl found
  where
    n : Noted
    n = told_by whole c w.was w.tail

    m : Noted
    m = next_by whole ns c

    ends : n ≡ told_by whole c (last_index key ns) (tail_of ns) → behind n ≡ tail_of (ns ++ m ∷ [])
    ends found = ap behind found ∙ told_behind whole c (last_index key ns) (last_index (key_of c) ns) (tail_of ns) ∙ sym (tail_more ns m)

    from : (b : Bool) → is_key key n.key ≡ b → n ≡ told_by whole c (last_index key ns) (tail_of ns) → HasWalked key (ns ++ m ∷ []) (walk_step whole key w c)
    from true own found =
        let is : n ≡ m = found ∙ told_own whole c key ns (tail_of ns) (sym (ap (λ x. is_key key x.key) found) ∙ own) in
        let own' : is_key key m.key ≡ true = sym (ap (λ x. is_key key x.key) is) ∙ own in
        record {
          own = cond-true (is_key key n.key) (w.own ++ n ∷ []) w.own own ∙ ap₂ (λ l x. l ++ x ∷ []) has.own is
              ∙ sym (own_more key ns m ∙ cond-true (is_key key m.key) (own_of key ns ++ m ∷ []) (own_of key ns) own');
          tail = ends found;
          was = cond-true (is_key key n.key) (first_nonzero n.last w.was) w.was own ∙ ap₂ (λ (x : Noted) (l : ℕ). first_nonzero x.last l) is has.was
              ∙ sym (index_more key ns m ∙ cond-true (is_key key m.key) (first_nonzero m.last (last_index key ns)) (last_index key ns) own');
        }
    from false other found =
        let other' : is_key key m.key ≡ false = ap (is_key key) (sym (ap (λ (x : Noted). x.key) found ∙ told_key whole c (last_index key ns) (last_index (key_of c) ns) (tail_of ns))) ∙ other in
        record {
          own = cond-false (is_key key n.key) (w.own ++ n ∷ []) w.own other ∙ has.own
              ∙ sym (own_more key ns m ∙ cond-false (is_key key m.key) (own_of key ns ++ m ∷ []) (own_of key ns) other');
          tail = ends found;
          was = cond-false (is_key key n.key) (first_nonzero n.last w.was) w.was other ∙ has.was
              ∙ sym (index_more key ns m ∙ cond-false (is_key key m.key) (first_nonzero m.last (last_index key ns)) (last_index key ns) other');
        }

steps : (whole : List Noted) (key : SessionKey) (ns : List Noted) (cells : List Cell) (w : Walk) → HasWalked key ns w → HasWalked key (fold (with_cell whole) ns cells) (fold (walk_step whole key) w cells)
steps whole key ns [] w has = has
steps whole key ns (c ∷ cs) w has = steps whole key (with_cell whole ns c) cs (walk_step whole key w c) (step whole key ns c w has)

-- before the first cell
abbrev pub unwalked : Walk
unwalked = record { own = []; tail = record { volume = 0; end = 0 }; was = 0 }

-- all of the session's blocks are found
pub walked_own : (whole : List Noted) (key : SessionKey) (cells : List Cell) → (fold (walk_step whole key) unwalked cells).own ≡ own_of key (told whole cells)
walked_own whole key cells = (steps whole key [] cells unwalked (record { own = refl; tail = refl; was = refl })).own

-- With names.

pub own_placed : (key : SessionKey) (names : List (List ℕ)) (ns : List Noted) → map (placement_of names) (own_of key ns) ≡ placements_of key (map (placement_of names) ns)
own_placed key names [] = refl
own_placed key names (n ∷ ns) = from (is_key key n.key) (own_placed key names ns)
  where
    from : (b : Bool) → map (placement_of names) (own_of key ns) ≡ placements_of key (map (placement_of names) ns)
        → map (placement_of names) (cond b (n ∷ own_of key ns) (own_of key ns)) ≡ cond b (placement_of names n ∷ placements_of key (map (placement_of names) ns)) (placements_of key (map (placement_of names) ns))
    from true e = ap (λ l. placement_of names n ∷ l) e
    from false e = e

pub own_holds : (P : Noted → Type 0) (key : SessionKey) (ns : List Noted) → All P ns → All P (own_of key ns)
own_holds P key [] all = all
own_holds P key (n ∷ ns) all = from (is_key key n.key) (own_holds P key ns (All-tail P n ns all))
  where
    from : (b : Bool) → All P (own_of key ns) → All P (cond b (n ∷ own_of key ns) (own_of key ns))
    from true rest = All-cons P n (own_of key ns) (All-head P n ns all) rest
    from false rest = rest
