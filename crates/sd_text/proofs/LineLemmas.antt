-- The lines of a text: what is written as lines has these lines, and its lines make the text again.
use Rattle.std.proofs.Common.{◌≡◌, ◌≢◌, ◌⊎◌, ℕ, suc, ◌+◌, ◌<◌, refl, sym, ap, ap₂, ◌∙◌, arith, inl, inr, true, false, cond, List, [], ◌∷◌, ◌++◌, length, length-append, eqb-true}
use Rattle.std.specs.Prelude.{◌==◌, All, not, codes}
use Rattle.std.specs.List.{AllByRecursion, flat_map, join_with_byte, onto_first, position_or_len, before_first, after_first}
use Rattle.std.proofs.lemmas.Bool.{ne_eqb, cond-true, cond-false}
use Rattle.std.proofs.lemmas.Grind.{common_steps}
use Rattle.std.proofs.lemmas.List.{append_assoc, append_cancel_right}
use Rattle.std.proofs.lemmas.List.Elements.{All-head, All-tail, All-from_recursion}
use Rattle.std.proofs.lemmas.List.Sums.{split_at_first, fails_before_first, passes_at_first}
use Rattle.sd_text.specs.Lines.{line, is_newline, lines_of}

-- there is no newline in the text
abbrev pub HasNoNewline : List ℕ → Type 0
HasNoNewline text = AllByRecursion (λ c. c ≢ 10) text

-- a line that is ended, and those after it
lines_of-at : (l : List ℕ) (y : ℕ) (rest : List ℕ) → All (λ c. is_newline c ≡ false) l → is_newline y ≡ true → lines_of (l ++ y ∷ rest) ≡ l ∷ lines_of rest
lines_of-at [] y rest plain ends = cond-true (is_newline y) _ _ ends
lines_of-at (c ∷ l) y rest plain ends =
    cond-false (is_newline c) _ _ (All-head (λ d. is_newline d ≡ false) c l plain)
    ∙ ap (onto_first c) (lines_of-at l y rest (All-tail (λ d. is_newline d ≡ false) c l plain) ends)

passes_none : (l : List ℕ) → HasNoNewline l → AllByRecursion (λ c. is_newline c ≡ false) l
passes_none [] plain = tt
passes_none (c ∷ l) plain = (ne_eqb c 10 plain.0, passes_none l plain.1)

pub lines_of-ended : (l rest : List ℕ) → HasNoNewline l → lines_of (line l ++ rest) ≡ l ∷ lines_of rest
lines_of-ended l rest plain =
    ap lines_of (append_assoc l (codes "\n") rest)
    ∙ lines_of-at l 10 rest (All-from_recursion (λ c. is_newline c ≡ false) l (passes_none l plain)) refl

-- a last line that lacks its newline
lines_of-last : (l : List ℕ) → HasNoNewline l → 0 < length l → lines_of l ≡ l ∷ []
lines_of-last [] plain some_there = absurd (omega arith)
lines_of-last (c ∷ []) plain some_there = cond-false (is_newline c) _ _ (ne_eqb c 10 plain.0)
lines_of-last (c ∷ d ∷ l) plain some_there =
    cond-false (is_newline c) _ _ (ne_eqb c 10 plain.0) ∙ ap (onto_first c) (lines_of-last (d ∷ l) plain.1 (omega arith))

-- lines that are written one after another
pub lines_of-all : (ls : List (List ℕ)) → AllByRecursion HasNoNewline ls → lines_of (flat_map line ls) ≡ ls
lines_of-all [] plain = refl
lines_of-all (l ∷ ls) plain = lines_of-ended l (flat_map line ls) plain.0 ∙ ap (λ rest. l ∷ rest) (lines_of-all ls plain.1)

-- lines that are written one after another, if the last one lacks its newline
lines_of-joined : (l : List ℕ) (ls : List (List ℕ)) → AllByRecursion HasNoNewline (l ∷ ls) → AllByRecursion (λ m. 0 < length m) (l ∷ ls)
    → lines_of (join_with_byte 10 (l ∷ ls)) ≡ l ∷ ls
lines_of-joined l [] plain some_there = lines_of-last l plain.0 some_there.0
lines_of-joined l (m ∷ ls) plain some_there =
    lines_of-at l 10 (join_with_byte 10 (m ∷ ls)) (All-from_recursion (λ c. is_newline c ≡ false) l (passes_none l plain.0)) refl
    ∙ ap (λ rest. l ∷ rest) (lines_of-joined m ls plain.1 some_there.1)

joined-ended : (l : List ℕ) (ls : List (List ℕ)) → flat_map line (l ∷ ls) ≡ line (join_with_byte 10 (l ∷ ls))
joined-ended l [] = append_assoc l (codes "\n") []
joined-ended l (m ∷ ls) =
    append_assoc l (codes "\n") (flat_map line (m ∷ ls)) ∙ ap (λ rest. l ++ 10 ∷ rest) (joined-ended m ls)
    ∙ sym (append_assoc l (10 ∷ join_with_byte 10 (m ∷ ls)) (codes "\n"))

pub lines_of-unended : (text l : List ℕ) (ls : List (List ℕ)) → AllByRecursion HasNoNewline (l ∷ ls) → AllByRecursion (λ m. 0 < length m) (l ∷ ls)
    → line text ≡ flat_map line (l ∷ ls) → lines_of text ≡ l ∷ ls
lines_of-unended text l ls plain some_there e =
    ap lines_of (append_cancel_right text (join_with_byte 10 (l ∷ ls)) (codes "\n") (e ∙ joined-ended l ls)) ∙ lines_of-joined l ls plain some_there

-- the text is these lines, but that the last may lack its newline
abbrev pub IsMadeOf : List ℕ → List (List ℕ) → Type 0
IsMadeOf text ls = (text ≡ flat_map line ls) ⊎ (line text ≡ flat_map line ls)

newline-made : (c : ℕ) (text : List ℕ) (ls : List (List ℕ)) → c ≡ 10 → IsMadeOf text ls → IsMadeOf (c ∷ text) ([] ∷ ls)
newline-made c text ls same (inl e) = inl (ap₂ (λ d t. d ∷ t) same e)
newline-made c text ls same (inr e) = inr (ap₂ (λ d t. d ∷ t) same e)

onto_first-made : (c : ℕ) (text : List ℕ) (ls : List (List ℕ)) → IsMadeOf text ls → IsMadeOf (c ∷ text) (onto_first c ls)
onto_first-made c text [] (inl e) = inr (ap (λ t. c ∷ line t) e)
onto_first-made c text [] (inr e) = absurd (omega (arith, length-append text (codes "\n"), ap length e))
onto_first-made c text (l ∷ ls) (inl e) = inl (ap (λ t. c ∷ t) e)
onto_first-made c text (l ∷ ls) (inr e) = inr (ap (λ t. c ∷ t) e)

pub lines-make : (text : List ℕ) → IsMadeOf text (lines_of text)
lines-make [] = inl refl
lines-make (c ∷ text) = elim (is_newline c) as (λ b. is_newline c ≡ b → IsMadeOf (c ∷ text) (cond b ([] ∷ lines_of text) (onto_first c (lines_of text)))) [
  | true ↦ λ e. newline-made c text (lines_of text) (eqb-true c 10 e) (lines-make text)
  | false ↦ λ e. onto_first-made c text (lines_of text) (lines-make text)
] refl

-- What the code finds.

pub lines_of-first : (text first behind : List ℕ) → first ≡ before_first is_newline text → behind ≡ after_first is_newline text
    → position_or_len is_newline text < length text → lines_of text ≡ first ∷ lines_of behind
lines_of-first text first behind before after within =
    let front : All (λ c. is_newline c ≡ false) (before_first is_newline text) =
    λ k e m. let k' = fails_before_first is_newline text k e (grind (arith, common_steps)) in grind (arith, common_steps) in
    ap lines_of (split_at_first is_newline text 0 within)
    ∙ lines_of-at (before_first is_newline text) _ (after_first is_newline text) front (passes_at_first is_newline text 0 within)
    ∙ ap₂ (λ f b. f ∷ lines_of b) (sym before) (sym after)

one_line : (c : ℕ) (text : List ℕ) → position_or_len is_newline (c ∷ text) ≡ length (c ∷ text) → lines_of (c ∷ text) ≡ (c ∷ text) ∷ []
one_line c [] e = elim (is_newline c) as (λ b. cond (not b) (1 + position_or_len is_newline []) 0 ≡ 1 → cond b ([] ∷ []) ((c ∷ []) ∷ []) ≡ (c ∷ []) ∷ []) [
  | true ↦ λ wrong. absurd (omega arith)
  | false ↦ λ same. refl
] e
one_line c (d ∷ text) e = elim (is_newline c) as (λ b. cond (not b) (1 + position_or_len is_newline (d ∷ text)) 0 ≡ suc (length (d ∷ text))
    → cond b ([] ∷ lines_of (d ∷ text)) (onto_first c (lines_of (d ∷ text))) ≡ (c ∷ d ∷ text) ∷ []) [
      | true ↦ λ wrong. absurd (omega arith)
      | false ↦ λ same. ap (onto_first c) (one_line d text (omega arith))
    ] e

pub lines_of-one : (text : List ℕ) → false ≡ (length text == 0) → position_or_len is_newline text ≡ length text → lines_of text ≡ text ∷ []
lines_of-one [] some_there e = absurd (cc some_there)
lines_of-one (c ∷ text) some_there e = one_line c text e
