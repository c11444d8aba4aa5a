-- The bytes of a reader's buffer as those of its volume.
use Rattle.std.proofs.Common.{◌≡◌, inl, inr, ℕ, ◌+◌, ◌-◌, ◌≤◌, min, List, [], ◌++◌, length, take, drop, refl, sym, ap, ap₂, ◌∙◌, arith, Some}
use Rattle.std.proofs.Math.Seq.{take-add}
use Rattle.std.proofs.lemmas.List.{length-take, length-drop, take-take, take_min, drop-drop, drop-take, take_all, take_at, drop_at, take-append-le}
use Rattle.std.proofs.lemmas.Bool.{cases_lt}
use Rattle.std.specs.List.{copy_within}
use Rattle.sd_driver.specs.Shelf.{Shelf, Held, BeginsWith}
use Rattle.sd_driver.specs.Meaning.{TellsBytes}
use Rattle.sd_volume.specs.Reader.{ReaderView, Shows}
use Rattle.sd_driver.proofs.Lasting.{BeginsWith-length}

-- what is kept, and what was read after it
pub refilled : (bytes kept part : List ℕ) (at room count most : ℕ) → BeginsWith (drop at bytes) kept → length kept + room ≡ most
    → count ≡ min room (length bytes - (at + length kept)) → take count part ≡ take count (drop (at + length kept) bytes)
    → kept ++ take count part ≡ take most (drop at bytes)
refilled bytes kept part at room count most begins whole is read =
    let rest = drop at bytes in
    let k = length kept in
    let short = BeginsWith-length rest kept begins in
    let joined : kept ++ take count part ≡ take k rest ++ take count (drop k rest) = ap₂ (λ (a b : List ℕ). a ++ b) (sym begins) (read ∙ ap (take count) (sym (drop-drop k at bytes))) in
    let many : k + count ≡ min most (length rest) = omega (arith, length-drop at bytes) in
    joined ∙ sym (take-add k count rest) ∙ ap (λ n. take n rest) many ∙ take_min most rest

-- a part of what is held
pub part_of_held : (bytes held : List ℕ) (from at count : ℕ) → BeginsWith (drop from bytes) held → from ≤ at → at + count ≤ from + length held
    → take count (drop (at - from) held) ≡ take count (drop at bytes)
part_of_held bytes held from at count begins low high =
    let skip = at - from in
    let rest = drop from bytes in
    let more = length held - skip in
    let whole : length held ≡ skip + more = omega arith in
    let held_is : held ≡ take (skip + more) rest = sym begins ∙ ap (λ n. take n rest) whole in
    let there : drop skip rest ≡ drop at bytes = drop-drop skip from bytes ∙ ap (λ n. drop n bytes) (omega arith) in
    ap (λ (l : List ℕ). take count (drop skip l)) held_is ∙ ap (take count) (drop-take skip more rest) ∙ take-take count more (drop skip rest) (omega arith) ∙ ap (take count) there

-- what is held from a place on is there
pub held_from : (bytes held kept : List ℕ) (from at : ℕ) → BeginsWith (drop from bytes) held → from ≤ at → at ≤ from + length held
    → kept ≡ drop (at - from) held → BeginsWith (drop at bytes) kept
held_from bytes held kept from at begins low high is =
    let skip = at - from in
    let long : length kept ≡ length held - skip = ap length is ∙ length-drop skip held in
    let part = part_of_held bytes held from at (length held - skip) begins low (omega arith) in
    ap (λ n. take n (drop at bytes)) long ∙ sym part ∙ take_all (length held - skip) (drop skip held) (omega (arith, length-drop skip held)) ∙ sym is

-- The buffer.

-- a front of a front
take_either : (m n : ℕ) (xs : List ℕ) → take m (take n xs) ≡ take (min m n) xs
take_either m n xs = elim (cases_lt n m) [
  | inl lt ↦ take_all m (take n xs) (omega (arith, length-take n xs)) ∙ ap (λ k. take k xs) (omega arith)
  | inr le ↦ take-take m n xs le ∙ ap (λ k. take k xs) (omega arith)
]

-- what is shown out of the bytes that are held
pub shown_of_held : (buffer : List ℕ) (held start count many : ℕ) → many ≡ min count (held - start) → start ≤ held
    → take many (drop start buffer) ≡ take count (drop start (take held buffer))
shown_of_held buffer held start count many is within =
    let more = held - start in
    let behind : drop start (take held buffer) ≡ take more (drop start buffer) = ap (λ n. drop start (take n buffer)) (omega arith) ∙ drop-take start more buffer in
    ap (λ n. take n (drop start buffer)) is ∙ sym (take_either count more (drop start buffer)) ∙ ap (take count) (sym behind)

-- what was moved to the front
pub moved_front : (buffer after : List ℕ) (held kept : ℕ) → kept ≤ held → held ≤ length buffer → after ≡ copy_within buffer (held - kept) held 0
    → take kept after ≡ drop (held - kept) (take held buffer)
moved_front buffer after held kept within fits is =
    let skip = held - kept in
    let many : held - skip ≡ kept = omega arith in
    let part = take kept (drop skip buffer) in
    let long : length part ≡ kept = length-take kept (drop skip buffer) ∙ omega (arith, length-drop skip buffer) in
    let after_is : after ≡ part ++ drop (0 + kept) buffer = is ∙ ap (λ n. take n (drop skip buffer) ++ drop (0 + n) buffer) many in
    let behind : drop skip (take held buffer) ≡ part = ap (λ n. drop skip (take n buffer)) (omega arith) ∙ drop-take skip kept buffer in
    ap (take kept) after_is ∙ take_at part (drop (0 + kept) buffer) kept long ∙ sym behind

-- what comes after a front
take_behind : (xs ys : List ℕ) (n k : ℕ) → k ≡ length xs → take (k + n) (xs ++ ys) ≡ xs ++ take n ys
take_behind xs ys n k is = take-add k n (xs ++ ys) ∙ ap₂ (λ (a b : List ℕ). a ++ take n b) (take_at xs ys k (sym is)) (drop_at xs ys k (sym is))

-- what the device read after the bytes that are held
pub read_there : (name : List ℕ) (shelf : Shelf) (volume : Held) (buffer part post : List ℕ) (at held room count : ℕ)
    → shelf.volume name ≡ Some volume → held ≤ length buffer → room ≡ length buffer - held → length part ≡ room
    → BeginsWith (drop at volume.bytes) (take held buffer) → TellsBytes name (at + held) room count part shelf
    → take (held + count) (take held buffer ++ (part ++ post)) ≡ take (length buffer) (drop at volume.bytes)
read_there name shelf volume buffer part post at held room count there within room_is long begins tells =
    let kept = take held buffer in
    let kept_long : length kept ≡ held = length-take held buffer ∙ omega arith in
    let same : tells.held.bytes ≡ volume.bytes = ap (λ (h : Held). h.bytes) (some_is (sym tells.there ∙ there)) in
    let many : count ≡ min room (length volume.bytes - (at + length kept)) = omega (arith, tells.count_is, ap length same) in
    let read : take count part ≡ take count (drop (at + length kept) volume.bytes) = tells.bytes ∙ ap₂ (λ n (l : List ℕ). take count (drop n l)) (omega arith) same in
    take_behind kept (part ++ post) count held (sym kept_long) ∙ ap (λ (l : List ℕ). kept ++ l) (take-append-le count part post (omega (arith, tells.count_is)))
    ∙ refilled volume.bytes kept part at room count (length buffer) begins (omega arith) many read
  where
    some_is : {a b : Held} → Some a ≡ Some b → a ≡ b
    some_is e = cc

-- a buffer that was lent whole
pub lent_whole : (buffer rest : List ℕ) (n k : ℕ) → length buffer ≡ n → take k (take n (buffer ++ rest)) ≡ take k buffer
lent_whole buffer rest n k long = ap (take k) (take_at buffer rest n long)

-- a part of a buffer that was filled from there
pub part_of_full : (bytes held : List ℕ) (from at count : ℕ) → count ≤ 1048576 → held ≡ take 1048576 (drop at bytes) → from ≡ at
    → take count (drop (at - from) held) ≡ take count (drop at bytes)
part_of_full bytes held from at count most is there =
    let none : at - from ≡ 0 = omega arith in
    ap (λ n. take count (drop n held)) none ∙ ap (take count) is ∙ take-take count 1048576 (drop at bytes) most

-- a reader that holds nothing shows nothing wrong
pub shows_nothing : (reader : ReaderView) (shelf : Shelf) → reader.bytes ≡ [] → Shows reader shelf
shows_nothing reader shelf none = λ held there. rw none refl
