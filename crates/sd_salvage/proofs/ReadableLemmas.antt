-- Which blocks of a span can be read.
use Rattle.std.proofs.lemmas.Bool.{cases_lt, le-ltb}
use Rattle.std.proofs.Common.{◌≡◌, inl, inr, ℕ, ◌+◌, ◌<◌, ◌≤◌, refl, sym, ap, subst, ◌∙◌, arith, List, [], ◌∷◌, ◌++◌, length, take, drop}
use Rattle.std.specs.Prelude.{min, Option, None, Some, Bool, true, false, ◌&&◌, nat_eq, if◌then◌else◌}
use Rattle.std.proofs.lemmas.Cmp.{nat_eq_equiv}
use Rattle.std.proofs.lemmas.List.{append_assoc, length-take, length-drop, take-append-drop}
use Rattle.sd_base.specs.Limits.{most_block}
use Rattle.sd_base.specs.declared.number.SessionKey.{SessionKey}
use Rattle.sd_block.proofs.ImageLemmas.{one_image}
use Rattle.sd_volume.proofs.ImageLemmas.{length-image}
use Rattle.sd_volume.specs.Image.{BeginsWithBlock}
use Rattle.sd_scan.specs.Run.{IsFirstWhole, NoneBetween}
use Rattle.sd_salvage.specs.Readable.{AreReadable, IsNext, Lost, Piece, Read, Stored, before, end_of, is_due, pieces_of, place, rest_of}

-- a whole block lies within the volume
within_bytes : (bytes : List ℕ) (at : ℕ) (key : SessionKey) (number : ℕ) (body : List ℕ) → BeginsWithBlock (drop at bytes) key number body → at + (24 + length body) ≤ length bytes
within_bytes bytes at key number body begins =
    let long = length-image (take (24 + length body) (drop at bytes)) key number body begins in
    omega (arith, long, length-take (24 + length body) (drop at bytes), length-drop at bytes)

-- blocks that begin at one place are equally long
pub one_size : (bytes : List ℕ) (key key' : SessionKey) (number number' : ℕ) (body body' : List ℕ) → BeginsWithBlock bytes key number body → BeginsWithBlock bytes key' number' body'
    → length body ≡ length body'
one_size bytes key key' number number' body body' begins begins' =
    let image = take (24 + length body) bytes in
    let image' = take (24 + length body') bytes in
    let both : image ++ drop (24 + length body) bytes ≡ image' ++ drop (24 + length body') bytes =
    take-append-drop (24 + length body) bytes ∙ sym (take-append-drop (24 + length body') bytes) in
    let same : image ≡ image' = (one_image most_block most_block image image' _ _ (record { key = key; number = number; body = body; block = begins }) (record { key = key'; number = number'; body = body'; block = begins' }) both).0 in
    let long = length-image image key number body begins in
    let long' = length-image image' key' number' body' begins' in
    let lengths = ap length same in
    omega (arith, long, long', lengths)

-- none begins before the end of the span or of the volume
pub none_left : (bytes : List ℕ) (from limit end : ℕ) → limit ≡ min (length bytes) end → NoneBetween bytes from limit → AreReadable bytes from end []
none_left bytes from limit end limit_is none b next =
    let within = within_bytes bytes b.at b.block.key b.number b.block.body next.there in
    none b.at next.behind (omega (arith, within, next.within, limit_is)) b.block.key b.number b.block.body next.there

-- the first one goes past the end
pub none_within : (bytes : List ℕ) (from at number end : ℕ) (key : SessionKey) (body : List ℕ) → IsFirstWhole bytes from at number → BeginsWithBlock (drop at bytes) key number body
    → end < at + (24 + length body) → AreReadable bytes from end []
none_within bytes from at number end key body first begins past b next =
    let same = place_same at b.at refl refl in
    let size = one_size (drop at bytes) key b.block.key number b.number body b.block.body begins (subst (λ n. BeginsWithBlock (drop n bytes) b.block.key b.number b.block.body) (sym same) next.there) in
    omega (arith, next.within, past, size, same)
  where
    place_same : (x y : ℕ) → at ≡ x → b.at ≡ y → at ≡ b.at
    place_same x y x_is y_is = elim (cases_lt at b.at) [
      | inl below ↦ absurd (next.none_before at first.behind below key number body begins)
      | inr not ↦ elim (cases_lt b.at at) [
        | inl below ↦ absurd (first.none_before b.at next.behind below b.block.key b.number b.block.body next.there)
        | inr nor ↦ omega (arith, not, nor)
      ]
    ]

-- the first one is next
pub first_next : (bytes : List ℕ) (from at number end : ℕ) (key : SessionKey) (body : List ℕ) → IsFirstWhole bytes from at number → BeginsWithBlock (drop at bytes) key number body
    → at + (24 + length body) ≤ end → IsNext bytes from end (record { at = at; number = number; block = record { key = key; body = body } })
first_next bytes from at number end key body first begins within = record { behind = first.behind; there = begins; none_before = first.none_before; within = within }

-- what was found so far goes on with what is found from a place on
abbrev pub GoesFrom : List ℕ → List ℕ → ℕ → ℕ → ℕ → Option ℕ → List Piece → Type 0
GoesFrom volume bytes start end at last done =
    (bs : List Stored) → AreReadable bytes at end bs
    → (all : List Stored) × AreReadable bytes start end all × (pieces_of volume start None end all ≡ done ++ pieces_of volume at last end bs)

pub from_start : (volume bytes : List ℕ) (start end : ℕ) → GoesFrom volume bytes start end start None []
from_start volume bytes start end bs are = (bs, are, refl)

pub from_next : (volume bytes : List ℕ) (start end at : ℕ) (last : Option ℕ) (done : List Piece) (b : Stored) → GoesFrom volume bytes start end at last done → IsNext bytes at end b
    → GoesFrom volume bytes start end (end_of b) (Some b.number) (done ++ (before volume at last b ++ Read (place volume b.at) b.block ∷ []))
from_next volume bytes start end at last done b goes next bs are =
    let all = goes (b ∷ bs) (next, are) in
    let gap = before volume at last b in
    let read = Read (place volume b.at) b.block in
    let rest = pieces_of volume (end_of b) (Some b.number) end bs in
    (all.0, all.1, all.2 ∙ ap (λ (l : List Piece). done ++ l) (sym (append_assoc gap (read ∷ []) rest)) ∙ sym (append_assoc done (gap ++ read ∷ []) rest))

pub from_end : (volume bytes : List ℕ) (start end at : ℕ) (last : Option ℕ) (done : List Piece) → GoesFrom volume bytes start end at last done → AreReadable bytes at end []
    → (all : List Stored) × AreReadable bytes start end all × (pieces_of volume start None end all ≡ done ++ rest_of volume at end)
from_end volume bytes start end at last done goes none = goes [] none

-- nothing is lost before a block at the place that is due, with the number that is
pub none_before_due : (volume : List ℕ) (from : ℕ) (last : Option ℕ) (b : Stored) → b.at ≡ from → is_due last b.number ≡ true → before volume from last b ≡ []
none_before_due volume from last b same due = go (nat_eq b.at from) (is_due last b.number) (ap (nat_eq b.at) (sym same) ∙ nat_eq_equiv.refl b.at) due
  where
    go : (x y : Bool) → x ≡ true → y ≡ true → (if x && y then [] else Lost (place volume from) ∷ []) ≡ []
    go true true e f = refl
    go true false e f = cc
    go false y e f = cc

-- nothing is left
pub none_rest : (volume : List ℕ) (from end : ℕ) → end ≤ from → rest_of volume from end ≡ []
none_rest volume from end past = ap (λ b. if b then Lost (place volume from) ∷ [] else []) (le-ltb from end past)
