-- A read of a spool's file, which comes in parts.
use Rattle.std.proofs.Common.{◌≡◌, ℕ, ◌+◌, ◌-◌, ◌≤◌, Bool, inl, List, ◌++◌, length, take, drop, Option, Some, None, refl, ap, sym, ◌∙◌, subst, arith, IsTrue}
use Rattle.std.proofs.Math.Seq.{take-length, take-add, take-append-add}
use Rattle.std.proofs.lemmas.List.{length-take-le, length-drop, drop-drop, drop-take, take-take}
use Rattle.std.proofs.lemmas.Slice.{take-put_mid, take-put_mid_below}
use borrow.Rule.Slice.PartMut.{put_mid, mid_of, same_len_mid}
use Rattle.sd_folder.specs.Meaning.{FileState, FolderMeaning, IsHonest, SameFiles}
use Rattle.sd_folder.specs.Steps.{Reads}
use Rattle.sd_spool.specs.Opened.{IsWhole, Looks, FillsSoFar, bytes_of, file_bytes}

-- honesty stays
pub honest_after : (a b : FolderMeaning) → b.honest ≡ a.honest → IsHonest a → IsHonest b
honest_after a b same h = let P : Bool → Type 0 = λ x. IsTrue x in subst P (sym same) h

pub looks_two : (a b c : FolderMeaning) → Looks a b → Looks b c → Looks a c
looks_two a b c first second = record {
  honest = second.honest ∙ first.honest;
  same = λ h name. second.same (honest_after a b first.honest h) name ∙ first.same h name;
}

-- what a part gives is the file's
part_read : (name : List ℕ) (from room more : ℕ) (part : List ℕ) (a b : FolderMeaning)
    → IsWhole name a → SameFiles a b → Reads name from room more part b
    → take more part ≡ take more (drop from (file_bytes a name))
part_read name from room more part a b whole same reads = of (a.file name) refl
  where
    of : (o : Option FileState) → a.file name ≡ o → take more part ≡ take more (drop from (bytes_of (a.file name)))
    of None e = absurd (reads.there (same name ∙ e))
    of (Some s) e = reads.bytes s (same name ∙ e) (inl (whole s e)) ∙ ap (λ o. take more (drop from (bytes_of o))) (sym e)

-- the front of a buffer, and what came behind it
front_more : (count k more : ℕ) (buffer part : List ℕ) → count ≤ length buffer → more ≤ length part
    → take (count + more) (put_mid count k buffer part) ≡ take count buffer ++ take more part
front_more count k more buffer part within some =
    sym (take-take (count + more) (count + length part) (put_mid count k buffer part) (omega arith))
    ∙ ap (take (count + more)) (take-put_mid count k buffer part (count + length part) refl within)
    ∙ ap (λ n. take (n + more) (take count buffer ++ part)) (sym (length-take-le count buffer within))
    ∙ take-append-add (take count buffer) part more

-- a part more
pub fills_more : (name : List ℕ) (at room count from more : ℕ) (buffer part filled : List ℕ) (a b c : FolderMeaning)
    → FillsSoFar name at room count buffer a b
    → (IsHonest a → IsWhole name a)
    → from ≡ at + count
    → length part ≡ length (mid_of count (length buffer - count) buffer)
    → more ≤ length part
    → filled ≡ put_mid count (length buffer - count) buffer part
    → Looks b c
    → (IsHonest b → Reads name from (length (mid_of count (length buffer - count) buffer)) more part b)
    → FillsSoFar name at room (count + more) filled a c
fills_more name at room count from more buffer part filled a b c before whole place long some is looks reads = record {
  looks = looks_two a b c before.looks looks;
  has = ap length is ∙ same_len_mid count (length buffer - count) buffer part long ∙ before.has;
  within = omega (arith, before.has, before.within, long, some, length-take-le (length buffer - count) (drop count buffer) (omega (arith, length-drop count buffer)));
  bytes = λ h. (let file = file_bytes a name in
      ap (take (count + more)) is
      ∙ front_more count (length buffer - count) more buffer part (omega (arith, before.has, before.within)) some
      ∙ ap (λ l. l ++ take more part) (before.bytes h)
      ∙ ap (λ l. take count (drop at file) ++ l)
      (part_read name from _ more part a b (whole h) (before.looks.same h) (reads (honest_after a b before.looks.honest h))
      ∙ ap (λ n. take more (drop n file)) place ∙ ap (take more) (sym (drop-drop count at file)))
      ∙ sym (take-add count more (drop at file)));
}

-- an interrupted part changes nothing before it
pub fills_same : (name : List ℕ) (at room count : ℕ) (buffer part : List ℕ) (a b c : FolderMeaning)
    → FillsSoFar name at room count buffer a b
    → length part ≡ length (mid_of count (length buffer - count) buffer)
    → Looks b c
    → FillsSoFar name at room count (put_mid count (length buffer - count) buffer part) a c
fills_same name at room count buffer part a b c before long looks = record {
  looks = looks_two a b c before.looks looks;
  has = same_len_mid count (length buffer - count) buffer part long ∙ before.has;
  within = before.within;
  bytes = λ h. take-put_mid_below count (length buffer - count) buffer part count (omega arith) (omega (arith, before.has, before.within)) ∙ before.bytes h;
}

-- the buffer is full
pub fills_all : (name : List ℕ) (at room count : ℕ) (buffer : List ℕ) (a b : FolderMeaning)
    → FillsSoFar name at room count buffer a b → length buffer ≤ count → IsHonest a
    → buffer ≡ take room (drop at (file_bytes a name))
fills_all name at room count buffer a b fills full h =
    let all : length buffer ≡ count = omega (arith, fills.has, fills.within, full) in
    let file = file_bytes a name in
    sym (take-length buffer) ∙ ap (λ n. take n buffer) all ∙ fills.bytes h ∙ ap (λ n. take n (drop at file)) (sym all ∙ fills.has)

-- what lies before the end of the spool's bytes is the spool's
pub read_within : (room at end : ℕ) (file : List ℕ) → at + room ≤ end → take room (drop at file) ≡ take room (drop at (take end file))
read_within room at end file within =
    sym (take-take room (end - at) (drop at file) (omega arith))
    ∙ ap (take room) (sym (drop-take at (end - at) file) ∙ ap (λ n. drop at (take n file)) (omega arith))
