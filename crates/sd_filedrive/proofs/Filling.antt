-- A read that comes in parts.
use Rattle.std.proofs.Common.{◌≡◌, ◌≢◌, ℕ, zero, suc, ◌+◌, ◌-◌, ◌≤◌, ◌⊎◌, inl, inr, Bool, true, false, List, [], ◌++◌, length, take, drop, Some, None, Result, Ok, Err, IfOk, option_map, refl, ap, sym, ◌∙◌, arith}
use Rattle.std.proofs.Math.Seq.{take-add, take-append-add}
use Rattle.std.proofs.lemmas.List.{length-take-le, length-drop, drop-drop}
use Rattle.std.proofs.lemmas.Slice.{take-put_mid, take-put_mid_below}
use borrow.Rule.Slice.PartMut.{put_mid, mid_of, same_len_mid}
use Rattle.sd_folder.specs.Meaning.{FileState, FolderMeaning, IsHonest, SameFiles, shelf_of, held_of}
use Rattle.sd_folder.specs.Steps.{Reads, EndsAt}
use Rattle.sd_driver.specs.Meaning.{TellsBytes, TellsLength}
use Rattle.sd_driver.proofs.Lasting.{take_front}
use Rattle.sd_filedrive.specs.Known.{Looks, FillsSoFar, Fills}
use Rattle.sd_filedrive.specs.Torn.{IsSound}
use Rattle.sd_filedrive.proofs.Shelves.{Looks-two, honest_after}
use Rattle.sd_filedrive.proofs.Changing.{made_state}

-- the front of a buffer and what came after it
put_more : (a k more : ℕ) (xs ys : List ℕ) → a ≤ length xs → more ≤ length ys → take (a + more) (put_mid a k xs ys) ≡ take a xs ++ take more ys
put_more a k more xs ys within some =
    sym (take_front (a + more) (a + length ys) (put_mid a k xs ys) (omega arith))
    ∙ ap (take (a + more)) (take-put_mid a k xs ys (a + length ys) refl within)
    ∙ ap (λ n. take (n + more) (take a xs ++ ys)) (sym (length-take-le a xs within))
    ∙ take-append-add (take a xs) ys more

-- a part more
pub fills_more : (name : List ℕ) (at room count from more : ℕ) (buffer part filled : List ℕ) (a b c : FolderMeaning)
    → FillsSoFar name at room count buffer a b
    → (IsHonest a → IsSound name at room a)
    → from ≡ at + count
    → length part ≡ length (mid_of count (length buffer - count) buffer)
    → more ≤ length part
    → filled ≡ put_mid count (length buffer - count) buffer part
    → Looks b c
    → (IsHonest b → Reads name from (length (mid_of count (length buffer - count) buffer)) more part b)
    → FillsSoFar name at room (count + more) filled a c
fills_more name at room count from more buffer part filled a b c before sound place long some is looks reads = record {
  looks = Looks-two a b c before.looks looks;
  has = ap length is ∙ same_len_mid count (length buffer - count) buffer part long ∙ before.has;
  within = omega (arith, before.has, before.within, long, some, mid_length);
  there = λ h state at_a. (let r = reads (honest_after a b before.looks.goes h) in
      let le = r.within state (before.looks.same h name ∙ at_a) in
      ends (before.there h state at_a) more le);
  bytes = λ h state at_a. (let r = reads (honest_after a b before.looks.goes h) in
      let e = r.bytes state (before.looks.same h name ∙ at_a) (known h state at_a state.torn refl) in
      ap (take (count + more)) is
      ∙ put_more count (length buffer - count) more buffer part (omega (arith, before.has, before.within)) some
      ∙ ap (λ l. l ++ take more part) (before.bytes h state at_a)
      ∙ ap (λ l. take count (drop at state.bytes) ++ l) (e ∙ ap (λ n. take more (drop n state.bytes)) place ∙ ap (take more) (sym (drop-drop count at state.bytes)))
      ∙ sym (take-add count more (drop at state.bytes)));
}
  where
    mid_length : length (mid_of count (length buffer - count) buffer) ≡ length buffer - count
    mid_length = length-take-le (length buffer - count) (drop count buffer) (omega (arith, length-drop count buffer))

    known : IsHonest a → (state : FileState) → a.file name ≡ Some state → (t : Bool) → state.torn ≡ t → (state.torn ≡ false) ⊎ (from + more ≤ state.written)
    known h state at_a false e = inl e
    known h state at_a true e = inr (omega (arith, sound h state at_a e, place, before.has, before.within, long, some, mid_length))

    ends : {end : ℕ} → (count ≡ 0) ⊎ (at + count ≤ end) → (more : ℕ) → more ≤ end - from → (count + more ≡ 0) ⊎ (at + (count + more) ≤ end)
    ends {end} old zero le = elim old [ inl e ↦ inl (omega (arith, e)) | inr l ↦ inr (omega (arith, l)) ]
    ends {end} old (suc more) le = inr (omega (arith, le, place))

-- an interrupted part changes nothing before it
pub fills_same : (name : List ℕ) (at room count : ℕ) (buffer part : List ℕ) (a b c : FolderMeaning)
    → FillsSoFar name at room count buffer a b
    → length part ≡ length (mid_of count (length buffer - count) buffer)
    → Looks b c
    → FillsSoFar name at room count (put_mid count (length buffer - count) buffer part) a c
fills_same name at room count buffer part a b c before long looks = record {
  looks = Looks-two a b c before.looks looks;
  has = same_len_mid count (length buffer - count) buffer part long ∙ before.has;
  within = before.within;
  there = before.there;
  bytes = λ h state at_a. take-put_mid_below count (length buffer - count) buffer part count (omega arith) (omega (arith, before.has, before.within)) ∙ before.bytes h state at_a;
}

-- what was read is what the device tells
pub tells_bytes : (under own name : List ℕ) (at room count : ℕ) (buffer : List ℕ) (m : FolderMeaning)
    → under ≡ own → own ≡ name → m.file own ≢ None → Fills under at room count buffer m → TellsBytes name at room count buffer (shelf_of m)
tells_bytes under own name at room count buffer m same is there fills =
    let s = made_state m own there in
    let at_under : m.file under ≡ Some s.0 = ap m.file same ∙ s.1 in
    record {
      held = held_of s.0;
      there = ap (option_map held_of) (ap m.file (sym is) ∙ s.1);
      count_is = fills.count_is s.0 at_under;
      bytes = fills.bytes s.0 at_under;
    }

pub tells_length : (under own name : List ℕ) (count : ℕ) (m : FolderMeaning)
    → under ≡ own → own ≡ name → m.file own ≢ None → EndsAt under count m → TellsLength name count (shelf_of m)
tells_length under own name count m same is there ends =
    let s = made_state m own there in
    record {
      held = held_of s.0;
      there = ap (option_map held_of) (ap m.file (sym is) ∙ s.1);
      length_is = ends s.0 (ap m.file same ∙ s.1);
    }

pub if_ok : {T E : Type 0} (r : Result T E) (P Q : T → Type 0) → ((x : T) → P x → Q x) → IfOk r P → IfOk r Q
if_ok (Ok value) P Q f p = f value p
if_ok (Err error) P Q f p = tt

pub tells_length_looked : (name : List ℕ) (count : ℕ) (a b : FolderMeaning) → SameFiles a b → TellsLength name count (shelf_of b) → TellsLength name count (shelf_of a)
tells_length_looked name count a b same tells = record {
  held = tells.held;
  there = ap (option_map held_of) (sym (same name)) ∙ tells.there;
  length_is = tells.length_is;
}
