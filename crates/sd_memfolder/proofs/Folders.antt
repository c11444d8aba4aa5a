-- What the calls of a folder in memory are, in the words of every folder.
use Rattle.std.proofs.Common.{◌≡◌, ℕ, zero, suc, ◌+◌, ◌-◌, ◌≤◌, ◌⊎◌, inl, inr, min, Bool, true, false, ◌||◌, if◌then◌else◌, nat_lt, List, [], ◌∷◌, length, take, drop, Some, Result, Ok, Err, IsOk, OnOk, OnErr, refl, ap, sym, ◌∙◌, subst, arith}
use Rattle.std.proofs.Common.{replicate}
use Rattle.std.proofs.lemmas.List.{length-replicate}
use Rattle.std.proofs.lemmas.Bool.{ltb-true, ltb-false}
use Rattle.std.proofs.lemmas.List.{length-take, length-drop, take-append-drop}
use Rattle.sd_folder.specs.Meaning.{FileState, FolderMeaning, Goes}
use Rattle.sd_folder.specs.Steps.{Takes, TellsEnd, Reads, DataSynced, SyncsData, DataMaySync, MaySyncData, MayBeCut}
use Rattle.sd_memfolder.specs.Change.{after}
use Rattle.sd_memfolder.specs.declared.stored.Change.TheVariants.{SyncData}
use Rattle.sd_memfolder.specs.Files.{NamedFile, file_of, shown, known_of, AllWithin}
use Rattle.sd_memfolder.specs.Folder.{folder_of, within_of}
use Rattle.sd_memfolder.specs.declared.left.Left.{Left}
use Rattle.sd_memfolder.proofs.Calls.{Goes-none}

-- a call that changed no file
pub goes_self : (files : List NamedFile) (past : List (List Left)) → Goes (folder_of files past) (folder_of files past)
goes_self files past = Goes-none files files past past refl refl

some_state : {x y : FileState} → Some x ≡ Some y → x ≡ y
some_state e = cc

-- what a call may have done, as it was not told
pub takes_self : (step : FileState → FileState → Type 0) (name : List ℕ) (files : List NamedFile) (past : List (List Left)) → ((s : FileState) → step s s)
    → Takes step name (folder_of files past) (folder_of files past)
takes_self step name files past none = record { here = λ state is. (state, none state, is); others = λ other o. refl }

pub uncut : (to : ℕ) (s : FileState) → MayBeCut to s s
uncut to s = record { tail = drop to s.bytes; bytes = sym (take-append-drop to s.bytes); written = omega arith; named = refl; torn = refl }

-- a change of the same files, which was not made
pub takes_same : (step : FileState → FileState → Type 0) (name : List ℕ) (old new : FolderMeaning) → ((s : FileState) → step s s)
    → ((other : List ℕ) → new.file other ≡ old.file other) → Takes step name old new
takes_same step name old new none same = record { here = λ state is. (state, none state, same name ∙ is); others = λ other o. same other }

pub on_ok : {T E : Type 0} (r : Result T E) (P : Type 0) → (IsOk r → P) → OnOk r P
on_ok (Ok value) P p = p refl
on_ok (Err error) P p = tt

pub on_err : {T E : Type 0} (r : Result T E) (P : Type 0) → P → OnErr r P
on_err (Ok value) P p = tt
on_err (Err error) P p = p

-- a sync of the bytes

synced_torn : (torn : Bool) (written end : ℕ) → torn ≡ false → (if torn then written else end) ≡ end
synced_torn true written end e = cc
synced_torn false written end e = refl

synced_more : (torn : Bool) (written end : ℕ) → written ≤ end → written ≤ (if torn then written else end)
synced_more true written end le = omega arith
synced_more false written end le = le

torn_stays : (torn : Bool) → (torn || false) ≡ torn
torn_stays true = refl
torn_stays false = refl

pub syncs_data : (fails : Bool) (name : List ℕ) (files : List NamedFile) (past : List (List Left)) (new : FolderMeaning) → AllWithin files → fails ≡ false
    → Takes (λ state next. next ≡ after (SyncData fails) state) name (folder_of files past) new → SyncsData name (folder_of files past) new
syncs_data fails name files past new within succeeds takes = record {
  here = λ state is. (
      let t = takes.here state is in
      let P : FileState → Type 0 = λ n. DataSynced state n in (
        t.0,
        subst P (sym t.1) (record {
          bytes = refl;
          all = λ e. synced_torn state.torn state.written (length state.bytes) e;
          more = synced_more state.torn state.written (length state.bytes) (within_of files name state within is);
          named = refl;
          torn = ap (λ b. state.torn || b) succeeds ∙ torn_stays state.torn;
        }),
        t.2,
      ));
  others = takes.others;
}

pub may_sync_data : (fails : Bool) (name : List ℕ) (files : List NamedFile) (past : List (List Left)) (new : FolderMeaning) → AllWithin files
    → Takes (λ state next. next ≡ after (SyncData fails) state) name (folder_of files past) new → MaySyncData name (folder_of files past) new
may_sync_data fails name files past new within takes = record {
  here = λ state is. (
      let t = takes.here state is in
      let P : FileState → Type 0 = λ n. DataMaySync state n in (
        t.0,
        subst P (sym t.1) (record {
          bytes = refl;
          more = synced_more state.torn state.written (length state.bytes) (within_of files name state within is);
          named = refl;
        }),
        t.2,
      ));
  others = takes.others;
}

-- where a file ends
pub tells_end : (name : List ℕ) (end : ℕ) (f : NamedFile) (files : List NamedFile) (past : List (List Left)) → file_of files name ≡ Some f.state → end ≡ length f.state.bytes
    → TellsEnd name end (folder_of files past)
tells_end name end f files past there is = record {
  there = λ none. (let e = sym there ∙ none in cc);
  ends = λ state at. is ∙ ap (λ (s : FileState). length s.bytes) (some_state (sym there ∙ at));
}

-- what one read gives

-- of bytes that are known it gives these, and past them it gives none that are known
take_both : (at count written : ℕ) (bytes : List ℕ) → at + count ≤ written → take count (drop at (take written bytes)) ≡ take count (drop at bytes)
take_both at zero written bytes le = refl
take_both at (suc count) zero bytes le = absurd (omega arith)
take_both at (suc count) (suc written) [] le = refl
take_both zero (suc count) (suc written) (b ∷ bytes) le = let r = take_both zero count written bytes (omega arith) in ap (λ l. b ∷ l) r
take_both (suc at) (suc count) (suc written) (b ∷ bytes) le = take_both at (suc count) written bytes (omega arith)

shown_length : (at : ℕ) (s : FileState) → length (shown at s) ≤ length s.bytes - at
shown_length at s = of (nat_lt at (length (known_of s)))
  where
    known_length : (torn : Bool) → length (if torn then take s.written s.bytes else s.bytes) ≤ length s.bytes
    known_length true = omega (arith, length-take s.written s.bytes)
    known_length false = omega arith

    of : (b : Bool) → length (if b then drop at (known_of s) else replicate (length s.bytes - at) 0) ≤ length s.bytes - at
    of true = omega (arith, length-drop at (known_of s), known_length s.torn)
    of false = omega (arith, length-replicate {A = ℕ} (length s.bytes - at) 0)

-- it gives nothing only at the end
shown_none : (at : ℕ) (s : FileState) → length (shown at s) ≡ 0 → length s.bytes ≤ at
shown_none at s = of (nat_lt at (length (known_of s))) refl
  where
    of : (b : Bool) → nat_lt at (length (known_of s)) ≡ b → length (if b then drop at (known_of s) else replicate (length s.bytes - at) 0) ≡ 0 → length s.bytes ≤ at
    of true lt none = absurd (let l = ltb-true at (length (known_of s)) lt in omega (arith, l, none, length-drop at (known_of s)))
    of false lt none = omega (arith, none, length-replicate {A = ℕ} (length s.bytes - at) 0)

-- what it gives is right, if no sync failed, or if the disk has it
shown_right : (at count : ℕ) (s : FileState) → count ≤ length (shown at s) → (s.torn ≡ false) ⊎ (at + count ≤ s.written) → s.written ≤ length s.bytes
    → take count (shown at s) ≡ take count (drop at s.bytes)
shown_right at count s most known within = of (nat_lt at (length (known_of s))) refl most
  where
    known_take : (torn : Bool) → s.torn ≡ torn → take count (drop at (if torn then take s.written s.bytes else s.bytes)) ≡ take count (drop at s.bytes)
    known_take true is = elim known [
      | inl whole ↦ absurd (let e : true ≡ false = sym is ∙ whole in cc)
      | inr has ↦ take_both at count s.written s.bytes has
    ]
    known_take false is = refl

    end_of : (torn : Bool) → s.torn ≡ torn → length (if torn then take s.written s.bytes else s.bytes) ≤ at → count ≤ length s.bytes - at → count ≡ 0
    end_of true is past most = elim known [
      | inl whole ↦ absurd (let e : true ≡ false = sym is ∙ whole in cc)
      | inr has ↦ omega (arith, has, past, within, length-take s.written s.bytes)
    ]
    end_of false is past most = omega (arith, past, most)

    of : (b : Bool) → nat_lt at (length (known_of s)) ≡ b → count ≤ length (if b then drop at (known_of s) else replicate (length s.bytes - at) 0)
        → take count (if b then drop at (known_of s) else replicate (length s.bytes - at) 0) ≡ take count (drop at s.bytes)
    of true lt most = known_take s.torn refl
    of false lt most =
        let none : count ≡ 0 = end_of s.torn refl (ltb-false at (length (known_of s)) lt) (omega (arith, most, length-replicate {A = ℕ} (length s.bytes - at) 0)) in
        ap (λ n. take n (replicate (length s.bytes - at) 0)) none ∙ sym (ap (λ n. take n (drop at s.bytes)) none)

pub reads_of : (name : List ℕ) (at room count : ℕ) (buffer : List ℕ) (f : NamedFile) (files : List NamedFile) (past : List (List Left))
    → AllWithin files → file_of files name ≡ Some f.state
    → count ≡ min room (length (shown at f.state)) → take count buffer ≡ take count (shown at f.state)
    → Reads name at room count buffer (folder_of files past)
reads_of name at room count buffer f files past within there count_is bytes = record {
  there = λ none. (let e = sym there ∙ none in cc);
  within = λ state is. (let P : FileState → Type 0 = λ s. count ≤ length s.bytes - at in
      subst P (some_state (sym there ∙ is)) (omega (arith, count_is, shown_length at f.state)));
  some = λ state is none. (let P : FileState → Type 0 = λ s. (room ≡ 0) ⊎ (length s.bytes ≤ at) in
      subst P (some_state (sym there ∙ is)) (none_left room (length (shown at f.state)) (sym count_is ∙ none) (shown_none at f.state)));
  bytes = λ state is known. (
      let same = some_state (sym there ∙ is) in
      let P : FileState → Type 0 = λ s. take count buffer ≡ take count (drop at s.bytes) in
      let K : FileState → Type 0 = λ s. (s.torn ≡ false) ⊎ (at + count ≤ s.written) in
      subst P same (bytes ∙ shown_right at count f.state (omega (arith, count_is)) (subst K (sym same) known) (within_of files name f.state within there)));
}
  where
    none_left : (room left : ℕ) → min room left ≡ 0 → (left ≡ 0 → length f.state.bytes ≤ at) → (room ≡ 0) ⊎ (length f.state.bytes ≤ at)
    none_left zero left e end = inl refl
    none_left (suc room) left e end = inr (end (omega (arith, e)))
