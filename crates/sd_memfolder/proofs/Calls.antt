-- What one call does to a folder.
use Rattle.std.proofs.Common.{◌≡◌, ◌≢◌, ℕ, zero, suc, ◌≤◌, ◌+◌, inl, inr, Bool, true, false, if◌then◌else◌, List, [], ◌∷◌, ◌++◌, length, map, get_or, slice_get, slice_set, Option, Some, None, option_map, refl, ap, sym, ◌∙◌, subst, arith, length-append, Result, is_ok, IsOk}
use Rattle.std.proofs.lemmas.List.{length-take}
use Rattle.sd_driver.specs.Shelf.{Held, SameShelf, OtherShelf, stable_bytes}
use Rattle.sd_driver.proofs.Names.{name_cases}
use Rattle.sd_folder.specs.Meaning.{FileState, Goes, shelf_of, held_of}
use Rattle.sd_folder.specs.Steps.{Makes, Takes}
use Rattle.sd_memfolder.specs.Files.{NamedFile, file_of, StandsFirstAt, left_of, left_bytes, left_at, noted_or, noted, Counts, new_file, Differ, AllDiffer, AreSound}
use Rattle.sd_memfolder.specs.Change.{after, torn_too}
use Rattle.sd_memfolder.specs.declared.stored.Change.{Change}
use Rattle.sd_memfolder.specs.declared.stored.Change.TheVariants.{Append, SyncData, SyncName, Cut}
use Rattle.sd_memfolder.specs.Folder.{folder_of, left_now}
use Rattle.sd_memfolder.specs.declared.left.Left.{Left}
use Rattle.sd_memfolder.proofs.Places.{read_at, file_of-set, file_of-set_other, file_of-push, file_of-push_other, names_of, differ-push, names_of-set, within-push, within-set, within-at}

-- a note at the end is found there, and leaves those before it
left_at-noted : (files now : List NamedFile) (past : List (List Left)) (moment : ℕ) → moment ≤ length past
    → left_at now (past ++ map left_of files ∷ []) moment ≡ left_at files past moment
left_at-noted files now [] zero le = refl
left_at-noted files now [] (suc moment) le = absurd (omega (arith, le))
left_at-noted files now (p ∷ past) zero le = refl
left_at-noted files now (p ∷ past) (suc moment) le = left_at-noted files now past moment (omega arith)

-- before the last note all is as it was
left_at-same : (files now : List NamedFile) (past : List (List Left)) (name : List ℕ) (moment : ℕ)
    → left_bytes (map left_of now) name ≡ left_bytes (map left_of files) name
    → left_bytes (left_at now past moment) name ≡ left_bytes (left_at files past moment) name
left_at-same files now past name moment same = of (slice_get past moment)
  where
    of : (o : Option (List Left)) → left_bytes (noted_or o (map left_of now)) name ≡ left_bytes (noted_or o (map left_of files)) name
    of None = same
    of (Some left) = refl

-- a call that counts
pub Goes-noted : (files now : List NamedFile) (past : List (List Left))
    → OtherShelf (shelf_of (folder_of files past)) (shelf_of (folder_of now past))
    → Goes (folder_of files past) (folder_of now (past ++ map left_of files ∷ []))
Goes-noted files now past other = record {
  honest = refl;
  passes = λ h. record {
    moments = inr ((other.0, other.1), omega (arith, length-append past (map left_of files ∷ [])));
    past = λ moment name le. ap (λ left. left_bytes left name) (left_at-noted files now past moment le);
    now = λ name. left_now now (past ++ map left_of files ∷ []) name;
  };
}

-- a call that doesn't count
pub Goes-same : (files now : List NamedFile) (past : List (List Left))
    → SameShelf (shelf_of (folder_of files past)) (shelf_of (folder_of now past))
    → Goes (folder_of files past) (folder_of now past)
Goes-same files now past same = record {
  honest = refl;
  passes = λ h. record {
    moments = inl (same, refl);
    past = λ moment name le. left_at-same files now past name moment (left_now_bytes files now name (same name));
    now = λ name. left_now now past name;
  };
}
  where
    left_now_bytes : (files now : List NamedFile) (name : List ℕ)
        → option_map held_of (file_of now name) ≡ option_map held_of (file_of files name)
        → left_bytes (map left_of now) name ≡ left_bytes (map left_of files) name
    left_now_bytes files now name e = left_now now [] name ∙ ap stable_bytes e ∙ sym (left_now files [] name)

-- a file in its place that is another as a volume
pub OtherShelf-set : (files : List NamedFile) (past : List (List Left)) (name : List ℕ) (place : ℕ) (f g : NamedFile)
    → StandsFirstAt name files place → f ≡ get_or files place f → g.name ≡ f.name → held_of g.state ≢ held_of f.state
    → OtherShelf (shelf_of (folder_of files past)) (shelf_of (folder_of (slice_set files place g) past))
OtherShelf-set files past name place f g at read named other =
    let was = read_at files name place f at read in
    let is = file_of-set name files place g at (named ∙ was.0) in
    (name, λ e. other (some_held (sym (ap (option_map held_of) is) ∙ e ∙ ap (option_map held_of) was.1)))
  where
    some_held : {x y : Held} → Some x ≡ Some y → x ≡ y
    some_held e = cc

pub SameShelf-set : (files : List NamedFile) (past : List (List Left)) (name : List ℕ) (place : ℕ) (f g : NamedFile)
    → StandsFirstAt name files place → f ≡ get_or files place f → g.name ≡ f.name → held_of g.state ≡ held_of f.state
    → SameShelf (shelf_of (folder_of files past)) (shelf_of (folder_of (slice_set files place g) past))
SameShelf-set files past name place f g at read named same =
    let was = read_at files name place f at read in
    let is = file_of-set name files place g at (named ∙ was.0) in
    λ other. elim (name_cases other name) [
      | inl e ↦ (let P : List ℕ → Type 0 = λ n. option_map held_of (file_of (slice_set files place g) n) ≡ option_map held_of (file_of files n) in
          subst P (sym e) (ap (option_map held_of) is ∙ ap Some same ∙ sym (ap (option_map held_of) was.1)))
      | inr o ↦ ap (option_map held_of) (file_of-set_other name other files place g at (named ∙ was.0) o)
    ]

-- a change of one file, which is noted if it counts
pub Goes-set : (files : List NamedFile) (past past' : List (List Left)) (name : List ℕ) (place : ℕ) (f g : NamedFile) (counts : Bool)
    → StandsFirstAt name files place → f ≡ get_or files place f → g.name ≡ f.name → Counts counts f.state g.state
    → past' ≡ noted counts (map left_of files) past
    → Goes (folder_of files past) (folder_of (slice_set files place g) past')
Goes-set files past past' name place f g true at read named counts is =
    rw is (Goes-noted files (slice_set files place g) past (OtherShelf-set files past name place f g at read named counts))
Goes-set files past past' name place f g false at read named counts is =
    rw is (Goes-same files (slice_set files place g) past (SameShelf-set files past name place f g at read named counts))

pub Takes-set : (step : FileState → FileState → Type 0) (files : List NamedFile) (past past' : List (List Left)) (name : List ℕ) (place : ℕ) (f g : NamedFile)
    → StandsFirstAt name files place → f ≡ get_or files place f → g.name ≡ f.name → step f.state g.state
    → Takes step name (folder_of files past) (folder_of (slice_set files place g) past')
Takes-set step files past past' name place f g at read named done =
    let was = read_at files name place f at read in
    let is = file_of-set name files place g at (named ∙ was.0) in
    record {
      here = λ state there. (g.state, (let P : FileState → Type 0 = λ s. step s g.state in subst P (some_state (sym was.1 ∙ there)) done), is);
      others = λ other o. file_of-set_other name other files place g at (named ∙ was.0) o;
    }
  where
    some_state : {x y : FileState} → Some x ≡ Some y → x ≡ y
    some_state e = cc

-- a new file

pub Makes-push : (files : List NamedFile) (past past' : List (List Left)) (name : List ℕ) (f : NamedFile) → file_of files name ≡ None → f ≡ new_file name
    → Makes name (folder_of files past) (folder_of (files ++ f ∷ []) past')
Makes-push files past past' name f none is =
    let named : f.name ≡ name = ap (λ (x : NamedFile). x.name) is in
    record {
      absent = none;
      lasts = false;
      made = file_of-push files f name none named ∙ ap (λ (x : NamedFile). Some x.state) is;
      others = λ other o. file_of-push_other files f other (λ e. o (sym e ∙ named));
    }

pub Goes-push : (files : List NamedFile) (past past' : List (List Left)) (name : List ℕ) (f : NamedFile) → file_of files name ≡ None → f ≡ new_file name
    → past' ≡ past ++ map left_of files ∷ []
    → Goes (folder_of files past) (folder_of (files ++ f ∷ []) past')
Goes-push files past past' name f none is noted_is =
    let named : f.name ≡ name = ap (λ (x : NamedFile). x.name) is in
    rw noted_is (Goes-noted files (files ++ f ∷ []) past
    (name, λ e. (let h = ap (option_map held_of) (file_of-push files f name none named) in let n = ap (option_map held_of) none in cc)))

-- the rules stay

pub left_names : (files : List NamedFile) → map (λ (l : Left). l.name) (map left_of files) ≡ names_of files
left_names [] = refl
left_names (f ∷ fs) = let r = left_names fs in ap (λ ns. f.name ∷ ns) r

AllDiffer-push : (past : List (List Left)) (left : List Left) → AllDiffer past → Differ (map (λ (l : Left). l.name) left) → AllDiffer (past ++ left ∷ [])
AllDiffer-push [] left all one = (one, tt)
AllDiffer-push (p ∷ past) left all one = (all.0, AllDiffer-push past left all.1 one)

AllDiffer-noted : (counts : Bool) (files : List NamedFile) (past : List (List Left)) → AllDiffer past → Differ (names_of files) → AllDiffer (noted counts (map left_of files) past)
AllDiffer-noted true files past all differ = AllDiffer-push past (map left_of files) all (subst Differ (sym (left_names files)) differ)
AllDiffer-noted false files past all differ = all

pub sound-set : (files : List NamedFile) (past past' : List (List Left)) (name : List ℕ) (place : ℕ) (f g : NamedFile) (counts : Bool)
    → AreSound files past → StandsFirstAt name files place → f ≡ get_or files place f → g.name ≡ f.name
    → (f.state.written ≤ length f.state.bytes → g.state.written ≤ length g.state.bytes)
    → past' ≡ noted counts (map left_of files) past
    → AreSound (slice_set files place g) past'
sound-set files past past' name place f g counts sound at read named keeps is =
    let was = read_at files name place f at read in
    record {
      differ = subst Differ (sym (names_of-set name files place g at (named ∙ was.0))) sound.differ;
      within = within-set files place g sound.within (keeps (within-at files name place f sound.within at read));
      were = subst AllDiffer (sym is) (AllDiffer-noted counts files past sound.were sound.differ);
    }

pub sound-push : (files : List NamedFile) (past past' : List (List Left)) (name : List ℕ) (f : NamedFile)
    → AreSound files past → file_of files name ≡ None → f ≡ new_file name → past' ≡ past ++ map left_of files ∷ []
    → AreSound (files ++ f ∷ []) past'
sound-push files past past' name f sound none is noted_is =
    let P : NamedFile → Type 0 = λ x. x.state.written ≤ length x.state.bytes in
    let zero_within : P (new_file name) = omega arith in
    record {
      differ = differ-push files f name sound.differ none (ap (λ (x : NamedFile). x.name) is);
      within = within-push files f sound.within (subst P (sym is) zero_within);
      were = subst AllDiffer (sym noted_is) (AllDiffer-noted true files past sound.were sound.differ);
    }

-- a push on what was kept by a reserve
pub pushed : {X E : Type 0} (r : Result (Unit {0}) E) (xs xs' before : List X) (x : X) → IsOk r → xs' ≡ (if is_ok r then xs ++ x ∷ [] else xs) → xs ≡ before → xs' ≡ before ++ x ∷ []
pushed r xs xs' before x done gives same = gives ∙ ap (λ b. if b then xs ++ x ∷ [] else xs) done ∙ ap (λ l. l ++ x ∷ []) same

-- no call changed anything
pub Goes-none : (files files' : List NamedFile) (past past' : List (List Left)) → files' ≡ files → past' ≡ past → Goes (folder_of files past) (folder_of files' past')
Goes-none files files' past past' same_files same_past = rw (same_files, same_past) (Goes-same files files past (λ name. refl))

-- the note of a call, as it was taken
pub noted_as : (counts : Bool) (left left' : List Left) (past past' past'' : List (List Left)) → past'' ≡ noted counts left' past' → left' ≡ left → past' ≡ past → past'' ≡ noted counts left past
noted_as counts left left' past past' past'' is same_left same_past = is ∙ ap (λ l. noted counts l past') same_left ∙ ap (noted counts left) same_past

-- the disk has no more after a change than is there then
pub within-after : (change : Change) (f g : NamedFile) → g ≡ record { name = f.name; state = after change f.state } → f.state.written ≤ length f.state.bytes → g.state.written ≤ length g.state.bytes
within-after change f g is le = let P : NamedFile → Type 0 = λ x. x.state.written ≤ length x.state.bytes in subst P (sym is) (of change f.state le)
  where
    of_torn : (torn : Bool) (written end : ℕ) → written ≤ end → (if torn then written else end) ≤ end
    of_torn true written end le = le
    of_torn false written end le = omega arith

    of : (change : Change) (s : FileState) → s.written ≤ length s.bytes → (after change s).written ≤ length (after change s).bytes
    of (Append bytes) s le = omega (arith, le, length-append s.bytes bytes.now)
    of (SyncData fails) s le = of_torn s.torn s.written (length s.bytes) le
    of SyncName s le = le
    of (Cut to) s le = omega (arith, le, length-take to s.bytes)

pub sound-same : (files : List NamedFile) (past past' : List (List Left)) (name : List ℕ) (place : ℕ) (f g : NamedFile)
    → AreSound files past → StandsFirstAt name files place → f ≡ get_or files place f → g ≡ f → past' ≡ past
    → AreSound (slice_set files place g) past'
sound-same files past past' name place f g sound at read same is =
    sound-set files past past' name place f g false sound at read (ap (λ (x : NamedFile). x.name) same)
    (λ le. (let P : NamedFile → Type 0 = λ x. x.state.written ≤ length x.state.bytes in subst P (sym same) le)) is

pub sound-torn : (files : List NamedFile) (past : List (List Left)) (name : List ℕ) (place : ℕ) (f g : NamedFile)
    → AreSound files past → StandsFirstAt name files place → f ≡ get_or files place f → g ≡ record { name = f.name; state = torn_too f.state }
    → AreSound (slice_set files place g) past
sound-torn files past name place f g sound at read torn =
    sound-set files past past name place f g false sound at read (ap (λ (x : NamedFile). x.name) torn)
    (λ le. (let P : NamedFile → Type 0 = λ x. x.state.written ≤ length x.state.bytes in subst P (sym torn) le)) refl
