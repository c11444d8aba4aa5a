-- What a stop leaves of a folder.
use Rattle.std.proofs.Common.{◌≡◌, ◌≢◌, ℕ, zero, suc, ◌≤◌, inl, inr, false, if◌then◌else◌, List, [], ◌∷◌, ◌++◌, length, map, take, get_or, ◌+◌, ◌<◌, Option, Some, None, option_map, refl, ap, sym, ◌∙◌, subst, arith, length-append}
use Rattle.std.specs.Str.{bytes_eq}
use Rattle.std.specs.List.{filter_map, cons_option}
use Rattle.std.proofs.lemmas.List.Elements.{filter_map-append}
use Rattle.std.proofs.Math.Seq.{take-append_seam}
use Rattle.sd_driver.specs.Shelf.{stable_bytes, BeginsWith, AfterStop}
use Rattle.sd_driver.proofs.Names.{name_cases}
use Rattle.sd_folder.specs.Meaning.{FileState, FolderMeaning, NoneTorn, shelf_of, held_of}
use Rattle.sd_memfolder.specs.Files.{NamedFile, file_of, left_bytes, left_at, state_after, left_file, Lacks, Differ, AllWithin, AllDiffer, AreSound}
use Rattle.sd_memfolder.specs.Folder.{folder_of}
use Rattle.sd_memfolder.specs.declared.left.Left.{Left}
use Rattle.sd_memfolder.proofs.Places.{bytes_eq_refl, bytes_eq_other, file_of-here, file_of-other, names_of}
use Rattle.sd_memfolder.proofs.Calls.{left_names}

abbrev names_left : List Left → List (List ℕ)
names_left ls = map (λ (l : Left). l.name) ls

abbrev with_name : List ℕ → FileState → NamedFile
with_name name state = record { name = name; state = state }

-- what is left of one file more
pub filter_map-more : {X Y : Type 0} (f : X → Option Y) (xs : List X) (i : ℕ) (x : X) → i < length xs → x ≡ get_or xs i x → filter_map f (take (i + 1) xs) ≡ filter_map f (take i xs) ++ cons_option (f x) []
filter_map-more f xs i x within read =
    ap (filter_map f) (take_more xs i x within read) ∙ filter_map-append f (take i xs) (x ∷ [])
  where
    take_more : {X : Type 0} (xs : List X) (i : ℕ) (x : X) → i < length xs → x ≡ get_or xs i x → take (i + 1) xs ≡ take i xs ++ x ∷ []
    take_more [] i x within read = absurd (omega arith)
    take_more (w ∷ xs) zero x within read = ap (λ y. y ∷ []) (sym read)
    take_more (w ∷ xs) (suc i) x within read =
        let r = take_more xs i x (omega arith) read in
        let e : suc i + 1 ≡ suc (i + 1) = omega arith in
        ap (λ k. take k (w ∷ xs)) e ∙ ap (λ l. w ∷ l) r

-- a file of that name, or none, before others
before_here : (own name : List ℕ) (o : Option FileState) (rest : List NamedFile) → own ≡ name → file_of rest name ≡ None → file_of (cons_option (option_map (with_name own) o) rest) name ≡ o
before_here own name None rest e none = none
before_here own name (Some state) rest e none = file_of-here (with_name own state) rest name e

before_other : (own name : List ℕ) (o : Option FileState) (rest : List NamedFile) → own ≢ name → file_of (cons_option (option_map (with_name own) o) rest) name ≡ file_of rest name
before_other own name None rest o = refl
before_other own name (Some state) rest o = file_of-other (with_name own state) rest name o

-- a name that was not left is not there
none_left : (tail : List ℕ) (ls : List Left) (name : List ℕ) → Lacks name (names_left ls) → file_of (filter_map (left_file tail) ls) name ≡ None
none_left tail [] name lacks = refl
none_left tail (l ∷ ls) name lacks =
    before_other l.name name (state_after l.bytes tail) (filter_map (left_file tail) ls) lacks.0 ∙ none_left tail ls name lacks.1

-- what was left is there, with the tail
file_after : (tail : List ℕ) (ls : List Left) (name : List ℕ) → Differ (names_left ls) → file_of (filter_map (left_file tail) ls) name ≡ state_after (left_bytes ls name) tail
file_after tail [] name differ = refl
file_after tail (l ∷ ls) name differ =
    let rest = file_after tail ls name differ.1 in
    elim (name_cases l.name name) [
      | inl same ↦ (
          let none = none_left tail ls l.name differ.0 in
          before_here l.name name (state_after l.bytes tail) (filter_map (left_file tail) ls) same (ap (file_of (filter_map (left_file tail) ls)) (sym same) ∙ none)
          ∙ sym (ap (λ b. state_after (if b then l.bytes else left_bytes ls name) tail) (ap (λ n. bytes_eq n name) same ∙ bytes_eq_refl name)))
      | inr o ↦ before_other l.name name (state_after l.bytes tail) (filter_map (left_file tail) ls) o ∙ rest
          ∙ sym (ap (λ b. state_after (if b then l.bytes else left_bytes ls name) tail) (bytes_eq_other l.name name o))
    ]

-- the files after a stop keep the rules

Lacks-left : (tail : List ℕ) (ls : List Left) (name : List ℕ) → Lacks name (names_left ls) → Lacks name (names_of (filter_map (left_file tail) ls))
Lacks-left tail [] name lacks = tt
Lacks-left tail (l ∷ ls) name lacks = one (state_after l.bytes tail) (Lacks-left tail ls name lacks.1)
  where
    one : (o : Option FileState) → Lacks name (names_of (filter_map (left_file tail) ls)) → Lacks name (names_of (cons_option (option_map (with_name l.name) o) (filter_map (left_file tail) ls)))
    one None rest = rest
    one (Some state) rest = (lacks.0, rest)

Differ-left : (tail : List ℕ) (ls : List Left) → Differ (names_left ls) → Differ (names_of (filter_map (left_file tail) ls))
Differ-left tail [] differ = tt
Differ-left tail (l ∷ ls) differ = one (state_after l.bytes tail) (Differ-left tail ls differ.1)
  where
    one : (o : Option FileState) → Differ (names_of (filter_map (left_file tail) ls)) → Differ (names_of (cons_option (option_map (with_name l.name) o) (filter_map (left_file tail) ls)))
    one None rest = rest
    one (Some state) rest = (Lacks-left tail ls l.name differ.0, rest)

AllWithin-left : (tail : List ℕ) (ls : List Left) → AllWithin (filter_map (left_file tail) ls)
AllWithin-left tail [] = tt
AllWithin-left tail (l ∷ ls) = one l.bytes (AllWithin-left tail ls)
  where
    one : (bytes : List ℕ) → AllWithin (filter_map (left_file tail) ls) → AllWithin (cons_option (option_map (with_name l.name) (state_after bytes tail)) (filter_map (left_file tail) ls))
    one [] rest = rest
    one (b ∷ bytes) rest = (omega (arith, length-append (b ∷ bytes) tail), rest)

-- no two files of a moment had one name
differ_at : (files : List NamedFile) (past : List (List Left)) (moment : ℕ) → AreSound files past → Differ (names_left (left_at files past moment))
differ_at files past moment sound = of past moment sound.were
  where
    of : (past : List (List Left)) (moment : ℕ) → AllDiffer past → Differ (names_left (left_at files past moment))
    of [] zero were = subst Differ (sym (left_names files)) sound.differ
    of [] (suc moment) were = subst Differ (sym (left_names files)) sound.differ
    of (p ∷ past) zero were = were.0
    of (p ∷ past) (suc moment) were = of past moment were.1

pub sound-left : (tail : List ℕ) (files left : List NamedFile) (past : List (List Left)) (moment : ℕ) → AreSound files past → left ≡ filter_map (left_file tail) (left_at files past moment) → AreSound left []
sound-left tail files left past moment sound is =
    let P : List NamedFile → Type 0 = λ l. AreSound l [] in
    subst P (sym is) (record {
      differ = Differ-left tail (left_at files past moment) (differ_at files past moment sound);
      within = AllWithin-left tail (left_at files past moment);
      were = tt;
    })

-- the files that a stop leaves are what it kept, with the tail
pub left_kept : (tail : List ℕ) (files left : List NamedFile) (past : List (List Left)) (moment : ℕ) (name : List ℕ) → AreSound files past → left ≡ filter_map (left_file tail) (left_at files past moment)
    → file_of left name ≡ state_after ((folder_of files past).kept moment name) tail
left_kept tail files left past moment name sound is =
    ap (λ l. file_of l name) is ∙ file_after tail (left_at files past moment) name (differ_at files past moment sound)

-- of what a stop leaves, what it kept is stable
stable_after : (kept tail : List ℕ) → stable_bytes (option_map held_of (state_after kept tail)) ≡ kept
stable_after [] tail = refl
stable_after (b ∷ kept) tail = take-append_seam (b ∷ kept) tail

pub AfterStop-left : (tail : List ℕ) (old new : FolderMeaning) (calls : ℕ) → calls ≤ old.moment
    → ((name : List ℕ) → new.file name ≡ state_after (old.kept calls name) tail) → AfterStop calls (shelf_of old) (shelf_of new)
AfterStop-left tail old new calls within is = λ name bytes lasts.
    let P : List ℕ → Type 0 = λ x. BeginsWith x bytes in
    subst P (sym (ap (λ o. stable_bytes (option_map held_of o)) (is name) ∙ stable_after (old.kept calls name) tail)) (lasts.before calls (omega arith) within)

-- a file after a stop isn't torn
pub NoneTorn-left : (tail : List ℕ) (kept : List ℕ → List ℕ) (new : FolderMeaning)
    → ((name : List ℕ) → new.file name ≡ state_after (kept name) tail) → NoneTorn new
NoneTorn-left tail kept new is = λ name state there. of (kept name) state (sym (is name) ∙ there)
  where
    of : (bytes : List ℕ) (state : FileState) → state_after bytes tail ≡ Some state → state.torn ≡ false
    of [] state e = cc
    of (b ∷ bytes) state e = ap (λ (s : FileState). s.torn) (sym (some_state e))
      where
        some_state : {x y : FileState} → Some x ≡ Some y → x ≡ y
        some_state e = cc
