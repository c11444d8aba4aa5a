-- The first file of a name, and what a file put in its place or at the end does to the others.
use Rattle.std.proofs.Common.{◌≡◌, ◌≢◌, ℕ, zero, suc, Bool, true, false, if◌then◌else◌, IsSome, List, [], ◌∷◌, ◌++◌, ◌+◌, ◌<◌, ◌≤◌, length, map, slice_set, get_or, drop, add-one, drop-cons, Some, None, refl, ap, sym, ◌∙◌, subst, arith}
use Rattle.std.specs.Str.{bytes_eq}
use Rattle.std.proofs.lemmas.Slice.Eq.{bytes_eq-Decides}
use Rattle.sd_memfolder.specs.Files.{NamedFile, file_of, StandsFirstAt, Lacks, Differ, AllWithin}

-- a name is itself
pub bytes_eq_refl : (name : List ℕ) → bytes_eq name name ≡ true
bytes_eq_refl name = (bytes_eq-Decides name name).1 refl

-- other names are not it
pub bytes_eq_other : (a b : List ℕ) → a ≢ b → bytes_eq a b ≡ false
bytes_eq_other a b other = only_false (bytes_eq a b) (λ h. other ((bytes_eq-Decides a b).0 h))
  where
    only_false : (b : Bool) → (b ≡ true → ⊥) → b ≡ false
    only_false true h = absurd (h refl)
    only_false false h = refl

-- a file of that name is what lies under it
pub file_of-here : (f : NamedFile) (fs : List NamedFile) (name : List ℕ) → f.name ≡ name → file_of (f ∷ fs) name ≡ Some f.state
file_of-here f fs name e = ap (λ b. if b then Some f.state else file_of fs name) (ap (λ n. bytes_eq n name) e ∙ bytes_eq_refl name)

-- a file of another name does not matter
pub file_of-other : (f : NamedFile) (fs : List NamedFile) (name : List ℕ) → f.name ≢ name → file_of (f ∷ fs) name ≡ file_of fs name
file_of-other f fs name o = ap (λ b. if b then Some f.state else file_of fs name) (bytes_eq_other f.name name o)

pub StandsFirstAt-within : (name : List ℕ) (fs : List NamedFile) (place : ℕ) → StandsFirstAt name fs place → place < length fs
StandsFirstAt-within name [] place at = absurd at
StandsFirstAt-within name (f ∷ fs) zero at = omega arith
StandsFirstAt-within name (f ∷ fs) (suc place) at = let r = StandsFirstAt-within name fs place at.1 in omega arith

pub StandsFirstAt-there : (name : List ℕ) (fs : List NamedFile) (place : ℕ) → StandsFirstAt name fs place → IsSome (file_of fs name)
StandsFirstAt-there name [] place at = absurd at
StandsFirstAt-there name (f ∷ fs) zero at = subst IsSome (sym (file_of-here f fs name at)) refl
StandsFirstAt-there name (f ∷ fs) (suc place) at = subst IsSome (sym (file_of-other f fs name at.0)) (StandsFirstAt-there name fs place at.1)

-- the file at the place of a name has that name, and is what lies under it
pub read_at : (fs : List NamedFile) (name : List ℕ) (place : ℕ) (f : NamedFile) → StandsFirstAt name fs place → f ≡ get_or fs place f → (f.name ≡ name) × (file_of fs name ≡ Some f.state)
read_at [] name place f at read = absurd at
read_at (g ∷ fs) name zero f at read =
    let n : f.name ≡ name = ap (λ (x : NamedFile). x.name) read ∙ at in
    (n, file_of-here g fs name at ∙ ap (λ (x : NamedFile). Some x.state) (sym read))
read_at (g ∷ fs) name (suc place) f at read =
    let r = read_at fs name place f at.1 read in
    (r.0, file_of-other g fs name at.0 ∙ r.1)

-- another file of that name in its place
pub file_of-set : (name : List ℕ) (fs : List NamedFile) (place : ℕ) (f : NamedFile) → StandsFirstAt name fs place → f.name ≡ name → file_of (slice_set fs place f) name ≡ Some f.state
file_of-set name [] place f at e = absurd at
file_of-set name (g ∷ fs) zero f at e = file_of-here f fs name e
file_of-set name (g ∷ fs) (suc place) f at e = file_of-other g (slice_set fs place f) name at.0 ∙ file_of-set name fs place f at.1 e

-- it leaves all other names
pub file_of-set_other : (name other : List ℕ) (fs : List NamedFile) (place : ℕ) (f : NamedFile) → StandsFirstAt name fs place → f.name ≡ name → other ≢ name → file_of (slice_set fs place f) other ≡ file_of fs other
file_of-set_other name other [] place f at e o = absurd at
file_of-set_other name other (g ∷ fs) zero f at e o =
    file_of-other f fs other (λ h. o (sym h ∙ e)) ∙ sym (file_of-other g fs other (λ h. o (sym h ∙ at)))
file_of-set_other name other (g ∷ fs) (suc place) f at e o =
    let r = file_of-set_other name other fs place f at.1 e o in
    ap (λ x. if bytes_eq g.name other then Some g.state else x) r

-- one more file at the end
pub file_of-push : (fs : List NamedFile) (f : NamedFile) (name : List ℕ) → file_of fs name ≡ None → f.name ≡ name → file_of (fs ++ f ∷ []) name ≡ Some f.state
file_of-push [] f name none e = file_of-here f [] name e
file_of-push (g ∷ fs) f name none e = step (bytes_eq g.name name) (λ h. file_of-push fs f name h e) none
  where
    step : (b : Bool) → (file_of fs name ≡ None → file_of (fs ++ f ∷ []) name ≡ Some f.state) → (if b then Some g.state else file_of fs name) ≡ None → (if b then Some g.state else file_of (fs ++ f ∷ []) name) ≡ Some f.state
    step true r h = cc
    step false r h = r h

-- it leaves all other names
pub file_of-push_other : (fs : List NamedFile) (f : NamedFile) (other : List ℕ) → f.name ≢ other → file_of (fs ++ f ∷ []) other ≡ file_of fs other
file_of-push_other [] f other o = file_of-other f [] other o
file_of-push_other (g ∷ fs) f other o =
    let r = file_of-push_other fs f other o in
    ap (λ x. if bytes_eq g.name other then Some g.state else x) r

-- names that differ

abbrev pub names_of : List NamedFile → List (List ℕ)
names_of fs = map (λ f. f.name) fs

pub Lacks-none : (fs : List NamedFile) (name : List ℕ) → file_of fs name ≡ None → Lacks name (names_of fs)
Lacks-none [] name none = tt
Lacks-none (f ∷ fs) name none =
    let other : f.name ≢ name = λ e. (let h = file_of-here f fs name e in cc) in
    (other, Lacks-none fs name (sym (file_of-other f fs name other) ∙ none))

Lacks-push : (name other : List ℕ) (names : List (List ℕ)) → other ≢ name → Lacks name names → Lacks name (names ++ other ∷ [])
Lacks-push name other [] o lacks = (o, tt)
Lacks-push name other (n ∷ names) o lacks = (lacks.0, Lacks-push name other names o lacks.1)

Differ-push : (names : List (List ℕ)) (name : List ℕ) → Differ names → Lacks name names → Differ (names ++ name ∷ [])
Differ-push [] name differ lacks = (tt, tt)
Differ-push (n ∷ names) name differ lacks =
    (Lacks-push n name names (λ e. lacks.0 (sym e)) differ.0, Differ-push names name differ.1 lacks.1)

names_of-push : (fs : List NamedFile) (f : NamedFile) → names_of (fs ++ f ∷ []) ≡ names_of fs ++ f.name ∷ []
names_of-push [] f = refl
names_of-push (g ∷ fs) f = let r = names_of-push fs f in ap (λ ns. g.name ∷ ns) r

pub differ-push : (fs : List NamedFile) (f : NamedFile) (name : List ℕ) → Differ (names_of fs) → file_of fs name ≡ None → f.name ≡ name → Differ (names_of (fs ++ f ∷ []))
differ-push fs f name differ none e =
    subst Differ (sym (names_of-push fs f ∙ ap (λ n. names_of fs ++ n ∷ []) e)) (Differ-push (names_of fs) name differ (Lacks-none fs name none))

pub names_of-set : (name : List ℕ) (fs : List NamedFile) (place : ℕ) (f : NamedFile) → StandsFirstAt name fs place → f.name ≡ name → names_of (slice_set fs place f) ≡ names_of fs
names_of-set name [] place f at e = absurd at
names_of-set name (g ∷ fs) zero f at e = ap (λ n. n ∷ names_of fs) (e ∙ sym at)
names_of-set name (g ∷ fs) (suc place) f at e = let r = names_of-set name fs place f at.1 e in ap (λ ns. g.name ∷ ns) r

-- the disk has no more than was written

pub within-push : (fs : List NamedFile) (f : NamedFile) → AllWithin fs → f.state.written ≤ length f.state.bytes → AllWithin (fs ++ f ∷ [])
within-push [] f all one = (one, tt)
within-push (g ∷ fs) f all one = (all.0, within-push fs f all.1 one)

pub within-set : (fs : List NamedFile) (place : ℕ) (f : NamedFile) → AllWithin fs → f.state.written ≤ length f.state.bytes → AllWithin (slice_set fs place f)
within-set [] place f all one = tt
within-set (g ∷ fs) zero f all one = (one, all.1)
within-set (g ∷ fs) (suc place) f all one = (all.0, within-set fs place f all.1 one)

pub within-at : (fs : List NamedFile) (name : List ℕ) (place : ℕ) (f : NamedFile) → AllWithin fs → StandsFirstAt name fs place → f ≡ get_or fs place f → f.state.written ≤ length f.state.bytes
within-at [] name place f all at read = absurd at
within-at (g ∷ fs) name zero f all at read = let P : NamedFile → Type 0 = λ x. x.state.written ≤ length x.state.bytes in subst P (sym read) all.0
within-at (g ∷ fs) name (suc place) f all at read = within-at fs name place f all.1 at.1 read

-- what is left of a list from a place on
from_here : (fs : List NamedFile) (i : ℕ) (f : NamedFile) → i < length fs → f ≡ get_or fs i f → drop i fs ≡ f ∷ drop (suc i) fs
from_here fs i f within read = drop-cons fs i f within ∙ ap (λ x. x ∷ drop (suc i) fs) (sym read)

pub StandsFirstAt-drop_here : (name : List ℕ) (fs : List NamedFile) (i : ℕ) (f : NamedFile) → i < length fs → f ≡ get_or fs i f → f.name ≡ name → StandsFirstAt name (drop i fs) zero
StandsFirstAt-drop_here name fs i f within read e = let P : List NamedFile → Type 0 = λ l. StandsFirstAt name l zero in subst P (sym (from_here fs i f within read)) e

pub file_of-drop : (name : List ℕ) (fs : List NamedFile) (i : ℕ) (f : NamedFile) → i < length fs → f ≡ get_or fs i f → f.name ≢ name → file_of (drop (i + 1) fs) name ≡ file_of (drop i fs) name
file_of-drop name fs i f within read o = rw (from_here fs i f within read, add-one i) (sym (file_of-other f (drop (suc i) fs) name o))

pub StandsFirstAt-drop : (name : List ℕ) (fs : List NamedFile) (i j : ℕ) (f : NamedFile) → i < length fs → f ≡ get_or fs i f → f.name ≢ name → StandsFirstAt name (drop (i + 1) fs) j → StandsFirstAt name (drop i fs) (suc j)
StandsFirstAt-drop name fs i j f within read o at =
    let P : List NamedFile → Type 0 = λ l. StandsFirstAt name l (suc j) in
    let g : StandsFirstAt name (drop (suc i) fs) j = rw add-one at at in
    subst P (sym (from_here fs i f within read)) (o, g)
