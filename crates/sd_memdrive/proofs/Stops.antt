-- What a stop in the past leaves of the volumes.
use Rattle.std.proofs.Common.{◌≡◌, ◌≢◌, ℕ, zero, suc, inl, inr, IsTrue, is_none, List, [], ◌∷◌, ◌++◌, ◌+◌, ◌-◌, ◌<◌, ◌≤◌, length, take, drop, drop-cons, get_or, slice_set, Option, Some, None, option_map, refl, ap, sym, ◌∙◌, subst, arith}
use Rattle.std.specs.List.{filter_map, cons_option}
use Rattle.std.proofs.Math.Seq.{take-append_seam}
use Rattle.std.proofs.lemmas.List.{take_rest}
use Rattle.sd_driver.specs.Shelf.{Held, Shelf, stable_bytes, BeginsWith, AfterStop}
use Rattle.sd_memdrive.specs.declared.change_log.Change.{Change}
use Rattle.sd_memdrive.specs.Volumes.{Volume, volume_of, names_differ, StandsFirstAt}
use Rattle.sd_memdrive.specs.ChangeLog.{undo_change, undo, shelf_of, left_of, left_volume, NoneWithout}
use Rattle.sd_driver.proofs.Names.{name_cases}
use Rattle.sd_memdrive.proofs.Places.{volume_of-here, volume_of-other, volume_of-set, volume_of-set_other, volume_of-push, volume_of-push_other, names_differ-first, names_differ-rest, and_true, is_none_by}
use Rattle.sd_memdrive.proofs.Changes.{undo-push, undo_change-other, read_at}

-- one more change from the end is undone
pub undo-step : (cs : List Change) (i : ℕ) (c : Change) (name bytes : List ℕ) → i < length cs → c ≡ get_or cs (length cs - 1 - i) c
    → undo (drop (length cs - (i + 1)) cs) name bytes ≡ undo_change c name (undo (drop (length cs - i) cs) name bytes)
undo-step cs i c name bytes within read =
    let place : length cs - (i + 1) ≡ length cs - 1 - i = omega arith in
    let after : suc (length cs - 1 - i) ≡ length cs - i = omega arith in
    let there : length cs - 1 - i < length cs = omega arith in
    ap (λ k. undo (drop k cs) name bytes) place
    ∙ ap (λ (l : List Change). undo l name bytes) (drop-cons cs (length cs - 1 - i) c there ∙ ap (λ (d : Change). d ∷ drop (suc (length cs - 1 - i)) cs) (sym read))
    ∙ ap (λ k. undo_change c name (undo (drop k cs) name bytes)) after

-- what is left of one volume more
pub filter_map-more : (f : Volume → Option Volume) (vs : List Volume) (i : ℕ) (v : Volume) → i < length vs → v ≡ get_or vs i v → filter_map f (take (i + 1) vs) ≡ filter_map f (take i vs) ++ cons_option (f v) []
filter_map-more f [] i v within read = absurd (omega arith)
filter_map-more f (w ∷ vs) zero v within read = ap (λ (x : Volume). cons_option (f x) []) (sym read)
filter_map-more f (w ∷ vs) (suc i) v within read =
    let r = filter_map-more f vs i v (omega arith) read in
    let e : suc i + 1 ≡ suc (i + 1) = omega arith in
    ap (λ k. filter_map f (take k (w ∷ vs))) e ∙ ap (cons_option (f w)) r ∙ before (f w) (filter_map f (take i vs)) (cons_option (f v) [])
  where
    before : (o : Option Volume) (xs ys : List Volume) → cons_option o (xs ++ ys) ≡ cons_option o xs ++ ys
    before None xs ys = refl
    before (Some x) xs ys = refl

-- a name that is not there never had stable bytes, also after one change more

undo-drop_push : (cs : List Change) (c : Change) (moment : ℕ) (name : List ℕ) → undo_change c name [] ≡ [] → undo (drop moment (cs ++ c ∷ [])) name [] ≡ undo (drop moment cs) name []
undo-drop_push cs c zero name nothing = undo-push cs c name [] ∙ ap (undo cs name) nothing
undo-drop_push [] c (suc zero) name nothing = refl
undo-drop_push [] c (suc (suc moment)) name nothing = refl
undo-drop_push (d ∷ cs) c (suc moment) name nothing = undo-drop_push cs c moment name nothing

pub NoneWithout-push : (vs vs' : List Volume) (cs : List Change) (c : Change) → NoneWithout vs cs → ((name : List ℕ) → volume_of vs' name ≡ None → volume_of vs name ≡ None) → volume_of vs' c.name ≢ None → NoneWithout vs' (cs ++ c ∷ [])
NoneWithout-push vs vs' cs c before fewer there = λ name moment none.
    undo-drop_push cs c moment name (undo_change-other c name [] (λ e. there (ap (volume_of vs') e ∙ none))) ∙ before name moment (fewer name none)

-- what a stop leaves under a name

abbrev left_at : List Change → List ℕ → List ℕ → Option Held → Option Held
left_at later tail name None = None
left_at later tail name (Some held) = left_of (undo later name (take held.stable held.bytes)) tail

abbrev with_name : List ℕ → Held → Volume
with_name name held = record { name = name; held = held }

left_here : (name own : List ℕ) (o : Option Held) (rest : List Volume) → own ≡ name → volume_of rest name ≡ None → volume_of (cons_option (option_map (with_name own) o) rest) name ≡ o
left_here name own None rest e none = none
left_here name own (Some held) rest e none = volume_of-here (with_name own held) rest name e

left_other : (name own : List ℕ) (o : Option Held) (rest : List Volume) → own ≢ name → volume_of (cons_option (option_map (with_name own) o) rest) name ≡ volume_of rest name
left_other name own None rest o = refl
left_other name own (Some held) rest o = volume_of-other (with_name own held) rest name o

volume_of-left : (later : List Change) (tail : List ℕ) (vs : List Volume) (name : List ℕ) → IsTrue (names_differ vs) → volume_of (filter_map (left_volume later tail) vs) name ≡ left_at later tail name (volume_of vs name)
volume_of-left later tail [] name differ = refl
volume_of-left later tail (v ∷ vs) name differ =
    let rest = volume_of-left later tail vs name (names_differ-rest v vs differ) in
    elim (name_cases v.name name) [
      | inl same ↦ (
          let none : volume_of vs name ≡ None = ap (volume_of vs) (sym same) ∙ names_differ-first v vs differ in
          left_here name v.name (left_of (undo later v.name (take v.held.stable v.held.bytes)) tail) _ same (rest ∙ ap (left_at later tail name) none)
          ∙ ap (λ n. left_of (undo later n (take v.held.stable v.held.bytes)) tail) same
          ∙ ap (left_at later tail name) (sym (volume_of-here v vs name same)))
      | inr o ↦ left_other name v.name (left_of (undo later v.name (take v.held.stable v.held.bytes)) tail) _ o ∙ rest ∙ ap (left_at later tail name) (sym (volume_of-other v vs name o))
    ]

differ_more : (own : List ℕ) (o : Option Held) (rest : List Volume) → IsTrue (names_differ rest) → volume_of rest own ≡ None → IsTrue (names_differ (cons_option (option_map (with_name own) o) rest))
differ_more own None rest differ none = differ
differ_more own (Some held) rest differ none = and_true (is_none (volume_of rest own)) (names_differ rest) (is_none_by _ none) differ

pub names_differ-left : (later : List Change) (tail : List ℕ) (vs : List Volume) → IsTrue (names_differ vs) → IsTrue (names_differ (filter_map (left_volume later tail) vs))
names_differ-left later tail [] differ = refl
names_differ-left later tail (v ∷ vs) differ =
    differ_more v.name (left_of (undo later v.name (take v.held.stable v.held.bytes)) tail) _
    (names_differ-left later tail vs (names_differ-rest v vs differ))
    (volume_of-left later tail vs v.name (names_differ-rest v vs differ) ∙ ap (left_at later tail v.name) (names_differ-first v vs differ))

-- the volumes that a stop leaves are what it kept, with the tail
pub left_kept : (vs : List Volume) (cs : List Change) (calls : ℕ) (tail name : List ℕ) → IsTrue (names_differ vs) → NoneWithout vs cs
    → volume_of (filter_map (left_volume (drop calls cs) tail) vs) name ≡ left_of ((shelf_of vs cs).kept calls name) tail
left_kept vs cs calls tail name differ without = volume_of-left (drop calls cs) tail vs name differ ∙ by (volume_of vs name) refl
  where
    by : (o : Option Held) → volume_of vs name ≡ o → left_at (drop calls cs) tail name o ≡ left_of (undo (drop calls cs) name (stable_bytes o)) tail
    by None e = ap (λ bytes. left_of bytes tail) (sym (without name calls e))
    by (Some held) e = refl

-- of what a stop leaves, what it kept is stable
stable_bytes-left : (kept tail : List ℕ) → stable_bytes (left_of kept tail) ≡ kept
stable_bytes-left [] tail = refl
stable_bytes-left (b ∷ kept) tail = take-append_seam (b ∷ kept) tail

pub AfterStop-left : (calls : ℕ) (shelf left : Shelf) (tail : List ℕ) → calls ≤ shelf.moment → ((name : List ℕ) → left.volume name ≡ left_of (shelf.kept calls name) tail) → AfterStop calls shelf left
AfterStop-left calls shelf left tail within is = λ name bytes lasts.
    let P : List ℕ → Type 0 = λ x. BeginsWith x bytes in
    subst P (sym (ap stable_bytes (is name) ∙ stable_bytes-left (shelf.kept calls name) tail)) (lasts.before calls (omega arith) within)

-- the entry of a step in a place, or of a volume at the end, accounts for the new bytes

pub NoneWithout-set : (vs : List Volume) (cs cs' : List Change) (name : List ℕ) (place : ℕ) (v v' : Volume) (c : Change)
    → NoneWithout vs cs → StandsFirstAt name vs place → v ≡ get_or vs place v → v'.name ≡ v.name → c.name ≡ name → cs' ≡ cs ++ c ∷ []
    → NoneWithout (slice_set vs place v') cs'
NoneWithout-set vs cs cs' name place v v' c before at read named entry noted =
    let was = read_at vs name place v at read in
    let is = volume_of-set name vs place v' at (named ∙ was.0) in
    let P : List Change → Type 0 = λ l. NoneWithout (slice_set vs place v') l in
    subst P (sym noted) (NoneWithout-push vs (slice_set vs place v') cs c before
    (λ other none. fewer other none)
    (λ none. some_none (sym is ∙ ap (volume_of (slice_set vs place v')) (sym entry) ∙ none)))
  where
    some_none : {h : Held} → Some h ≡ None → ⊥
    some_none e = cc

    fewer : (other : List ℕ) → volume_of (slice_set vs place v') other ≡ None → volume_of vs other ≡ None
    fewer other none =
        let was = read_at vs name place v at read in
        elim (name_cases other name) [
          | inl same ↦ absurd (some_none (sym (ap (volume_of (slice_set vs place v')) same ∙ volume_of-set name vs place v' at (named ∙ was.0)) ∙ none))
          | inr o ↦ sym (volume_of-set_other name other vs place v' at (named ∙ was.0) o) ∙ none
        ]

pub NoneWithout-created : (vs : List Volume) (cs cs' : List Change) (name : List ℕ) (v : Volume) (c : Change)
    → NoneWithout vs cs → volume_of vs name ≡ None → v.name ≡ name → c.name ≡ name → cs' ≡ cs ++ c ∷ []
    → NoneWithout (vs ++ v ∷ []) cs'
NoneWithout-created vs cs cs' name v c before absent named entry noted =
    let P : List Change → Type 0 = λ l. NoneWithout (vs ++ v ∷ []) l in
    subst P (sym noted) (NoneWithout-push vs (vs ++ v ∷ []) cs c before fewer
    (λ none. some_none (sym (volume_of-push vs v name absent named) ∙ ap (volume_of (vs ++ v ∷ [])) (sym entry) ∙ none)))
  where
    some_none : {h : Held} → Some h ≡ None → ⊥
    some_none e = cc

    fewer : (other : List ℕ) → volume_of (vs ++ v ∷ []) other ≡ None → volume_of vs other ≡ None
    fewer other none = elim (name_cases other name) [
      | inl same ↦ ap (volume_of vs) same ∙ absent
      | inr o ↦ sym (volume_of-push_other vs v other (λ e. o (sym e ∙ named))) ∙ none
    ]

-- with no change yet
pub NoneWithout-none : (vs : List Volume) (cs : List Change) → cs ≡ [] → NoneWithout vs cs
NoneWithout-none vs cs empty = λ name moment none. ap (λ (l : List Change). undo (drop moment l) name []) empty ∙ nothing moment name
  where
    nothing : (moment : ℕ) (name : List ℕ) → undo (drop moment []) name [] ≡ []
    nothing zero name = refl
    nothing (suc moment) name = refl

-- the volumes and the later changes, as slices of the store
pub left_by_slices : (vs vs' : List Volume) (cs cs' : List Change) (calls : ℕ) (tail : List ℕ) → vs' ≡ vs → cs' ≡ cs
    → filter_map (left_volume (take (length cs' - calls) (drop calls cs')) tail) vs' ≡ filter_map (left_volume (drop calls cs) tail) vs
left_by_slices vs vs' cs cs' calls tail v c =
    ap (λ (l : List Change). filter_map (left_volume l tail) vs') (take_rest cs' calls ∙ ap (λ (l : List Change). drop calls l) c)
    ∙ ap (filter_map (left_volume (drop calls cs) tail)) v
