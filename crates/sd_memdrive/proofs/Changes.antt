-- What one change of the volumes, with its entry in the log, does to the shelf.
use Rattle.std.proofs.Common.{◌≡◌, ◌≢◌, ℕ, zero, suc, inl, inr, if◌then◌else◌, List, [], ◌∷◌, ◌++◌, ◌<◌, ◌≤◌, min, length, take, drop, slice_set, get_or, Some, None, refl, ap, sym, ◌∙◌, subst, arith, append-nil, length-append}
use Rattle.std.proofs.Math.Seq.{drop-length, take-length, take-nil}
use Rattle.std.proofs.lemmas.List.{drop-append-le, take-append-le, take-append-drop, length-take, take_all}
use Rattle.std.proofs.lemmas.Option.{slice_get_read}
use Rattle.std.specs.Str.{bytes_eq}
use Rattle.sd_driver.specs.Shelf.{Held, stable_bytes, BeginsWith, OtherShelf, Passes, KeepsStable, KeepsStableTo, Creates, Changes}
use Rattle.sd_driver.proofs.Lasting.{BeginsWith-same, BeginsWith-own_take}
use Rattle.sd_memdrive.specs.declared.change_log.Change.{Change}
use Rattle.sd_memdrive.specs.Volumes.{Volume, volume_of, StandsFirstAt, SameNames}
use Rattle.sd_memdrive.specs.ChangeLog.{undo_change, undo, shelf_of}
use Rattle.sd_driver.proofs.Names.{name_cases}
use Rattle.sd_memdrive.proofs.Places.{bytes_eq_refl, bytes_eq_other, volume_of-place, volume_of-set, volume_of-set_other, volume_of-push, volume_of-push_other, StandsFirstAt-within, SameNames-set}

-- the volume that was read at the place of a name
pub read_at : (vs : List Volume) (name : List ℕ) (place : ℕ) (v : Volume) → StandsFirstAt name vs place → v ≡ get_or vs place v → (v.name ≡ name) × (volume_of vs name ≡ Some v.held)
read_at vs name place v at read = volume_of-place name vs place v at (slice_get_read vs _ place v refl (StandsFirstAt-within name vs place at) read)

-- the log with one entry more
pub undo-push : (cs : List Change) (c : Change) (name bytes : List ℕ) → undo (cs ++ c ∷ []) name bytes ≡ undo cs name (undo_change c name bytes)
undo-push [] c name bytes = refl
undo-push (d ∷ cs) c name bytes = ap (undo_change d name) (undo-push cs c name bytes)

-- an entry from which what was stable before is found
passes_on : (vs vs' : List Volume) (cs : List Change) (c : Change)
    → OtherShelf (shelf_of vs cs) (shelf_of vs' (cs ++ c ∷ []))
    → ((name : List ℕ) → undo_change c name (stable_bytes (volume_of vs' name)) ≡ stable_bytes (volume_of vs name))
    → Passes (shelf_of vs cs) (shelf_of vs' (cs ++ c ∷ []))
passes_on vs vs' cs c other undone = record {
  moments = inr (other, omega (arith, length-append cs (c ∷ [])));
  past = λ moment name le.
      ap (λ (l : List Change). undo l name (stable_bytes (volume_of vs' name))) (drop-append-le moment cs (c ∷ []) le)
      ∙ undo-push (drop moment cs) c name (stable_bytes (volume_of vs' name))
      ∙ ap (undo (drop moment cs) name) (undone name);
  now = λ name. ap (λ (l : List Change). undo l name (stable_bytes (volume_of vs' name))) (drop-length (cs ++ c ∷ []));
}

pub undo_change-here : (c : Change) (name bytes : List ℕ) → c.name ≡ name → undo_change c name bytes ≡ take c.stable (bytes ++ c.lost)
undo_change-here c name bytes e = ap (λ b. if b then take c.stable (bytes ++ c.lost) else bytes) (ap (λ n. bytes_eq n name) e ∙ bytes_eq_refl name)

pub undo_change-other : (c : Change) (name bytes : List ℕ) → c.name ≢ name → undo_change c name bytes ≡ bytes
undo_change-other c name bytes o = ap (λ b. if b then take c.stable (bytes ++ c.lost) else bytes) (bytes_eq_other c.name name o)

-- another volume in a place, with such an entry
pub passes_set : (vs : List Volume) (cs : List Change) (name : List ℕ) (place : ℕ) (v v' : Volume) (c : Change)
    → StandsFirstAt name vs place → v ≡ get_or vs place v → v'.name ≡ v.name → c.name ≡ name
    → v'.held ≢ v.held → take c.stable (take v'.held.stable v'.held.bytes ++ c.lost) ≡ take v.held.stable v.held.bytes
    → Passes (shelf_of vs cs) (shelf_of (slice_set vs place v') (cs ++ c ∷ []))
passes_set vs cs name place v v' c at read named entry differs before =
    let was = read_at vs name place v at read in
    let is = volume_of-set name vs place v' at (named ∙ was.0) in
    passes_on vs (slice_set vs place v') cs c
    (name, λ e. differs (some_same (sym is ∙ e ∙ was.1)))
    (λ other. elim (name_cases other name) [
      | inl same ↦ (
          let P : List ℕ → Type 0 = λ n. undo_change c n (stable_bytes (volume_of (slice_set vs place v') n)) ≡ stable_bytes (volume_of vs n) in
          subst P (sym same) (ap (λ o. undo_change c name (stable_bytes o)) is ∙ undo_change-here c name _ entry ∙ before ∙ ap stable_bytes (sym was.1)))
      | inr o ↦ undo_change-other c other _ (λ e. o (sym e ∙ entry)) ∙ ap stable_bytes (volume_of-set_other name other vs place v' at (named ∙ was.0) o)
    ])
  where
    some_same : {a b : Held} → Some a ≡ Some b → a ≡ b
    some_same h = cc

-- what another volume in a place does to the shelf
pub changes_set : (vs : List Volume) (cs cs' : List Change) (name : List ℕ) (place : ℕ) (v v' : Volume) (step : Held → Held → Type 0)
    → StandsFirstAt name vs place → v ≡ get_or vs place v → v'.name ≡ v.name → step v.held v'.held
    → Changes step (Some name) (shelf_of vs cs) (shelf_of (slice_set vs place v') cs')
changes_set vs cs cs' name place v v' step at read named made =
    let was = read_at vs name place v at read in
    let is = volume_of-set name vs place v' at (named ∙ was.0) in
    record {
      here = λ n held loaded there.
          let same : name ≡ n = cc in
          let old : v.held ≡ held = some_same (sym was.1 ∙ ap (volume_of vs) same ∙ there) in
          let Q : Held → Type 0 = λ h. step h v'.held in
          (v'.held, subst Q old made, ap (volume_of (slice_set vs place v')) (sym same) ∙ is);
      others = λ n other. volume_of-set_other name n vs place v' at (named ∙ was.0) (λ e. other (ap (λ x. Some x) (sym e)));
    }
  where
    some_same : {a b : Held} → Some a ≡ Some b → a ≡ b
    some_same h = cc

-- no stable byte is lost by another volume in a place that has them
pub keeps_set : (vs : List Volume) (cs cs' : List Change) (name : List ℕ) (place : ℕ) (v v' : Volume)
    → StandsFirstAt name vs place → v ≡ get_or vs place v → v'.name ≡ v.name
    → BeginsWith (take v'.held.stable v'.held.bytes) (take v.held.stable v.held.bytes)
    → KeepsStable (shelf_of vs cs) (shelf_of (slice_set vs place v') cs')
keeps_set vs cs cs' name place v v' at read named begins =
    let was = read_at vs name place v at read in
    let is = volume_of-set name vs place v' at (named ∙ was.0) in
    λ other. elim (name_cases other name) [
      | inl same ↦ (
          let P : List ℕ → Type 0 = λ n. BeginsWith (stable_bytes (volume_of (slice_set vs place v') n)) (stable_bytes (volume_of vs n)) in
          subst P (sym same) (rw (is, was.1) begins))
      | inr o ↦ BeginsWith-same _ _ (ap stable_bytes (volume_of-set_other name other vs place v' at (named ∙ was.0) o))
    ]

-- none is lost below `to`
pub keeps_to_set : (vs : List Volume) (cs cs' : List Change) (name : List ℕ) (place to : ℕ) (v v' : Volume)
    → StandsFirstAt name vs place → v ≡ get_or vs place v → v'.name ≡ v.name
    → BeginsWith (take v'.held.stable v'.held.bytes) (take to (take v.held.stable v.held.bytes))
    → KeepsStableTo to (Some name) (shelf_of vs cs) (shelf_of (slice_set vs place v') cs')
keeps_to_set vs cs cs' name place to v v' at read named begins =
    let was = read_at vs name place v at read in
    let is = volume_of-set name vs place v' at (named ∙ was.0) in
    record {
      front = λ other. elim (name_cases other name) [
        | inl same ↦ (
            let P : List ℕ → Type 0 = λ n. BeginsWith (stable_bytes (volume_of (slice_set vs place v') n)) (take to (stable_bytes (volume_of vs n))) in
            subst P (sym same) (rw (is, was.1) begins))
        | inr o ↦ (
            let P : List ℕ → Type 0 = λ x. BeginsWith x (take to (stable_bytes (volume_of vs other))) in
            subst P (sym (ap stable_bytes (volume_of-set_other name other vs place v' at (named ∙ was.0) o))) (BeginsWith-own_take (stable_bytes (volume_of vs other)) to))
      ];
      others = λ n other. BeginsWith-same _ _ (ap stable_bytes (volume_of-set_other name n vs place v' at (named ∙ was.0) (λ e. other (ap (λ x. Some x) (sym e)))));
    }

-- a volume of a new name at the end, with such an entry
pub creates_push : (vs : List Volume) (cs cs' : List Change) (name : List ℕ) (v : Volume)
    → volume_of vs name ≡ None → v.name ≡ name → v.held ≡ record { bytes = []; stable = 0 }
    → Creates name (shelf_of vs cs) (shelf_of (vs ++ v ∷ []) cs')
creates_push vs cs cs' name v none named empty = record {
  absent = none;
  made = volume_of-push vs v name none named ∙ ap (λ h. Some h) empty;
  others = λ other o. volume_of-push_other vs v other (λ e. o (sym e ∙ named));
}

stable_none : (vs : List Volume) (v : Volume) (other name : List ℕ) → volume_of vs name ≡ None → v.name ≡ name → v.held.stable ≡ 0 → stable_bytes (volume_of (vs ++ v ∷ []) other) ≡ stable_bytes (volume_of vs other)
stable_none vs v other name none named empty = elim (name_cases other name) [
  | inl same ↦ (
      let P : List ℕ → Type 0 = λ n. stable_bytes (volume_of (vs ++ v ∷ []) n) ≡ stable_bytes (volume_of vs n) in
      subst P (sym same) (ap stable_bytes (volume_of-push vs v name none named) ∙ ap (λ k. take k v.held.bytes) empty ∙ ap stable_bytes (sym none)))
  | inr o ↦ ap stable_bytes (volume_of-push_other vs v other (λ e. o (sym e ∙ named)))
]

pub keeps_push : (vs : List Volume) (cs cs' : List Change) (name : List ℕ) (v : Volume)
    → volume_of vs name ≡ None → v.name ≡ name → v.held.stable ≡ 0 → KeepsStable (shelf_of vs cs) (shelf_of (vs ++ v ∷ []) cs')
keeps_push vs cs cs' name v none named empty = λ other. BeginsWith-same _ _ (stable_none vs v other name none named empty)

pub passes_push : (vs : List Volume) (cs : List Change) (name : List ℕ) (v : Volume) (c : Change)
    → volume_of vs name ≡ None → v.name ≡ name → v.held.stable ≡ 0 → c.name ≡ name → c.stable ≡ 0
    → Passes (shelf_of vs cs) (shelf_of (vs ++ v ∷ []) (cs ++ c ∷ []))
passes_push vs cs name v c none named empty entry least =
    passes_on vs (vs ++ v ∷ []) cs c
    (name, λ e. (let h = volume_of-push vs v name none named in cc))
    (λ other. elim (name_cases other name) [
      | inl same ↦ (
          let P : List ℕ → Type 0 = λ n. undo_change c n (stable_bytes (volume_of (vs ++ v ∷ []) n)) ≡ stable_bytes (volume_of vs n) in
          subst P (sym same) (undo_change-here c name _ entry ∙ ap (λ k. take k (stable_bytes (volume_of (vs ++ v ∷ []) name) ++ c.lost)) least ∙ ap stable_bytes (sym none)))
      | inr o ↦ undo_change-other c other _ (λ e. o (sym e ∙ entry)) ∙ stable_none vs v other name none named empty
    ])

-- the stable bytes of an append, a sync and a cut

pub stable-append : (stable : ℕ) (bytes more : List ℕ) → stable ≤ length bytes → take stable (take stable (bytes ++ more) ++ []) ≡ take stable bytes
stable-append stable bytes more within = ap (take stable) (append-nil _) ∙ ap (take stable) (take-append-le stable bytes more within) ∙ take_twice stable bytes
  where
    take_twice : (n : ℕ) (xs : List ℕ) → take n (take n xs) ≡ take n xs
    take_twice n xs = take_all n (take n xs) (omega (arith, length-take n xs))

pub begins-append : (stable : ℕ) (bytes more : List ℕ) → stable ≤ length bytes → BeginsWith (take stable (bytes ++ more)) (take stable bytes)
begins-append stable bytes more within = BeginsWith-same _ _ (take-append-le stable bytes more within)

pub stable-sync : (stable : ℕ) (bytes : List ℕ) → take stable (take (length bytes) bytes ++ []) ≡ take stable bytes
stable-sync stable bytes = ap (take stable) (append-nil _ ∙ take-length bytes)

pub begins-sync : (stable : ℕ) (bytes : List ℕ) → BeginsWith (take (length bytes) bytes) (take stable bytes)
begins-sync stable bytes =
    let P : List ℕ → Type 0 = λ x. BeginsWith x (take stable bytes) in
    subst P (sym (take-length bytes)) (BeginsWith-own_take bytes stable)

take_both : (a b : ℕ) (xs : List ℕ) → take a (take b xs) ≡ take (min b a) xs
take_both zero b xs = let e : zero ≡ min b zero = omega arith in ap (λ q. take q xs) e
take_both (suc a) zero xs = let e : zero ≡ min zero (suc a) = omega arith in ap (λ q. take q xs) e
take_both (suc a) (suc b) [] = sym (take-nil (min (suc b) (suc a)))
take_both (suc a) (suc b) (x ∷ xs) =
    let r = take_both a b xs in
    let e : suc (min b a) ≡ min (suc b) (suc a) = omega arith in
    ap (λ l. x ∷ l) r ∙ ap (λ q. take q (x ∷ xs)) e

take_cut : (to stable : ℕ) (bytes : List ℕ) → take (min to stable) (take to bytes) ≡ take to (take stable bytes)
take_cut to stable bytes =
    take_both (min to stable) to bytes ∙ ap (λ n. take n bytes) (least to stable) ∙ sym (take_both to stable bytes)
  where
    least : (to stable : ℕ) → min to (min to stable) ≡ min stable to
    least to stable = omega arith

pub stable-cut : (to stable : ℕ) (bytes : List ℕ) → take stable (take (min to stable) (take to bytes) ++ drop to (take stable bytes)) ≡ take stable bytes
stable-cut to stable bytes =
    ap (λ front. take stable (front ++ drop to (take stable bytes))) (take_cut to stable bytes)
    ∙ ap (take stable) (take-append-drop to (take stable bytes))
    ∙ take_all stable (take stable bytes) (omega (arith, length-take stable bytes))

pub begins-cut : (to stable : ℕ) (bytes : List ℕ) → BeginsWith (take (min to stable) (take to bytes)) (take to (take stable bytes))
begins-cut to stable bytes = BeginsWith-same _ _ (take_cut to stable bytes)

-- all that a step of one volume does
pub record Taken (step : Held → Held → Type 0) (name : List ℕ) (vs vs' : List Volume) (cs cs' : List Change) : Type 0 where
  pub passes : Passes (shelf_of vs cs) (shelf_of vs' cs')
  pub stable : KeepsStable (shelf_of vs cs) (shelf_of vs' cs')
  pub ok : Changes step (Some name) (shelf_of vs cs) (shelf_of vs' cs')
  pub names : SameNames vs vs'

-- bytes with more of them at the end are others
grown : (bytes more : List ℕ) → more ≢ [] → bytes ++ more ≢ bytes
grown [] more some e = some e
grown (b ∷ bytes) more some e = grown bytes more some (let r : ◌≡◌ {A = List ℕ} (bytes ++ more) bytes = cc in r)

pub appended : (vs : List Volume) (cs cs' : List Change) (name : List ℕ) (place : ℕ) (v v' : Volume) (c : Change) (more : List ℕ)
    → StandsFirstAt name vs place → v ≡ get_or vs place v → v.held.stable ≤ length v.held.bytes → more ≢ []
    → v' ≡ record { name = v.name; held = record { bytes = v.held.bytes ++ more; stable = v.held.stable } }
    → c.name ≡ name → c.stable ≡ v.held.stable → c.lost ≡ [] → cs' ≡ cs ++ c ∷ []
    → Taken (λ held after. after ≡ record { bytes = held.bytes ++ more; stable = held.stable }) name vs (slice_set vs place v') cs cs'
appended vs cs cs' name place v v' c more at read within some made entry was nothing noted =
    let named : v'.name ≡ v.name = ap (λ (x : Volume). x.name) made in
    let held : v'.held ≡ record { bytes = v.held.bytes ++ more; stable = v.held.stable } = ap (λ (x : Volume). x.held) made in
    record {
      passes = rw noted (passes_set vs cs name place v v' c at read named entry
          (λ e. grown v.held.bytes more some (sym (ap (λ (h : Held). h.bytes) held) ∙ ap (λ (h : Held). h.bytes) e))
          (rw (held, was, nothing) (stable-append v.held.stable v.held.bytes more within)));
      stable = keeps_set vs cs cs' name place v v' at read named (rw held (begins-append v.held.stable v.held.bytes more within));
      ok = changes_set vs cs cs' name place v v' _ at read named held;
      names = SameNames-set vs name place v' at (named ∙ (read_at vs name place v at read).0);
    }

pub synced : (vs : List Volume) (cs cs' : List Change) (name : List ℕ) (place : ℕ) (v v' : Volume) (c : Change)
    → StandsFirstAt name vs place → v ≡ get_or vs place v → v.held.stable ≢ length v.held.bytes
    → v' ≡ record { name = v.name; held = record { bytes = v.held.bytes; stable = length v.held.bytes } }
    → c.name ≡ name → c.stable ≡ v.held.stable → c.lost ≡ [] → cs' ≡ cs ++ c ∷ []
    → Taken (λ held after. after ≡ record { bytes = held.bytes; stable = length held.bytes }) name vs (slice_set vs place v') cs cs'
synced vs cs cs' name place v v' c at read less made entry was nothing noted =
    let named : v'.name ≡ v.name = ap (λ (x : Volume). x.name) made in
    let held : v'.held ≡ record { bytes = v.held.bytes; stable = length v.held.bytes } = ap (λ (x : Volume). x.held) made in
    record {
      passes = rw noted (passes_set vs cs name place v v' c at read named entry
          (λ e. less (sym (ap (λ (h : Held). h.stable) e) ∙ ap (λ (h : Held). h.stable) held))
          (rw (held, was, nothing) (stable-sync v.held.stable v.held.bytes)));
      stable = keeps_set vs cs cs' name place v v' at read named (rw held (begins-sync v.held.stable v.held.bytes));
      ok = changes_set vs cs cs' name place v v' _ at read named held;
      names = SameNames-set vs name place v' at (named ∙ (read_at vs name place v at read).0);
    }

-- all that a cut of one volume does
pub record IsCut (to : ℕ) (name : List ℕ) (vs vs' : List Volume) (cs cs' : List Change) : Type 0 where
  pub passes : Passes (shelf_of vs cs) (shelf_of vs' cs')
  pub stable : KeepsStableTo to (Some name) (shelf_of vs cs) (shelf_of vs' cs')
  pub ok : Changes (λ held after. after ≡ record { bytes = take to held.bytes; stable = min to held.stable }) (Some name) (shelf_of vs cs) (shelf_of vs' cs')
  pub names : SameNames vs vs'

pub cut : (vs : List Volume) (cs cs' : List Change) (name : List ℕ) (place to : ℕ) (v v' : Volume) (c : Change)
    → StandsFirstAt name vs place → v ≡ get_or vs place v → to < length v.held.bytes
    → v' ≡ record { name = v.name; held = record { bytes = take to v.held.bytes; stable = min to v.held.stable } }
    → c.name ≡ name → c.stable ≡ v.held.stable → c.lost ≡ drop to (take v.held.stable v.held.bytes) → cs' ≡ cs ++ c ∷ []
    → IsCut to name vs (slice_set vs place v') cs cs'
cut vs cs cs' name place to v v' c at read longer made entry was lost noted =
    let named : v'.name ≡ v.name = ap (λ (x : Volume). x.name) made in
    let held : v'.held ≡ record { bytes = take to v.held.bytes; stable = min to v.held.stable } = ap (λ (x : Volume). x.held) made in
    record {
      passes = rw noted (passes_set vs cs name place v v' c at read named entry
          (λ e. shorter (sym (ap (λ (h : Held). h.bytes) e) ∙ ap (λ (h : Held). h.bytes) held))
          (rw (held, was, lost) (stable-cut to v.held.stable v.held.bytes)));
      stable = keeps_to_set vs cs cs' name place to v v' at read named (rw held (begins-cut to v.held.stable v.held.bytes));
      ok = changes_set vs cs cs' name place v v' _ at read named held;
      names = SameNames-set vs name place v' at (named ∙ (read_at vs name place v at read).0);
    }
  where
    shorter : v.held.bytes ≢ take to v.held.bytes
    shorter e = omega (arith, ap length e, length-take to v.held.bytes)

-- nothing to sync, or to cut

pub all_stable : (vs : List Volume) (cs cs' : List Change) (name : List ℕ) (place : ℕ) (v : Volume)
    → StandsFirstAt name vs place → v ≡ get_or vs place v → v.held.stable ≡ length v.held.bytes
    → Changes (λ held after. after ≡ record { bytes = held.bytes; stable = length held.bytes }) (Some name) (shelf_of vs cs) (shelf_of (slice_set vs place v) cs')
all_stable vs cs cs' name place v at read all =
    changes_set vs cs cs' name place v v _ at read refl (ap (λ (k : ℕ). record { bytes = v.held.bytes; stable = k }) all)

pub short_enough : (vs : List Volume) (cs cs' : List Change) (name : List ℕ) (place to : ℕ) (v : Volume)
    → StandsFirstAt name vs place → v ≡ get_or vs place v → length v.held.bytes ≤ to → v.held.stable ≤ length v.held.bytes
    → Changes (λ held after. after ≡ record { bytes = take to held.bytes; stable = min to held.stable }) (Some name) (shelf_of vs cs) (shelf_of (slice_set vs place v) cs')
short_enough vs cs cs' name place to v at read short within =
    let least : v.held.stable ≡ min to v.held.stable = omega arith in
    changes_set vs cs cs' name place v v _ at read refl
    (ap (λ (k : ℕ). record { bytes = v.held.bytes; stable = k }) least ∙ ap (λ (x : List ℕ). record { bytes = x; stable = min to v.held.stable }) (sym (take_all to v.held.bytes short)))

pub may_sync : (vs : List Volume) (cs cs' : List Change) (name : List ℕ) (place : ℕ) (v v' : Volume)
    → StandsFirstAt name vs place → v ≡ get_or vs place v → v'.name ≡ v.name → v'.held.bytes ≡ v.held.bytes → v.held.stable ≤ v'.held.stable
    → Changes (λ held after. (after.bytes ≡ held.bytes) × (held.stable ≤ after.stable)) (Some name) (shelf_of vs cs) (shelf_of (slice_set vs place v') cs')
may_sync vs cs cs' name place v v' at read named bytes more = changes_set vs cs cs' name place v v' _ at read named (bytes, more)
