-- What a caller of any driver concludes of bytes that a stop leaves: they last over every call but a cut below
-- their end, and the low mark of their volume is at least their length.
use Rattle.std.proofs.Common.{◌≡◌, ◌≢◌, ℕ, zero, suc, ◌+◌, ◌-◌, ◌≤◌, ◌⊎◌, inl, inr, List, [], ◌∷◌, length, take, Option, Some, None, refl, ap, sym, ◌∙◌, subst, arith}
use Rattle.std.proofs.Math.Seq.{take-length}
use Rattle.std.proofs.lemmas.List.{length-take, take_min}
use Rattle.std.proofs.lemmas.Bool.{cases_lt}
use Rattle.sd_driver.proofs.Names.{name_cases}
use Rattle.sd_driver.specs.Shelf.{Shelf, Held, stable_bytes, BeginsWith, SameShelf, OtherShelf, Passes, KeepsStable, KeepsStableTo, Syncs, Lasts, StillLasts, StillLastsBelow, AfterStop, lowest, low_mark}

-- bytes begin with themselves
pub BeginsWith-refl : (bytes : List ℕ) → BeginsWith bytes bytes
BeginsWith-refl bytes = take-length bytes

-- and with bytes that are the same
pub BeginsWith-same : (bytes front : List ℕ) → bytes ≡ front → BeginsWith bytes front
BeginsWith-same bytes front e = let P : List ℕ → Type 0 = λ x. BeginsWith x front in subst P (sym e) (BeginsWith-refl front)

-- and with any front of them
pub BeginsWith-own_take : (bytes : List ℕ) (to : ℕ) → BeginsWith bytes (take to bytes)
BeginsWith-own_take bytes to = ap (λ n. take n bytes) (length-take to bytes) ∙ take_min to bytes

-- bytes that begin with others are at least as long
pub BeginsWith-length : (bytes front : List ℕ) → BeginsWith bytes front → length front ≤ length bytes
BeginsWith-length bytes front b = omega (arith, ap length b, length-take (length front) bytes)

pub take_front : (a b : ℕ) (xs : List ℕ) → a ≤ b → take a (take b xs) ≡ take a xs
take_front zero b xs le = refl
take_front (suc a) zero xs le = absurd (omega arith)
take_front (suc a) (suc b) [] le = refl
take_front (suc a) (suc b) (x ∷ xs) le = let r = take_front a b xs (omega arith) in ap (λ l. x ∷ l) r

-- what begins with bytes begins with what they begin with
pub BeginsWith-trans : (bytes middle front : List ℕ) → BeginsWith bytes middle → BeginsWith middle front → BeginsWith bytes front
BeginsWith-trans bytes middle front outer inner =
    sym (take_front (length front) (length middle) bytes (BeginsWith-length middle front inner)) ∙ ap (take (length front)) outer ∙ inner

-- bytes begin with any front of what they begin with
pub BeginsWith-take : (bytes middle front : List ℕ) (to : ℕ) → BeginsWith bytes (take to middle) → BeginsWith middle front → length front ≤ to → BeginsWith bytes front
BeginsWith-take bytes middle front to outer inner short =
    BeginsWith-trans bytes (take to middle) front outer (take_front (length front) to middle short ∙ inner)

-- moments go on
pub Passes-later : (old new : Shelf) → Passes old new → old.moment ≤ new.moment
Passes-later old new passes = later passes.moments
  where
    later : (SameShelf old new × (new.moment ≡ old.moment)) ⊎ (OtherShelf old new × (new.moment ≡ suc old.moment)) → old.moment ≤ new.moment
    later (inl same) = omega (arith, same.1)
    later (inr more) = omega (arith, more.1)

-- after any call, what is stable now lasts from now on
pub Lasts-begin : (name bytes : List ℕ) (old new : Shelf) → Passes old new → BeginsWith (stable_bytes (new.volume name)) bytes → Lasts new.moment name bytes new
Lasts-begin name bytes old new passes stable = record {
  before = λ moment since until.
      let same : moment ≡ new.moment = omega arith in
      let P : List ℕ → Type 0 = λ x. BeginsWith x bytes in
      subst P (sym (ap (λ m. new.kept m name) same ∙ passes.now name)) stable;
  now = stable;
}

-- bytes that are still stable after a call have lasted over it
lasts_over : (since : ℕ) (name bytes : List ℕ) (old new : Shelf) → Passes old new → Lasts since name bytes old
    → BeginsWith (stable_bytes (new.volume name)) bytes → Lasts since name bytes new
lasts_over since name bytes old new passes lasts stable = record {
  before = λ moment from until. elim (within moment until passes.moments) [
    | inl earlier ↦ (let P : List ℕ → Type 0 = λ x. BeginsWith x bytes in subst P (sym (passes.past moment name earlier)) (lasts.before moment from earlier))
    | inr present ↦ (let P : List ℕ → Type 0 = λ x. BeginsWith x bytes in subst P (sym (ap (λ m. new.kept m name) present ∙ passes.now name)) stable)
  ];
  now = stable;
}
  where
    within : (moment : ℕ) → moment ≤ new.moment → (SameShelf old new × (new.moment ≡ old.moment)) ⊎ (OtherShelf old new × (new.moment ≡ suc old.moment)) → (moment ≤ old.moment) ⊎ (moment ≡ new.moment)
    within moment until (inl same) = inl (omega (arith, same.1))
    within moment until (inr more) = elim (cases_lt old.moment moment) [ inl lt ↦ inr (omega (arith, more.1)) | inr le ↦ inl le ]

-- a call that keeps all stable bytes
pub still_lasts : (old new : Shelf) → Passes old new → KeepsStable old new → StillLasts old new
still_lasts old new passes keeps since name bytes lasts =
    lasts_over since name bytes old new passes lasts (BeginsWith-trans _ _ bytes (keeps name) lasts.now)

-- a cut of the loaded volume
pub still_lasts_below : (to : ℕ) (loaded : Option (List ℕ)) (volume : List ℕ) (old new : Shelf)
    → loaded ≡ Some volume → Passes old new → KeepsStableTo to loaded old new → StillLastsBelow to volume old new
still_lasts_below to loaded volume old new is passes keeps = record {
  below = λ since bytes short lasts.
      lasts_over since volume bytes old new passes lasts (BeginsWith-take _ _ bytes to (keeps.front volume) lasts.now short);
  others = λ since name bytes other lasts.
      lasts_over since name bytes old new passes lasts
      (BeginsWith-trans _ _ bytes (keeps.others name (λ e. other (some_is (sym e ∙ is)))) lasts.now);
}
  where
    some_is : {a b : List ℕ} → Some a ≡ Some b → a ≡ b
    some_is e = cc

-- every stable byte stays if every volume does
pub KeepsStable-same : (old new : Shelf) → SameShelf old new → KeepsStable old new
KeepsStable-same old new same name = BeginsWith-same _ _ (ap stable_bytes (same name))

-- a call that leaves every volume as it was
pub still_lasts_same : (old new : Shelf) → Passes old new → SameShelf old new → StillLasts old new
still_lasts_same old new passes same = still_lasts old new passes (KeepsStable-same old new same)

-- over no call
pub StillLasts-refl : (shelf : Shelf) → StillLasts shelf shelf
StillLasts-refl shelf since name bytes lasts = lasts

-- over one call after another
pub StillLasts-trans : (a b c : Shelf) → StillLasts a b → StillLasts b c → StillLasts a c
StillLasts-trans a b c first then since name bytes lasts = then since name bytes (first since name bytes lasts)

pub StillLastsBelow-of : (to : ℕ) (volume : List ℕ) (old new : Shelf) → StillLasts old new → StillLastsBelow to volume old new
StillLastsBelow-of to volume old new still = record {
  below = λ since bytes short lasts. still since volume bytes lasts;
  others = λ since name bytes other lasts. still since name bytes lasts;
}

pub StillLastsBelow-refl : (to : ℕ) (volume : List ℕ) (shelf : Shelf) → StillLastsBelow to volume shelf shelf
StillLastsBelow-refl to volume shelf = StillLastsBelow-of to volume shelf shelf (StillLasts-refl shelf)

-- what lasts below a place lasts below a lower one
pub StillLastsBelow-lower : (low to : ℕ) (volume : List ℕ) (old new : Shelf)
    → low ≤ to → StillLastsBelow to volume old new → StillLastsBelow low volume old new
StillLastsBelow-lower low to volume old new less still = record {
  below = λ since bytes short lasts. still.below since bytes (omega arith) lasts;
  others = still.others;
}

pub StillLastsBelow-trans : (to : ℕ) (volume : List ℕ) (a b c : Shelf)
    → StillLastsBelow to volume a b → StillLastsBelow to volume b c → StillLastsBelow to volume a c
StillLastsBelow-trans to volume a b c first then = record {
  below = λ since bytes short lasts. then.below since bytes short (first.below since bytes short lasts);
  others = λ since name bytes other lasts. then.others since name bytes other (first.others since name bytes other lasts);
}

-- bytes no longer than that last, whatever their volume
pub short_lasts : (to since : ℕ) (volume name bytes : List ℕ) (old new : Shelf)
    → StillLastsBelow to volume old new → length bytes ≤ to → Lasts since name bytes old → Lasts since name bytes new
short_lasts to since volume name bytes old new still short lasts = elim (name_cases name volume) [
  | inl same ↦ (
      let P : List ℕ → Type 0 = λ n. Lasts since n bytes old → Lasts since n bytes new in
      subst P (sym same) (still.below since bytes short) lasts)
  | inr other ↦ still.others since name bytes other lasts
]

-- what lasts since a moment lasts since each later one
pub Lasts-later : (since later : ℕ) (name bytes : List ℕ) (shelf : Shelf) → since ≤ later → Lasts since name bytes shelf → Lasts later name bytes shelf
Lasts-later since later name bytes shelf le lasts = record {
  before = λ moment from until. lasts.before moment (omega arith) until;
  now = lasts.now;
}

-- so does any front of what lasts
pub Lasts-front : (since : ℕ) (name bytes front : List ℕ) (shelf : Shelf) → BeginsWith bytes front → Lasts since name bytes shelf → Lasts since name front shelf
Lasts-front since name bytes front shelf begins lasts = record {
  before = λ moment from until. BeginsWith-trans _ bytes front (lasts.before moment from until) begins;
  now = BeginsWith-trans _ bytes front lasts.now begins;
}

-- the low mark of a volume since then is at least the length of what lasts since then
pub low_mark-lasts : (since : ℕ) (name bytes : List ℕ) (shelf : Shelf) → since ≤ shelf.moment → Lasts since name bytes shelf → length bytes ≤ low_mark shelf since name
low_mark-lasts since name bytes shelf known lasts = from (shelf.moment - since) (omega arith)
  where
    from : (more : ℕ) → since + more ≤ shelf.moment → length bytes ≤ lowest (λ moment. length (shelf.kept moment name)) since more
    from zero within = BeginsWith-length _ bytes (lasts.before since (omega arith) known)
    from (suc more) within =
        let r = from more (omega arith) in
        let here = BeginsWith-length _ bytes (lasts.before (since + suc more) (omega arith) within) in
        omega arith

-- all bytes of a volume are stable after its sync
pub synced_bytes : (name : List ℕ) (loaded : Option (List ℕ)) (held : Held) (old new : Shelf)
    → loaded ≡ Some name → Syncs loaded old new → old.volume name ≡ Some held → stable_bytes (new.volume name) ≡ held.bytes
synced_bytes name loaded held old new is syncs there =
    let after = syncs.here name held is there in
    ap stable_bytes after.2 ∙ ap (λ (h : Held). take h.stable h.bytes) after.1 ∙ take-length held.bytes

pub synced_last : (name : List ℕ) (loaded : Option (List ℕ)) (held : Held) (old new : Shelf)
    → Passes old new → loaded ≡ Some name → Syncs loaded old new → old.volume name ≡ Some held → Lasts new.moment name held.bytes new
synced_last name loaded held old new passes is syncs there =
    Lasts-begin name held.bytes old new passes (BeginsWith-same _ held.bytes (synced_bytes name loaded held old new is syncs there))

pub stable_last : (name : List ℕ) (old new : Shelf) → Passes old new → Lasts new.moment name (stable_bytes (new.volume name)) new
stable_last name old new passes = Lasts-begin name _ old new passes (BeginsWith-refl _)

-- a volume whose stable bytes begin with some bytes is there, and so do all its bytes
stands : (volume : Option Held) (bytes : List ℕ) → BeginsWith (stable_bytes volume) bytes → bytes ≢ []
    → (held : Held) × (volume ≡ Some held) × BeginsWith held.bytes bytes × (length bytes ≤ held.stable)
stands None [] begins some = absurd (some refl)
stands None (b ∷ bytes) begins some = cc
stands (Some held) bytes begins some =
    let within : length bytes ≤ held.stable = omega (arith, BeginsWith-length (take held.stable held.bytes) bytes begins, length-take held.stable held.bytes) in
    (held, refl, sym (take_front (length bytes) held.stable held.bytes within) ∙ begins, within)

pub stop_leaves : (since : ℕ) (name bytes : List ℕ) (shelf left : Shelf) → AfterStop since shelf left → Lasts since name bytes shelf → bytes ≢ []
    → (held : Held) × (left.volume name ≡ Some held) × BeginsWith held.bytes bytes × (length bytes ≤ held.stable)
stop_leaves since name bytes shelf left after lasts some = stands (left.volume name) bytes (after name bytes lasts) some
