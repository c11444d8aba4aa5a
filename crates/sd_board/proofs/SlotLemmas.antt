-- The slots of a drive: which lane is free, and what changes with one of them.
use Rattle.std.proofs.Common.{◌≡◌, ℕ, zero, suc, ◌+◌, ◌-◌, ◌≤◌, ◌<◌, refl, sym, ap, subst, ◌∙◌, inl, inr, arith, Bool, true, false, cond, Option, Some, None, List, [], ◌∷◌, ◌++◌, length, map, get_or, slice_get, slice_set, take}
use Rattle.std.specs.Prelude.{◌↔◌, IsSome, IsTrue, IfNone, IfSome, MatchBool, is_none, is_some}
use Rattle.std.specs.Option.{option_to_list}
use Rattle.std.proofs.lemmas.List.{append_assoc, append-nil, length-append, length-map, map-append, take_more}
use Rattle.std.proofs.lemmas.Option.{get_or_from_slice_get}
use Rattle.sd_base.proofs.ChoiceLemmas.{NoneBelow, same_some}
use Rattle.sd_base.specs.Choice.{FirstOf, NoneOf}
use Rattle.sd_base.specs.Limits.{most_lanes}
use Rattle.sd_drive.proofs.Places.{get_mapped, length_set}
use Rattle.sd_line.specs.Ends.{EndIs, LastIsOver}
use Rattle.sd_world.proofs.Lookups.{get_set-tells}
use Rattle.sd_board.specs.Changes.{change_at}
use Rattle.sd_board.specs.Slots.{AreNew, DriveLanesIs, IsAtHome, IsFree, KeepsLanes, MayLie, SlotIs, TakesLowest, arrived, ends_in, is_what, lies_in, new_lanes, new_slot, numbered, slot_with}
use Rattle.sd_board.specs.declared.sent.Sent.{Sent}

-- Free lanes.

-- if one is free, one is the lowest
pub some_lowest : (ss : List SlotIs) (lowest : Option ℕ) → (NoneOf IsFree ss → ⊥) → IfNone lowest (NoneOf IsFree ss) → IsSome lowest
some_lowest ss (Some at) free none = refl
some_lowest ss None free none = absurd (free none)

-- so whether there is a lowest says whether one is free
pub free_by : (ss : List SlotIs) (lowest : Option ℕ) → IfSome lowest (FirstOf IsFree (λ _ _. ⊥) ss) → IfNone lowest (NoneOf IsFree ss)
    → MatchBool (is_some lowest) (NoneOf IsFree ss → ⊥) (NoneOf IsFree ss)
free_by ss (Some at) first none = λ never. never at first.first first.there first.is_candidate
free_by ss None first none = none

-- the one after others that aren't free is the lowest
pub first_free : (ss : List SlotIs) (at : ℕ) (s : SlotIs) → NoneBelow IsFree ss at → slice_get ss at ≡ Some s → IsFree s → FirstOf IsFree (λ _ _. ⊥) ss at
first_free ss at s none there free = record {
  first = s;
  there = there;
  is_candidate = free;
  before = λ other x below stands is. none other x below stands is;
  behind = λ other x later stands is precedes. precedes;
}

-- what was read at the place of the lowest
pub lowest_read : (ss : List SlotIs) (at : ℕ) (read : SlotIs) → FirstOf IsFree (λ _ _. ⊥) ss at → read ≡ get_or ss at read
    → (slice_get ss at ≡ Some read) × IsFree read
lowest_read ss at read f is =
    let same : f.first ≡ read = sym (is ∙ get_or_from_slice_get ss at f.first read f.there) in
    (f.there ∙ ap Some same, subst IsFree same f.is_candidate)

-- whether no end lies in the slot that was read at a place
pub empty_read : (ss : List SlotIs) (at : ℕ) (read : SlotIs) (b : Bool) → slice_get ss at ≡ Some read → b ≡ is_none read.end
    → IsTrue b ↔ ((slot : SlotIs) × (slice_get ss at ≡ Some slot) × (slot.end ≡ None))
empty_read ss at read b there is = (
  λ yes. (read, there, none_is read.end (sym is ∙ yes)),
  λ (slot, stands, empty). is ∙ ap (λ (s : SlotIs). is_none s.end) (same_some (sym there ∙ stands)) ∙ ap is_none empty,
)
  where
    none_is : (o : Option EndIs) → is_none o ≡ true → o ≡ None
    none_is None e = refl
    none_is (Some x) e = absurd (cc e)

-- One slot changes.

-- what lies in the slots of other lanes stays
pub keeps_set : (d : DriveLanesIs) (at : ℕ) (new : SlotIs) → KeepsLanes d → ((e : EndIs) → new.end ≡ Some e → IsAtHome d.no (at + 1) e)
    → KeepsLanes (record d { slots = slice_set d.slots at new })
keeps_set d at new h own = record {
  most = (let same = length_set d.slots at new in let most = h.most in omega (arith, same, most));
  ends = λ k slot e there lies. elim (get_set-tells d.slots at k new slot there) [
    | inl p ↦ subst (λ (n : ℕ). IsAtHome d.no (n + 1) e) (sym p.0) (own e (ap (λ (x : SlotIs). x.end) (sym p.1) ∙ lies))
    | inr p ↦ h.ends k slot e p.1 lies
  ];
}

-- A slot out of which the end was taken.
module _ (d : DriveLanesIs) (at : ℕ) (e : EndIs) (slot new : SlotIs) (h : KeepsLanes d) (there : slice_get d.slots at ≡ Some slot)
    (is : new ≡ record slot { end = None; held = true }) where
  pub keeps_taken : KeepsLanes (record d { slots = slice_set d.slots at new })
  keeps_taken = keeps_set d at new h (λ x lies. absurd (cc (sym (ap (λ (s : SlotIs). s.end) is) ∙ lies)))

  pub takes : FirstOf IsFree (λ _ _. ⊥) d.slots at → slot.end ≡ Some e → TakesLowest d e (record d { slots = slice_set d.slots at new })
  takes f lies =
      let same : slot ≡ f.first = same_some (sym there ∙ f.there) in
      record {
        at = at;
        lowest = f;
        end_is = ap (λ (s : SlotIs). s.end) (sym same) ∙ lies;
        home = h.ends at slot e there lies;
        is = ap (λ (s : SlotIs). record d { slots = slice_set d.slots at s }) (is ∙ ap (λ (s : SlotIs). record s { end = None; held = true }) same);
      }

-- a slot in which its lane's end was laid
pub keeps_laid : (d : DriveLanesIs) (e : EndIs) (way : Option Sent) (at : ℕ) (new : SlotIs) → KeepsLanes d → e.seat.no ≡ d.no → e.seat.seat.lane ≡ at + 1
    → LastIsOver e.sessions → new ≡ slot_with e way → KeepsLanes (record d { slots = slice_set d.slots at new })
keeps_laid d e way at new h drive lane over is =
    let home : IsAtHome d.no (at + 1) e = record { drive_is = drive; lane_is = lane; over = over } in
    keeps_set d at new h (λ x lies. subst (IsAtHome d.no (at + 1)) (same_some (sym (ap (λ (s : SlotIs). s.end) is) ∙ lies)) home)

-- and so it lies there
pub lies : (d : DriveLanesIs) (e : EndIs) (way : Option Sent) (at : ℕ) (slot new : SlotIs) → at ≡ e.seat.seat.lane - 1 → slice_get d.slots at ≡ Some slot → slot.end ≡ None
    → LastIsOver e.sessions → new ≡ slot_with e way → MayLie d e × (record d { slots = slice_set d.slots at new } ≡ lies_in e way d)
lies d e way at slot new place there empty over is = (
  record { slot = slot; there = subst (λ (n : ℕ). slice_get d.slots n ≡ Some slot) place there; empty = empty; over = over },
  ap (λ (s : SlotIs). record d { slots = slice_set d.slots at s }) is ∙ ap (λ (n : ℕ). record d { slots = slice_set d.slots n (slot_with e way) }) place,
)

-- the end stays where it is
end_stays : (sent : Sent) (s : SlotIs) → (arrived sent s).end ≡ s.end
end_stays sent s = by (is_what sent s.on_its_way)
  where
    by : (b : Bool) → (cond b (record s { on_its_way = None }) s).end ≡ s.end
    by true = refl
    by false = refl

-- a slot from which something has arrived
pub keeps_arrived : (d : DriveLanesIs) (sent : Sent) (at : ℕ) (slot new : SlotIs) → KeepsLanes d → slice_get d.slots at ≡ Some slot → new ≡ arrived sent slot
    → KeepsLanes (record d { slots = slice_set d.slots at new })
keeps_arrived d sent at slot new h there is =
    keeps_set d at new h (λ e lies. h.ends at slot e there (sym (end_stays sent slot) ∙ sym (ap (λ (s : SlotIs). s.end) is) ∙ lies))

-- a slot whose session has its number
pub keeps_numbered : (d : DriveLanesIs) (at : ℕ) (slot new : SlotIs) → KeepsLanes d → slice_get d.slots at ≡ Some slot → new ≡ numbered slot
    → KeepsLanes (record d { slots = slice_set d.slots at new })
keeps_numbered d at slot new h there is =
    keeps_set d at new h (λ e lies. h.ends at slot e there (sym (ap (λ (s : SlotIs). s.end) is) ∙ lies))

-- Slots of new lanes.

-- the ends of new lanes are at home
pub keeps_new : (own : ℕ) (media : List ℕ) (ends : List EndIs) → length ends ≤ most_lanes → AreNew own ends → KeepsLanes (new_lanes own media ends)
keeps_new own media ends most new = record {
  most = (let same = length-map ends new_slot in omega (arith, same, most));
  ends = λ at slot e there lies.
      let m = get_mapped new_slot ends at slot there in
      let same : m.value ≡ e = same_some (sym (ap (λ (s : SlotIs). s.end) m.is) ∙ lies) in
      let n = new at m.value m.there in
      let home : IsAtHome own (at + 1) m.value = record { drive_is = n.0; lane_is = n.1; over = subst LastIsOver (sym n.2) tt } in
      subst (IsAtHome own (at + 1)) same home;
}

-- one more of what a function makes of a list
pub mapped_push : {A B : Type 0} (f : A → B) (xs : List A) (x : A) (old new : List B) (y : B) → old ≡ map f xs → new ≡ old ++ y ∷ [] → y ≡ f x
    → new ≡ map f (xs ++ x ∷ [])
mapped_push f xs x old new y are more is =
    more ∙ ap (λ z. old ++ z ∷ []) is ∙ ap (λ ys. ys ++ f x ∷ []) are ∙ sym (map-append f xs (x ∷ []))

-- one more of those that were gone through
pub mapped_more : {A B : Type 0} (f : A → B) (xs : List A) (n : ℕ) (x : A) (old new : List B) (y : B) → old ≡ map f (take n xs) → x ≡ get_or xs n x → n < length xs
    → new ≡ old ++ y ∷ [] → y ≡ f x → new ≡ map f (take (n + 1) xs)
mapped_more f xs n x old new y are read within more is =
    mapped_push f (take n xs) x old new y are more is ∙ ap (map f) (ap (λ z. take n xs ++ z ∷ []) read ∙ sym (take_more xs n x within))

-- What is at a place changes.

-- if something is there, that changes
pub set_changes : {A : Type 0} (f : A → A) (at : ℕ) (xs : List A) (x y : A) → slice_get xs at ≡ Some x → y ≡ f x → slice_set xs at y ≡ change_at f at xs
set_changes f at [] x y there is = absurd (cc there)
set_changes f zero (z ∷ xs) x y there is = ap (λ w. w ∷ xs) (is ∙ ap f (sym (same_some there)))
set_changes f (suc at) (z ∷ xs) x y there is = ap (λ l. z ∷ l) (set_changes f at xs x y there is)

-- if nothing is there, nothing changes
pub none_changes : {A : Type 0} (f : A → A) (at : ℕ) (xs : List A) → length xs ≤ at → change_at f at xs ≡ xs
none_changes f at [] past = refl
none_changes f zero (z ∷ xs) past = absurd (omega (arith, past))
none_changes f (suc at) (z ∷ xs) past = ap (λ l. z ∷ l) (none_changes f at xs (omega (arith, past)))

-- The ends of slots.

-- no slot, none of which has an end
pub keeps_none : (d : DriveLanesIs) (ss : List SlotIs) → ss ≡ [] → KeepsLanes (record d { slots = ss })
keeps_none d ss is =
    subst (λ (xs : List SlotIs). KeepsLanes (record d { slots = xs })) (sym is)
    (record { most = omega arith; ends = λ at slot e there lies. absurd (cc there) })

-- one slot after others
pub ends_push : (ss : List SlotIs) (s : SlotIs) (old new : List EndIs) → old ≡ ends_in ss → new ≡ old ++ option_to_list s.end → new ≡ ends_in (ss ++ s ∷ [])
ends_push ss s old new are more = more ∙ ap (λ (es : List EndIs). es ++ option_to_list s.end) are ∙ sym (behind ss)
  where
    behind : (xs : List SlotIs) → ends_in (xs ++ s ∷ []) ≡ ends_in xs ++ option_to_list s.end
    behind [] = append-nil (option_to_list s.end)
    behind (x ∷ xs) = ap (λ (es : List EndIs). option_to_list x.end ++ es) (behind xs) ∙ sym (append_assoc (option_to_list x.end) (ends_in xs) (option_to_list s.end))

-- no more ends than slots
pub ends_few : (ss : List SlotIs) → length (ends_in ss) ≤ length ss
ends_few [] = omega arith
ends_few (s ∷ ss) =
    let rest = ends_few ss in
    let one = one_at_most s.end in
    let both = length-append (option_to_list s.end) (ends_in ss) in
    omega (arith, rest, one, both)
  where
    one_at_most : (o : Option EndIs) → length (option_to_list o) ≤ 1
    one_at_most None = omega arith
    one_at_most (Some e) = omega arith
