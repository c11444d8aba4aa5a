-- What a drive keeps when its volumes and its journal change.
use Rattle.std.proofs.Common.{◌≡◌, inl, inr, ℕ, ◌≤◌, ◌<◌, List, [], ◌∷◌, ◌++◌, length, map, ap, sym, subst, Option, Some, None, ◌∙◌, arith, slice_get, slice_set}
use Rattle.std.specs.Prelude.{IsTrue, IfSome}
use Rattle.std.specs.List.{AllByRecursion}
use Rattle.std.specs.Option.{option_to_list}
use Rattle.sd_driver.specs.Meaning.{Meaning, IsHonest}
use Rattle.sd_driver.specs.Shelf.{Shelf}
use Rattle.sd_journal.specs.Journal.{Entry, placements, items_of, live}
use Rattle.sd_lane.specs.declared.piece.Piece.{Piece}
use Rattle.sd_volume.specs.Volume.{VolumeView}
use Rattle.sd_drive.specs.View.{items, block_of_piece, item_of_piece}
use Rattle.sd_drive.specs.Shelf.{block_of_entry, blocks, LiesOn, Kept}
use Rattle.sd_drive.proofs.Places.{some_is, get_set_here, get_set_other, place_cases}
use Rattle.sd_drive.proofs.Stays.{AllStand, laid_stand}

-- ---- honesty

pub still : (old new : Meaning) → new.honest ≡ old.honest → IsHonest new → IsHonest old
still old new e h = subst IsTrue e h

-- each volume of a drive with an honest device is on the shelf
pub kept_stand : (device : Meaning) (vs : List VolumeView) (l : Option ℕ) (js : List Entry) → Kept device vs l js → IsHonest device → AllStand device.shelf vs
kept_stand device vs l js k honest = laid_stand device.shelf (live js) vs (k.laid honest)

-- ---- entries

pub all_more : {A : Type 0} (P : A → Type 0) (xs : List A) (x : A) → AllByRecursion P xs → P x → AllByRecursion P (xs ++ x ∷ [])
all_more P [] x h l = (l, h)
all_more P (y ∷ ys) x h l = (h.0, all_more P ys x h.1 l)

pub all_as : {A : Type 0} (P Q : A → Type 0) (xs : List A) → ((x : A) → P x → Q x) → AllByRecursion P xs → AllByRecursion Q xs
all_as P Q [] f h = h
all_as P Q (x ∷ xs) f h = (f x h.0, all_as P Q xs f h.1)

pub all_map : {A : Type 0} (P Q : A → Type 0) (g : A → A) (xs : List A) → ((x : A) → P x → Q (g x)) → AllByRecursion P xs → AllByRecursion Q (map g xs)
all_map P Q g [] f h = h
all_map P Q g (x ∷ xs) f h = (f x h.0, all_map P Q g xs f h.1)

-- ---- one volume in another's place

pub lies_set : (vs : List VolumeView) (at : ℕ) (v w : VolumeView) (e : Entry) → slice_get vs at ≡ Some v → w.name ≡ v.name → v.end ≤ w.end → LiesOn vs e → LiesOn (slice_set vs at w) e
lies_set vs at v w e there name end lies = elim (place_cases lies.at at) [
  | inl same ↦ (
      let one : v ≡ lies.volume = some_is (sym there ∙ ap (slice_get vs) (sym same) ∙ lies.there) in
      record {
        at = at;
        volume = w;
        there = get_set_here vs at v w there;
        name_is = lies.name_is ∙ ap (λ (x : VolumeView). x.name) (sym one) ∙ sym name;
        within = λ is. (let a = lies.within is in let b = ap (λ (x : VolumeView). x.end) one in omega arith);
      })
  | inr apart ↦ record {
    at = lies.at;
    volume = lies.volume;
    there = get_set_other vs at lies.at w apart ∙ lies.there;
    name_is = lies.name_is;
    within = lies.within;
  }
]

pub within_some : {A : Type 0} (xs ys : List A) (loaded : Option ℕ) → length ys ≡ length xs → IfSome loaded (λ at. at < length xs) → IfSome loaded (λ at. at < length ys)
within_some xs ys None same h = h
within_some xs ys (Some at) same h = omega arith

-- ---- pieces

pub items_by : (js js' : List Entry) (hand : Option Piece) → placements js' ≡ placements js → items js' hand ≡ items js hand
items_by js js' hand same = ap (λ ps. items_of ps ++ map item_of_piece (option_to_list hand)) same

pub blocks_of : (old new : Shelf) (js js' : List Entry) (hand : Option Piece) → map (block_of_entry new) js' ≡ map (block_of_entry old) js → blocks new js' hand ≡ blocks old js hand
blocks_of old new js js' hand same = ap (λ l. l ++ map (λ (p : Piece). Some (block_of_piece p)) (option_to_list hand)) same
