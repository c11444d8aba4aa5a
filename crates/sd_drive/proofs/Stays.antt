-- Blocks at placements stay if the bytes before the end of their volumes' blocks do.
use Rattle.std.proofs.Common.{◌≡◌, ◌≢◌, inl, inr, ℕ, zero, suc, ◌+◌, ◌≤◌, Bool, true, false, if◌then◌else◌, List, [], ◌∷◌, ◌++◌, length, take, drop, map, refl, ap, ap₂, sym, subst, Option, Some, None, ◌∙◌, arith, length-append, slice_get}
use Rattle.std.proofs.lemmas.List.{length-take, append-nil}
use Rattle.std.specs.List.{AllByRecursion}
use Rattle.sd_driver.specs.Shelf.{Shelf, Held, Lasts, StillLasts, stable_bytes}
use Rattle.sd_journal.specs.Journal.{Entry, is_purged, live}
use Rattle.sd_label.specs.declared.label.VolumeLabel.{VolumeLabel}
use Rattle.sd_span.specs.declared.placement.Placement.{Placement}
use Rattle.sd_volume.specs.declared.volume.VolumeStatus.TheVariants.{Append}
use Rattle.sd_volume.specs.Image.{Block, label_and_blocks}
use Rattle.sd_volume.specs.Volume.{VolumeView, StandsOn}
use Rattle.sd_volume.specs.Append.{AddsBlock, KeepsBlocks}
use Rattle.sd_volume.proofs.ImageLemmas.{with_one_more}
use Rattle.sd_driver.proofs.Lasting.{BeginsWith-length}
use Rattle.sd_volume.proofs.PurgeLemmas.{take_front}
use Rattle.sd_drive.specs.Shelf.{bytes_at, image_at, block_at, block_of_entry, blocks_on, IsSafe, IsSafeIfSynced, LiesOn, AreLaidOut, NamesDiffer}
use Rattle.sd_drive.proofs.Places.{some_is, place_cases, other_name}

-- ---- a part of a list that lies before a place

pub part_before : {A : Type 0} (to start count : ℕ) (xs ys : List A) → start + count ≤ to → take to ys ≡ take to xs → take count (drop start ys) ≡ take count (drop start xs)
part_before to zero zero xs ys le same = refl
part_before zero zero (suc count) xs ys le same = absurd (omega arith)
part_before (suc to) zero (suc count) [] [] le same = refl
part_before (suc to) zero (suc count) [] (y ∷ ys) le same = absurd cc
part_before (suc to) zero (suc count) (x ∷ xs) [] le same = absurd cc
part_before (suc to) zero (suc count) (x ∷ xs) (y ∷ ys) le same =
    let r = part_before to zero count xs ys (omega arith) (tail_is same) in
    let h : y ≡ x = head_is same in
    cc
  where
    tail_is : {A : Type 0} {a b : A} {l m : List A} → a ∷ l ≡ b ∷ m → l ≡ m
    tail_is e = cc

    head_is : {A : Type 0} {a b : A} {l m : List A} → a ∷ l ≡ b ∷ m → a ≡ b
    head_is e = cc
part_before zero (suc start) count xs ys le same = absurd (omega arith)
part_before (suc to) (suc start) count [] [] le same = refl
part_before (suc to) (suc start) count [] (y ∷ ys) le same = absurd cc
part_before (suc to) (suc start) count (x ∷ xs) [] le same = absurd cc
part_before (suc to) (suc start) count (x ∷ xs) (y ∷ ys) le same = part_before to start count xs ys (omega arith) (tail_is same)
  where
    tail_is : {A : Type 0} {a b : A} {l m : List A} → a ∷ l ≡ b ∷ m → l ≡ m
    tail_is e = cc

-- ---- a volume on a shelf

-- the volume is on the shelf: its label block, its blocks, and a tail only if it takes no more
pub record Stands (shelf : Shelf) (v : VolumeView) : Type 0 where
  pub label : VolumeLabel
  pub blocks : List Block
  pub tail : List ℕ
  pub stands : StandsOn v shelf label blocks tail

-- so does each of the volumes
abbrev pub AllStand : Shelf → List VolumeView → Type 0
AllStand shelf vs = (at : ℕ) (v : VolumeView) → slice_get vs at ≡ Some v → Stands shelf v

pub laid_stand : (shelf : Shelf) (ps : List Placement) (vs : List VolumeView) → AreLaidOut shelf ps vs → AllStand shelf vs
laid_stand shelf ps vs laid = λ at v there. (
    let l = laid at v there in
    record { label = l.label; blocks = l.earlier ++ blocks_on shelf v.name ps; tail = l.tail; stands = l.stands })

-- the label block and blocks of a volume are its bytes up to its end
pub record IsFront (shelf : Shelf) (v : VolumeView) (label : VolumeLabel) (blocks : List Block) : Type 0 where
  pub held : Held
  pub there : shelf.volume v.name ≡ Some held
  pub end_is : v.end ≡ length (label_and_blocks label blocks)
  pub within : v.end ≤ length held.bytes
  pub front : take v.end held.bytes ≡ label_and_blocks label blocks

pub front_of : (shelf : Shelf) (v : VolumeView) (label : VolumeLabel) (blocks : List Block) (tail : List ℕ) → StandsOn v shelf label blocks tail → IsFront shelf v label blocks
front_of shelf v label blocks tail s =
    let front = label_and_blocks label blocks in
    let bytes = s.image.bytes_are in
    record {
      held = s.held;
      there = s.there;
      end_is = s.end_is;
      within = omega (arith, s.end_is, ap length bytes, length-append front tail);
      front = ap (λ n. take n s.held.bytes) s.end_is ∙ ap (take (length front)) bytes ∙ take_front front tail;
    }

-- ---- a volume before and after a call

-- up to the end of the volume's blocks the new shelf holds the same bytes of it
pub record KeepsFront (old new : Shelf) (v : VolumeView) : Type 0 where
  pub held : Held
  pub was : old.volume v.name ≡ Some held
  pub after : Held
  pub there : new.volume v.name ≡ Some after
  pub within : v.end ≤ length after.bytes
  pub front : take v.end after.bytes ≡ take v.end held.bytes

-- the shelf holds the same bytes of a volume
abbrev pub SameBytes : Shelf → Shelf → List ℕ → Type 0
SameBytes old new name = (held : Held) → old.volume name ≡ Some held → (after : Held) × (new.volume name ≡ Some after) × (after.bytes ≡ held.bytes)

pub same_bytes : (old new : Shelf) (name : List ℕ) → new.volume name ≡ old.volume name → SameBytes old new name
same_bytes old new name same = λ held there. (held, same ∙ there, refl)

front_same : (old new : Shelf) (v : VolumeView) → SameBytes old new v.name → Stands old v → KeepsFront old new v
front_same old new v same s =
    let f = front_of old v s.label s.blocks s.tail s.stands in
    let a = same f.held f.there in
    record {
      held = f.held;
      was = f.there;
      after = a.0;
      there = a.1;
      within = (let within = f.within in let l = ap length a.2 in omega arith);
      front = ap (take v.end) a.2;
    }

take_less : {A : Type 0} (less more : ℕ) (xs : List A) → less ≤ more → take less (take more xs) ≡ take less xs
take_less zero more xs le = refl
take_less (suc less) zero xs le = absurd (omega arith)
take_less (suc less) (suc more) [] le = refl
take_less (suc less) (suc more) (x ∷ xs) le = ap (λ l. x ∷ l) (take_less less more xs (omega arith))

-- a volume that is there with the same blocks, or with more after them
front_behind : (old new : Shelf) (v w : VolumeView) (label : VolumeLabel) (blocks all : List Block) (more tail : List ℕ) → IsFront old v label blocks → StandsOn w new label all tail
    → w.name ≡ v.name → label_and_blocks label all ≡ label_and_blocks label blocks ++ more → KeepsFront old new v
front_behind old new v w label blocks all more tail f s name parted =
    let g = front_of new w label all tail s in
    let lab = label_and_blocks label blocks in
    let end : v.end ≤ w.end = omega (arith, f.end_is, g.end_is, ap length parted, length-append lab more) in
    let bytes : take v.end g.held.bytes ≡ lab =
    sym (take_less v.end w.end g.held.bytes end) ∙ ap (take v.end) (g.front ∙ parted) ∙ ap (λ n. take n (lab ++ more)) f.end_is ∙ take_front lab more in
    record {
      held = f.held;
      was = f.there;
      after = g.held;
      there = ap new.volume (sym name) ∙ g.there;
      within = (let a = g.within in omega arith);
      front = bytes ∙ sym f.front;
    }

-- after an append that failed
pub front_kept : (old new : Shelf) (v w : VolumeView) → KeepsBlocks v old w new → w.name ≡ v.name → Stands old v → KeepsFront old new v
front_kept old new v w keeps name s =
    let k = keeps s.label s.blocks s.tail s.stands in
    front_behind old new v w s.label s.blocks s.blocks [] k.0 (front_of old v s.label s.blocks s.tail s.stands) k.1 name (sym (append-nil (label_and_blocks s.label s.blocks)))

-- after one that went in
pub front_added : (old new : Shelf) (v w : VolumeView) (block : Block) → AddsBlock block v old w new → w.name ≡ v.name → v.status ≡ Append → Stands old v → KeepsFront old new v
front_added old new v w block adds name takes s =
    let P : List ℕ → Type 0 = λ t. StandsOn v old s.label s.blocks t in
    let k = adds s.label s.blocks (subst P (s.stands.no_tail takes) s.stands) in
    front_behind old new v w s.label s.blocks (s.blocks ++ block ∷ []) _ [] (front_of old v s.label s.blocks s.tail s.stands) k name (with_one_more s.label s.blocks block)

-- ---- all volumes of a drive

abbrev pub AllKeepFronts : Shelf → Shelf → List VolumeView → Type 0
AllKeepFronts old new vs = (at : ℕ) (v : VolumeView) → slice_get vs at ≡ Some v → KeepsFront old new v

pub fronts_same : (old new : Shelf) (vs : List VolumeView) → AllStand old vs → ((at : ℕ) (v : VolumeView) → slice_get vs at ≡ Some v → SameBytes old new v.name) → AllKeepFronts old new vs
fronts_same old new vs stand same = λ at v there. front_same old new v (same at v there) (stand at v there)

-- if all but one keep their bytes
pub fronts_but : (old new : Shelf) (vs : List VolumeView) (at : ℕ) (v : VolumeView) → NamesDiffer vs → AllStand old vs → slice_get vs at ≡ Some v → KeepsFront old new v
    → ((other : List ℕ) → other ≢ v.name → SameBytes old new other) → AllKeepFronts old new vs
fronts_but old new vs at v differ stand there own others = λ place x here. elim (place_cases place at) [
  | inl same ↦ subst (KeepsFront old new) (some_is (sym there ∙ ap (slice_get vs) (sym same) ∙ here)) own
  | inr apart ↦ front_same old new x (others x.name (other_name vs at place v x differ there here apart)) (stand place x here)
]

-- ---- placements

-- the volume of a placement after a call: up to the end of the placement the shelf holds the same bytes of it
pub record SeenAfter (old new : Shelf) (p : Placement) : Type 0 where
  pub after : Held
  pub there : new.volume p.volume ≡ Some after
  pub within : p.start + p.length ≤ length after.bytes
  pub front : (held : Held) → old.volume p.volume ≡ Some held → take (p.start + p.length) after.bytes ≡ take (p.start + p.length) held.bytes
  pub image : image_at new p ≡ image_at old p

seen_after : (old new : Shelf) (vs : List VolumeView) (e : Entry) → AllKeepFronts old new vs → LiesOn vs e → is_purged e.mark ≡ false → SeenAfter old new e.placement
seen_after old new vs e fronts lies is =
    let p = e.placement in
    let k = fronts lies.at lies.volume lies.there in
    let end = lies.volume.end in
    let within = lies.within is in
    let was : old.volume p.volume ≡ Some k.held = ap old.volume lies.name_is ∙ k.was in
    let there : new.volume p.volume ≡ Some k.after = ap new.volume lies.name_is ∙ k.there in
    record {
      after = k.after;
      there = there;
      within = (let l = k.within in omega arith);
      front = λ held known. (
          let one : k.held ≡ held = some_is (sym was ∙ known) in
          sym (take_less (p.start + p.length) end k.after.bytes within) ∙ ap (take (p.start + p.length)) (k.front ∙ ap (λ (h : Held). take end h.bytes) one)
          ∙ take_less (p.start + p.length) end held.bytes within);
      image = ap (λ o. bytes_at o p.start p.length) there ∙ part_before end p.start p.length k.held.bytes k.after.bytes within k.front ∙ sym (ap (λ o. bytes_at o p.start p.length) was);
    }

-- what lasted of the volumes of a drive lasts
abbrev pub StillOn : List VolumeView → Shelf → Shelf → Type 0
StillOn vs old new = (at : ℕ) (v : VolumeView) → slice_get vs at ≡ Some v → (since : ℕ) (bytes : List ℕ) → Lasts since v.name bytes old → Lasts since v.name bytes new

pub still_on : (vs : List VolumeView) (old new : Shelf) → StillLasts old new → StillOn vs old new
still_on vs old new later = λ at v there since bytes lasts. later since v.name bytes lasts

still_there : (vs : List VolumeView) (old new : Shelf) (e : Entry) → LiesOn vs e → StillOn vs old new → (since : ℕ) (bytes : List ℕ) → Lasts since e.placement.volume bytes old → Lasts since e.placement.volume bytes new
still_there vs old new e lies later since bytes lasts =
    let P : List ℕ → Type 0 = λ n. Lasts since n bytes old in
    let Q : List ℕ → Type 0 = λ n. Lasts since n bytes new in
    subst Q (sym lies.name_is) (later lies.at lies.volume lies.there since bytes (subst P lies.name_is lasts))

-- what lasted of a volume up to the end of a block lasts
safe_stays : (old new : Shelf) (vs : List VolumeView) (e : Entry) → AllKeepFronts old new vs → LiesOn vs e → is_purged e.mark ≡ false → StillOn vs old new → old.moment ≤ new.moment → IsSafe old e.placement → IsSafe new e.placement
safe_stays old new vs e fronts lies is later moment safe =
    let p = e.placement in
    let s = seen_after old new vs e fronts lies is in
    let same : take (p.start + p.length) s.after.bytes ≡ take (p.start + p.length) safe.held.bytes = s.front safe.held safe.there in
    let P : List ℕ → Type 0 = λ bytes. Lasts safe.since p.volume bytes new in
    let lasts : Lasts safe.since p.volume (take (p.start + p.length) s.after.bytes) new = subst P (sym same) (still_there vs old new e lies later safe.since _ safe.lasts) in
    let long = BeginsWith-length (stable_bytes (new.volume p.volume)) (take (p.start + p.length) s.after.bytes) lasts.now in
    let here : length (stable_bytes (new.volume p.volume)) ≡ length (take s.after.stable s.after.bytes) = ap (λ o. length (stable_bytes o)) s.there in
    record {
      held = s.after;
      there = s.there;
      stable = (let w = s.within in omega (arith, length-take (p.start + p.length) s.after.bytes, length-take s.after.stable s.after.bytes));
      since = safe.since;
      past = omega (arith, safe.past, moment);
      lasts = lasts;
    }

-- what is synced stays safe
pub all_safe : (old new : Shelf) (vs : List VolumeView) (js : List Entry) → AllKeepFronts old new vs → StillOn vs old new → old.moment ≤ new.moment → AllByRecursion (LiesOn vs) js
    → AllByRecursion (IsSafeIfSynced old) js → AllByRecursion (IsSafeIfSynced new) js
all_safe old new vs [] fronts later moment lie safe = safe
all_safe old new vs (e ∷ es) fronts later moment lie safe =
    (λ synced. safe_stays old new vs e fronts lie.0 (ap is_purged synced) later moment (safe.0 synced), all_safe old new vs es fronts later moment lie.1 safe.1)

-- ---- blocks

-- the shelves hold one block of the entry, unless it is gone
abbrev pub SameBlock : Shelf → Shelf → Entry → Type 0
SameBlock old new e = is_purged e.mark ≡ false → block_at new e.placement ≡ block_at old e.placement

pub all_same_block : (old new : Shelf) (vs : List VolumeView) (js : List Entry) → AllKeepFronts old new vs → AllByRecursion (LiesOn vs) js → AllByRecursion (SameBlock old new) js
all_same_block old new vs [] fronts lie = tt
all_same_block old new vs (e ∷ es) fronts lie = (
  λ is. ap (λ (bytes : List ℕ). record { key = e.placement.key; body = drop 24 bytes }) (seen_after old new vs e fronts lie.0 is).image,
  all_same_block old new vs es fronts lie.1,
)

pub blocks_same : (old new : Shelf) (js : List Entry) → AllByRecursion (SameBlock old new) js → map (block_of_entry new) js ≡ map (block_of_entry old) js
blocks_same old new [] same = refl
blocks_same old new (e ∷ es) same = ap₂ (λ b bs. b ∷ bs) (from (is_purged e.mark) same.0) (blocks_same old new es same.1)
  where
    from : (b : Bool) → (b ≡ false → block_at new e.placement ≡ block_at old e.placement)
        → ◌≡◌ {A = Option Block} (if b then None else Some (block_at new e.placement)) (if b then None else Some (block_at old e.placement))
    from true h = refl
    from false h = ap Some (h refl)

pub live_same : (old new : Shelf) (js : List Entry) → AllByRecursion (SameBlock old new) js → map (block_at new) (live js) ≡ map (block_at old) (live js)
live_same old new [] same = refl
live_same old new (e ∷ es) same = from (is_purged e.mark) same.0 (live_same old new es same.1)
  where
    from : (b : Bool) → (b ≡ false → block_at new e.placement ≡ block_at old e.placement) → map (block_at new) (live es) ≡ map (block_at old) (live es)
        → map (block_at new) (if b then live es else e.placement ∷ live es) ≡ map (block_at old) (if b then live es else e.placement ∷ live es)
    from true h rest = rest
    from false h rest = ap₂ (λ b bs. b ∷ bs) (h refl) rest
