-- How the blocks of volumes are laid out when volumes and placements change.
use Rattle.std.proofs.Common.{◌≡◌, ◌≢◌, inl, inr, ℕ, ◌+◌, Bool, true, false, if◌then◌else◌, List, [], ◌∷◌, ◌++◌, length, map, take, drop, refl, ap, sym, subst, Some, ◌∙◌, arith, slice_get, slice_set}
use Rattle.std.proofs.lemmas.List.{map-append, append_assoc, append-nil}
use Rattle.std.specs.List.{AllByRecursion}
use Rattle.std.specs.Str.{bytes_eq}
use Rattle.std.proofs.lemmas.Slice.Eq.{bytes_eq-Decides}
use Rattle.sd_driver.specs.Shelf.{Shelf, Held}
use Rattle.sd_journal.specs.Journal.{Entry, noted, is_purged, live}
use Rattle.sd_label.specs.declared.label.VolumeLabel.{VolumeLabel}
use Rattle.sd_lane.specs.declared.piece.Piece.{Piece}
use Rattle.sd_span.specs.declared.placement.Placement.{Placement}
use Rattle.sd_volume.specs.declared.volume.VolumeStatus.{VolumeStatus}
use Rattle.sd_volume.specs.declared.volume.VolumeStatus.TheVariants.{Append}
use Rattle.sd_volume.specs.Append.{AddsBlock, KeepsBlocks}
use Rattle.sd_volume.specs.Image.{Block, volume_end}
use Rattle.sd_volume.specs.Volume.{VolumeView, StandsOn}
use Rattle.sd_volume.proofs.ImageLemmas.{volume_end-more}
use Rattle.sd_volume.proofs.VolumeLemmas.{stands_by_its_bytes}
use Rattle.sd_drive.specs.View.{names, block_of_piece}
use Rattle.sd_drive.specs.Moves.{next_placement}
use Rattle.sd_drive.specs.Shelf.{bytes_at, image_at, block_at, placements_on, blocks_on, LieBehind, IsLaidOut, AreLaidOut, LiesOn, NamesDiffer}
use Rattle.sd_drive.proofs.Places.{some_is, get_set_here, get_set_other, get_more, place_cases, other_name, name_at}
use Rattle.sd_drive.proofs.Stays.{Stands, SameBytes}

-- ---- placements on a volume

on_if : (name : List ℕ) (p : Placement) (ps : List Placement) (b : Bool) → bytes_eq p.volume name ≡ b → placements_on name (p ∷ ps) ≡ (if b then p ∷ placements_on name ps else placements_on name ps)
on_if name p ps b is = ap (λ c. if c then p ∷ placements_on name ps else placements_on name ps) is

pub placements_on-append : (name : List ℕ) (ps qs : List Placement) → placements_on name (ps ++ qs) ≡ placements_on name ps ++ placements_on name qs
placements_on-append name [] qs = refl
placements_on-append name (p ∷ ps) qs =
    let r = placements_on-append name ps qs in
    elim (bytes_eq p.volume name) as (λ b. (if b then p ∷ placements_on name (ps ++ qs) else placements_on name (ps ++ qs)) ≡ (if b then p ∷ placements_on name ps else placements_on name ps) ++ placements_on name qs) [
      | true ↦ ap (λ l. p ∷ l) r
      | false ↦ r
    ]

pub on_here : (name : List ℕ) (p : Placement) → p.volume ≡ name → placements_on name (p ∷ []) ≡ p ∷ []
on_here name p on = on_if name p [] true ((bytes_eq-Decides p.volume name).1 on)

pub on_other : (name : List ℕ) (p : Placement) → p.volume ≢ name → placements_on name (p ∷ []) ≡ []
on_other name p off = from (bytes_eq p.volume name) refl
  where
    from : (b : Bool) → bytes_eq p.volume name ≡ b → placements_on name (p ∷ []) ≡ []
    from true is = absurd (off ((bytes_eq-Decides p.volume name).0 is))
    from false is = on_if name p [] false is

-- one more on another volume
pub none_more : (name : List ℕ) (p : Placement) (ps : List Placement) → p.volume ≢ name → placements_on name (ps ++ p ∷ []) ≡ placements_on name ps
none_more name p ps off = placements_on-append name ps (p ∷ []) ∙ ap (λ l. placements_on name ps ++ l) (on_other name p off) ∙ append-nil (placements_on name ps)

-- one more whose block is there
pub live_more : (js : List Entry) (p : Placement) → live (js ++ noted p ∷ []) ≡ live js ++ p ∷ []
live_more [] p = refl
live_more (e ∷ es) p =
    let r = live_more es p in
    elim (is_purged e.mark) as (λ b. (if b then live (es ++ noted p ∷ []) else e.placement ∷ live (es ++ noted p ∷ [])) ≡ (if b then live es else e.placement ∷ live es) ++ p ∷ []) [
      | true ↦ r
      | false ↦ ap (λ l. e.placement ∷ l) r
    ]

-- an entry on another volume in front
pub off_front : (name : List ℕ) (e : Entry) (es : List Entry) → e.placement.volume ≢ name → placements_on name (live (e ∷ es)) ≡ placements_on name (live es)
off_front name e es off = elim (is_purged e.mark) as (λ b. placements_on name (if b then live es else e.placement ∷ live es) ≡ placements_on name (live es)) [
  | true ↦ refl
  | false ↦ placements_on-append name (e.placement ∷ []) (live es) ∙ ap (λ l. l ++ placements_on name (live es)) (on_other name e.placement off)
]

-- no volume of a fresh name has a placement
pub none_on : (vs : List VolumeView) (js : List Entry) (name : List ℕ) → ((at : ℕ) → slice_get (names vs) at ≢ Some name) → AllByRecursion (LiesOn vs) js → placements_on name (live js) ≡ []
none_on vs [] name fresh lie = refl
none_on vs (e ∷ es) name fresh lie =
    let l = lie.0 in
    let off : e.placement.volume ≢ name = λ on. fresh l.at (name_at vs l.at l.volume l.there ∙ ap (λ n. Some n) (sym l.name_is ∙ on)) in
    off_front name e es off ∙ none_on vs es name fresh lie.1

-- ---- blocks at them

-- they stay with the bytes of the volume
pub blocks_on_same : (old new : Shelf) (name : List ℕ) (held : Held) → old.volume name ≡ Some held → SameBytes old new name → (ps : List Placement) → blocks_on new name ps ≡ blocks_on old name ps
blocks_on_same old new name held there same [] = refl
blocks_on_same old new name held there same (p ∷ ps) = from (bytes_eq p.volume name) refl (blocks_on_same old new name held there same ps)
  where
    image : p.volume ≡ name → image_at new p ≡ image_at old p
    image on =
        let a = same held there in
        ap (λ o. bytes_at o p.start p.length) (ap new.volume on ∙ a.1) ∙ ap (λ (b : List ℕ). take p.length (drop p.start b)) a.2
        ∙ sym (ap (λ o. bytes_at o p.start p.length) (ap old.volume on ∙ there))

    from : (b : Bool) → bytes_eq p.volume name ≡ b → blocks_on new name ps ≡ blocks_on old name ps → blocks_on new name (p ∷ ps) ≡ blocks_on old name (p ∷ ps)
    from true is r =
        let h : block_at new p ≡ block_at old p = ap (λ (b : List ℕ). record { key = p.key; body = drop 24 b }) (image ((bytes_eq-Decides p.volume name).0 is)) in
        ap (map (block_at new)) (on_if name p ps true is) ∙ ap (λ b. b ∷ blocks_on new name ps) h ∙ ap (λ l. block_at old p ∷ l) r ∙ sym (ap (map (block_at old)) (on_if name p ps true is))
    from false is r = ap (map (block_at new)) (on_if name p ps false is) ∙ r ∙ sym (ap (map (block_at old)) (on_if name p ps false is))

-- they stay if all blocks at placements do
pub blocks_on_by : (f g : Placement → Block) (name : List ℕ) (ps : List Placement) → map f ps ≡ map g ps → map f (placements_on name ps) ≡ map g (placements_on name ps)
blocks_on_by f g name [] same = refl
blocks_on_by f g name (p ∷ ps) same =
    let h : f p ≡ g p = head_is same in
    let r = blocks_on_by f g name ps (tail_is same) in
    elim (bytes_eq p.volume name) as (λ b. map f (if b then p ∷ placements_on name ps else placements_on name ps) ≡ map g (if b then p ∷ placements_on name ps else placements_on name ps)) [
      | true ↦ ap (λ b. b ∷ map f (placements_on name ps)) h ∙ ap (λ l. g p ∷ l) r
      | false ↦ r
    ]
  where
    tail_is : {A : Type 0} {a b : A} {l m : List A} → a ∷ l ≡ b ∷ m → l ≡ m
    tail_is e = cc

    head_is : {A : Type 0} {a b : A} {l m : List A} → a ∷ l ≡ b ∷ m → a ≡ b
    head_is e = cc

-- one more of them
pub lie_more : (label : VolumeLabel) (earlier : List Block) (ps : List Placement) (bs : List Block) (p : Placement) (b : Block) → LieBehind label earlier ps bs
    → p.start ≡ volume_end label (earlier ++ bs) → p.start + p.length ≡ volume_end label ((earlier ++ bs) ++ b ∷ []) → LieBehind label earlier (ps ++ p ∷ []) (bs ++ b ∷ [])
lie_more label earlier [] [] p b lie from to = (
  from ∙ ap (volume_end label) (append-nil earlier),
  to ∙ ap (λ (l : List Block). volume_end label (l ++ b ∷ [])) (append-nil earlier),
  tt,
)
lie_more label earlier [] (c ∷ cs) p b lie from to = absurd lie
lie_more label earlier (q ∷ qs) [] p b lie from to = absurd lie
lie_more label earlier (q ∷ qs) (c ∷ cs) p b lie from to =
    let same : earlier ++ c ∷ cs ≡ (earlier ++ c ∷ []) ++ cs = sym (append_assoc earlier (c ∷ []) cs) in (
      lie.0,
      lie.1,
      lie_more label (earlier ++ c ∷ []) qs cs p b lie.2 (from ∙ ap (volume_end label) same) (to ∙ ap (λ (l : List Block). volume_end label (l ++ b ∷ [])) same),
    )

-- ---- one volume

-- the volume keeps its blocks
pub laid_kept : (old new : Shelf) (ps : List Placement) (v w : VolumeView) → w.name ≡ v.name → blocks_on new v.name ps ≡ blocks_on old v.name ps → KeepsBlocks v old w new → IsLaidOut old ps v → IsLaidOut new ps w
laid_kept old new ps v w name same keeps s =
    let k = keeps s.label (s.earlier ++ blocks_on old v.name ps) s.tail s.stands in
    let all : blocks_on new w.name ps ≡ blocks_on old v.name ps = ap (λ n. blocks_on new n ps) name ∙ same in
    let P : List Block → Type 0 = λ bs. StandsOn w new s.label (s.earlier ++ bs) k.0 in
    let Q : List Block → Type 0 = λ bs. LieBehind s.label s.earlier (placements_on w.name ps) bs in
    let R : List ℕ → Type 0 = λ n. LieBehind s.label s.earlier (placements_on n ps) (blocks_on old v.name ps) in
    record {
      label = s.label;
      earlier = s.earlier;
      tail = k.0;
      stands = subst P (sym all) k.1;
      lie = subst Q (sym all) (subst R (sym name) s.lie);
    }

-- it keeps its bytes
pub laid_same : (old new : Shelf) (ps : List Placement) (v : VolumeView) → SameBytes old new v.name → IsLaidOut old ps v → IsLaidOut new ps v
laid_same old new ps v same s =
    laid_kept old new ps v v refl (blocks_on_same old new v.name s.stands.held s.stands.there same ps)
    (λ label blocks tail stands. (let a = same stands.held stands.there in (tail, stands_by_its_bytes v old new stands.held a.0 label blocks tail stands stands.there a.1 a.2))) s

-- it takes no more
pub laid_shut : (shelf : Shelf) (ps : List Placement) (v w : VolumeView) (status : VolumeStatus) → w ≡ record v { status = status } → status ≢ Append → IsLaidOut shelf ps v → IsLaidOut shelf ps w
laid_shut shelf ps v w status is shut s =
    let P : VolumeView → Type 0 = λ x. IsLaidOut shelf ps x in
    let t = s.stands in
    subst P (sym is) (record {
      label = s.label;
      earlier = s.earlier;
      tail = s.tail;
      stands = record {
        held = t.held;
        there = t.there;
        image = t.image;
        name_is = t.name_is;
        pool_is = t.pool_is;
        media_is = t.media_is;
        end_is = t.end_is;
        next_is = t.next_is;
        first_is = t.first_is;
        no_tail = λ e. absurd (shut e);
      };
      lie = s.lie;
    })

-- its placements among other ones are the same
pub laid_by : (shelf : Shelf) (ps qs : List Placement) (v : VolumeView) → placements_on v.name qs ≡ placements_on v.name ps → IsLaidOut shelf ps v → IsLaidOut shelf qs v
laid_by shelf ps qs v same s =
    let P : List Placement → Type 0 = λ l. StandsOn v shelf s.label (s.earlier ++ map (block_at shelf) l) s.tail in
    let Q : List Placement → Type 0 = λ l. LieBehind s.label s.earlier l (map (block_at shelf) l) in
    record { label = s.label; earlier = s.earlier; tail = s.tail; stands = subst P (sym same) s.stands; lie = subst Q (sym same) s.lie }

-- it has none
pub laid_first : (shelf : Shelf) (ps : List Placement) (v : VolumeView) → placements_on v.name ps ≡ [] → Stands shelf v → IsLaidOut shelf ps v
laid_first shelf ps v none s =
    let P : List Block → Type 0 = λ bs. StandsOn v shelf s.label bs s.tail in
    laid_by shelf [] ps v none (record { label = s.label; earlier = s.blocks; tail = s.tail; stands = subst P (sym (append-nil s.blocks)) s.stands; lie = tt })

-- a block is added to it
pub laid_added : (old new : Shelf) (ps : List Placement) (v w : VolumeView) (piece : Piece) (p : Placement) → v.status ≡ Append → w.name ≡ v.name → p ≡ next_placement piece v
    → AddsBlock (block_of_piece piece) v old w new → blocks_on new v.name ps ≡ blocks_on old v.name ps → block_at new p ≡ block_of_piece piece → IsLaidOut old ps v → IsLaidOut new (ps ++ p ∷ []) w
laid_added old new ps v w piece p takes name place adds same last s =
    let b = block_of_piece piece in
    let before = blocks_on old v.name ps in
    let T : List ℕ → Type 0 = λ t. StandsOn v old s.label (s.earlier ++ before) t in
    let a = adds s.label (s.earlier ++ before) (subst T (s.stands.no_tail takes) s.stands) in
    let volume : p.volume ≡ v.name = ap (λ (x : Placement). x.volume) place in
    let own : placements_on v.name (ps ++ p ∷ []) ≡ placements_on v.name ps ++ p ∷ [] = placements_on-append v.name ps (p ∷ []) ∙ ap (λ l. placements_on v.name ps ++ l) (on_here v.name p volume) in
    let all : blocks_on new v.name (ps ++ p ∷ []) ≡ before ++ b ∷ [] =
    ap (map (block_at new)) own ∙ map-append (block_at new) (placements_on v.name ps) (p ∷ []) ∙ ap (λ l. l ++ block_at new p ∷ []) same ∙ ap (λ x. before ++ x ∷ []) last in
    let start : p.start ≡ volume_end s.label (s.earlier ++ before) = ap (λ (x : Placement). x.start) place ∙ s.stands.end_is in
    let size : p.length ≡ 24 + length b.body = ap (λ (x : Placement). x.length) place in
    let end : p.start + p.length ≡ volume_end s.label ((s.earlier ++ before) ++ b ∷ []) = (let m = volume_end-more s.label (s.earlier ++ before) b in omega arith) in
    let lie = lie_more s.label s.earlier (placements_on v.name ps) before p b s.lie start end in
    let P : List Block → Type 0 = λ bs. StandsOn w new s.label bs [] in
    let Q : List ℕ → Type 0 = λ n. StandsOn w new s.label (s.earlier ++ blocks_on new n (ps ++ p ∷ [])) [] in
    let R : List Block → Type 0 = λ bs. LieBehind s.label s.earlier (placements_on v.name ps ++ p ∷ []) bs in
    let S : List Placement → Type 0 = λ l. LieBehind s.label s.earlier l (blocks_on new v.name (ps ++ p ∷ [])) in
    let T' : List ℕ → Type 0 = λ n. LieBehind s.label s.earlier (placements_on n (ps ++ p ∷ [])) (blocks_on new n (ps ++ p ∷ [])) in
    record {
      label = s.label;
      earlier = s.earlier;
      tail = [];
      stands = subst Q (sym name) (subst P (append_assoc s.earlier before (b ∷ []) ∙ ap (λ l. s.earlier ++ l) (sym all)) a);
      lie = subst T' (sym name) (subst S (sym own) (subst R (sym all) lie));
    }

-- ---- all volumes of a drive

-- each keeps its bytes
pub all_laid_same : (old new : Shelf) (vs : List VolumeView) (ps : List Placement) → ((at : ℕ) (v : VolumeView) → slice_get vs at ≡ Some v → SameBytes old new v.name) → AreLaidOut old ps vs → AreLaidOut new ps vs
all_laid_same old new vs ps same laid = λ at v there. laid_same old new ps v (same at v there) (laid at v there)

-- they are those of other placements, on each volume the same
pub all_laid_by : (shelf : Shelf) (vs : List VolumeView) (ps qs : List Placement) → qs ≡ ps → AreLaidOut shelf ps vs → AreLaidOut shelf qs vs
all_laid_by shelf vs ps qs same = subst (λ l. AreLaidOut shelf l vs) (sym same)

-- one in the place of another of its name, while the others keep their bytes and placements
pub all_laid_set : (old new : Shelf) (vs : List VolumeView) (ps qs : List Placement) (at : ℕ) (v w : VolumeView) → NamesDiffer vs → slice_get vs at ≡ Some v
    → ((other : List ℕ) → other ≢ v.name → SameBytes old new other) → ((other : List ℕ) → other ≢ v.name → placements_on other qs ≡ placements_on other ps)
    → IsLaidOut new qs w → AreLaidOut old ps vs → AreLaidOut new qs (slice_set vs at w)
all_laid_set old new vs ps qs at v w differ there others apart_on here laid = λ place x is. elim (place_cases place at) [
  | inl same ↦ (
      let one : w ≡ x = some_is (sym (get_set_here vs at v w there) ∙ ap (slice_get (slice_set vs at w)) (sym same) ∙ is) in
      subst (IsLaidOut new qs) one here)
  | inr apart ↦ (
      let was = sym (get_set_other vs at place w apart) ∙ is in
      let name = other_name vs at place v x differ there was apart in
      laid_by new ps qs x (apart_on x.name name) (laid_same old new ps x (others x.name name) (laid place x was)))
]

-- one more, which has no placement
pub all_laid_more : (shelf : Shelf) (vs : List VolumeView) (ps : List Placement) (v : VolumeView) → IsLaidOut shelf ps v → AreLaidOut shelf ps vs → AreLaidOut shelf ps (vs ++ v ∷ [])
all_laid_more shelf vs ps v here laid = λ at w there. elim (get_more vs v at w there) [
  | inl front ↦ laid at w front
  | inr last ↦ subst (IsLaidOut shelf ps) (sym last.value) here
]
