-- What the spans of stretches hold on a shelf where the volumes are laid out.
use Rattle.std.proofs.Common.{◌≡◌, ◌≢◌, ℕ, ◌+◌, ◌<◌, ◌≤◌, Bool, true, false, List, [], ◌∷◌, ◌++◌, length, map, refl, ap, sym, subst, Some, ◌∙◌, arith, length-append, slice_get}
use Rattle.std.proofs.lemmas.List.{append_assoc, append-nil, map-append}
use Rattle.std.specs.List.{AllByRecursion}
use Rattle.std.specs.Str.{bytes_eq}
use Rattle.std.proofs.lemmas.Slice.Eq.{bytes_eq-Decides}
use Rattle.sd_block.specs.Image.{block_image}
use Rattle.sd_driver.specs.Shelf.{Shelf}
use Rattle.sd_drive.specs.Shelf.{block_at, placements_on, LieBehind, IsLaidOut, AreLaidOut, LiesOn}
use Rattle.sd_drive.proofs.LaidLemmas.{off_front}
use Rattle.sd_journal.specs.Journal.{Entry, live}
use Rattle.sd_label.specs.declared.label.VolumeLabel.{VolumeLabel}
use Rattle.sd_readback.specs.Reading.{bytes_of, volumes_on, AreNumbered, SpanHolds, AllHold}
use Rattle.sd_span.specs.Spans.{numbered_from}
use Rattle.sd_span.specs.declared.placement.Placement.{Placement}
use Rattle.sd_span.specs.declared.span.Span.{Span}
use Rattle.sd_volume.specs.Image.{Block, images, AreImages, label_block, label_and_blocks, volume_end, VolumeImage}
use Rattle.sd_volume.specs.Volume.{VolumeView, StandsOn}
use Rattle.sd_volume.proofs.ImageLemmas.{images-append, AreImages-behind, length-image}
use Rattle.sd_world.proofs.ReachLemmas.{Reaches, AllReach}

-- ---- a volume's blocks

pub AreImages-front : (number : ℕ) (bs cs : List Block) → AreImages number (bs ++ cs) → AreImages number bs
AreImages-front number [] cs are = tt
AreImages-front number (b ∷ bs) cs are = (are.0, AreImages-front (number + 1) bs cs are.1)

-- the label block and blocks, and blocks after them
pub blocks_behind : (label : VolumeLabel) (bs cs : List Block) → label_and_blocks label (bs ++ cs) ≡ label_and_blocks label bs ++ images (1 + length bs) cs
blocks_behind label bs cs = ap (λ (l : List ℕ). label_block label ++ l) (images-append 1 bs cs) ∙ sym (append_assoc (label_block label) (images 1 bs) (images (1 + length bs) cs))

-- blocks in the midst of a volume
pub blocks_amid : (label : VolumeLabel) (bs cs ds : List Block) (tail : List ℕ)
    → label_and_blocks label (bs ++ (cs ++ ds)) ++ tail ≡ label_and_blocks label bs ++ (images (1 + length bs) cs ++ (images (1 + length bs + length cs) ds ++ tail))
blocks_amid label bs cs ds tail =
    let n = 1 + length bs in
    let front = label_and_blocks label bs in
    let mid = images n cs in
    let back = images (n + length cs) ds in
    ap (λ (l : List ℕ). l ++ tail) (blocks_behind label bs (cs ++ ds) ∙ ap (λ (l : List ℕ). front ++ l) (images-append n cs ds))
    ∙ append_assoc front (mid ++ back) tail ∙ ap (λ (l : List ℕ). front ++ l) (append_assoc mid back tail)

-- ---- where placements lie

-- a placement lies where its block does
pub record LiesThere (label : VolumeLabel) (p : Placement) (before : List Block) (block : Block) : Type 0 where
  pub start_is : p.start ≡ volume_end label before
  pub end_is : p.start + p.length ≡ volume_end label (before ++ block ∷ [])

pub lies_there : (f : Placement → Block) (label : VolumeLabel) (earlier : List Block) (ps : List Placement) (p : Placement) (qs : List Placement)
    → LieBehind label earlier (ps ++ p ∷ qs) (map f (ps ++ p ∷ qs)) → LiesThere label p (earlier ++ map f ps) (f p)
lies_there f label earlier [] p qs lie =
    let P : List Block → Type 0 = λ bs. LiesThere label p bs (f p) in
    subst P (sym (append-nil earlier)) (record { start_is = lie.0; end_is = lie.1 })
lies_there f label earlier (q ∷ ps) p qs lie =
    let P : List Block → Type 0 = λ bs. LiesThere label p bs (f p) in
    subst P (append_assoc earlier (f q ∷ []) (map f ps)) (lies_there f label (earlier ++ f q ∷ []) ps p qs lie.2)

-- a volume that is laid out, with its placements parted
pub record LaidWith (shelf : Shelf) (v : VolumeView) (ps : List Placement) : Type 0 where
  pub label : VolumeLabel
  pub earlier : List Block
  pub tail : List ℕ
  pub stands : StandsOn v shelf label (earlier ++ map (block_at shelf) ps) tail
  pub lie : LieBehind label earlier ps (map (block_at shelf) ps)

pub laid_with : (shelf : Shelf) (all : List Placement) (v : VolumeView) (ps : List Placement) → placements_on v.name all ≡ ps → IsLaidOut shelf all v → LaidWith shelf v ps
laid_with shelf all v ps is laid =
    let P : List Placement → Type 0 = λ l. LaidWith shelf v l in
    subst P is (record { label = laid.label; earlier = laid.earlier; tail = laid.tail; stands = laid.stands; lie = laid.lie })

-- ---- spans

images_some : (number : ℕ) (bs cs : List Block) (b : Block) → bs ≡ b ∷ cs → AreImages number bs → 24 ≤ length (images number bs)
images_some number bs cs b is are =
    let P : List Block → Type 0 = λ l. AreImages number l → 24 ≤ length (images number l) in
    subst P (sym is) (λ (a : AreImages number (b ∷ cs)). (let long = length-image _ b.key number b.body a.0 in omega (arith, long, ap length (refl {a = images number (b ∷ cs)}), length-append (block_image b.key number b.body) (images (number + 1) cs)))) are

-- what a stretch holds, and that it isn't empty
pub record HoldsSome (shelf : Shelf) (s : Span) (own : List Placement) : Type 0 where
  pub holds : SpanHolds (volumes_on shelf) s (map (block_at shelf) own)
  pub some : s.start < s.end

pub reach_holds : (shelf : Shelf) (all : List Placement) (v : VolumeView) (s : Span) (before own : List Placement) → IsLaidOut shelf all v → v.name ≡ s.volume → Reaches all s before own → HoldsSome shelf s own
reach_holds shelf all v s before own laid name r =
    let f = block_at shelf in
    let w = laid_with shelf all v (before ++ (own ++ r.after)) (ap (λ n. placements_on n all) name ∙ r.parted) laid in
    let bs = w.earlier ++ map f before in
    let cs = map f own in
    let ds = map f r.after in
    let parts : w.earlier ++ map f (before ++ (own ++ r.after)) ≡ bs ++ (cs ++ ds) =
    ap (λ l. w.earlier ++ l) (map-append f before (own ++ r.after) ∙ ap (λ l. map f before ++ l) (map-append f own r.after)) ∙ sym (append_assoc w.earlier (map f before) (cs ++ ds)) in
    let P : List Block → Type 0 = λ l. VolumeImage w.stands.held.bytes w.label l w.tail in
    let image = subst P parts w.stands.image in
    let n = 1 + length bs in
    let are = AreImages-behind 1 bs (cs ++ ds) image.blocks_are in
    let are_own = AreImages-front n cs ds are in
    let Q : List Placement → Type 0 = λ l. LieBehind w.label w.earlier (before ++ l) (map f (before ++ l)) in
    let first = lies_there f w.label w.earlier before r.first (r.behind ++ r.after) (subst Q (ap (λ l. l ++ r.after) r.from) w.lie) in
    let R : List Placement → Type 0 = λ l. LieBehind w.label w.earlier l (map f l) in
    let regroup : before ++ (own ++ r.after) ≡ (before ++ r.front) ++ (r.last ∷ r.after) =
    ap (λ l. before ++ (l ++ r.after)) r.to ∙ ap (λ l. before ++ l) (append_assoc r.front (r.last ∷ []) r.after) ∙ sym (append_assoc before r.front (r.last ∷ r.after)) in
    let last = lies_there f w.label w.earlier (before ++ r.front) r.last r.after (subst R regroup w.lie) in
    let whole : (w.earlier ++ map f (before ++ r.front)) ++ f r.last ∷ [] ≡ bs ++ cs =
    ap (λ l. (w.earlier ++ l) ++ f r.last ∷ []) (map-append f before r.front) ∙ append_assoc w.earlier (map f before ++ map f r.front) (f r.last ∷ [])
    ∙ ap (λ l. w.earlier ++ l) (append_assoc (map f before) (map f r.front) (f r.last ∷ []) ∙ ap (λ l. map f before ++ l) (sym (ap (map f) r.to ∙ map-append f r.front (r.last ∷ []))))
    ∙ sym (append_assoc w.earlier (map f before) cs) in
    let start : s.start ≡ volume_end w.label bs = r.start_is ∙ first.start_is in
    let end : s.end ≡ volume_end w.label (bs ++ cs) = r.end_is ∙ last.end_is ∙ ap (volume_end w.label) whole in
    let long : volume_end w.label (bs ++ cs) ≡ volume_end w.label bs + length (images n cs) = ap length (blocks_behind w.label bs cs) ∙ length-append (label_and_blocks w.label bs) (images n cs) in
    let some = images_some n cs (map f r.behind) (f r.first) (ap (map f) r.from) are_own in
    record {
      holds = record {
        bytes = w.stands.held.bytes;
        number = n;
        there = ap bytes_of (ap shelf.volume (sym name) ∙ w.stands.there);
        part_is = record {
          front = label_and_blocks w.label bs;
          back = images (n + length cs) ds ++ w.tail;
          bytes_are = image.bytes_are ∙ blocks_amid w.label bs cs ds w.tail;
          start_is = sym start;
          end_is = omega arith;
        };
        blocks_are = are_own;
      };
      some = omega arith;
    }

-- ---- volumes of placements

-- one of the volumes has the name
pub record HasVolume (volumes : List VolumeView) (name : List ℕ) : Type 0 where
  pub at : ℕ
  pub volume : VolumeView
  pub there : slice_get volumes at ≡ Some volume
  pub name_is : volume.name ≡ name

pub has_volume : (volumes : List VolumeView) (journal : List Entry) (name : List ℕ) → AllByRecursion (LiesOn volumes) journal → placements_on name (live journal) ≢ [] → HasVolume volumes name
has_volume volumes [] name lie some = absurd (some refl)
has_volume volumes (e ∷ es) name lie some = from (bytes_eq e.placement.volume name) refl (has_volume volumes es name lie.1)
  where
    from : (b : Bool) → bytes_eq e.placement.volume name ≡ b → (placements_on name (live es) ≢ [] → HasVolume volumes name) → HasVolume volumes name
    from true is rest = record { at = lie.0.at; volume = lie.0.volume; there = lie.0.there; name_is = sym lie.0.name_is ∙ (bytes_eq-Decides e.placement.volume name).0 is }
    from false is rest = rest (λ none. some (off_front name e es (λ on. (let t = (bytes_eq-Decides e.placement.volume name).1 on in absurd cc)) ∙ none))

pub not_none : (xs ys zs : List Placement) (x : Placement) → ys ≡ x ∷ zs → xs ++ ys ≡ [] → ⊥
not_none [] ys zs x is none = cc
not_none (y ∷ xs) ys zs x is none = cc

-- each span holds the blocks at what its stretch reaches over
pub record AllHoldFrom (shelf : Shelf) (index : ℕ) (ss : List Span) (owns : List (List Placement)) : Type 0 where
  pub hold : AllHold (volumes_on shelf) (numbered_from index ss) (map (map (block_at shelf)) owns)
  pub numbered : AreNumbered index (numbered_from index ss)

pub all_hold : (shelf : Shelf) (volumes : List VolumeView) (journal : List Entry) (index : ℕ) (ss : List Span) (owns : List (List Placement)) → AllByRecursion (LiesOn volumes) journal
    → AreLaidOut shelf (live journal) volumes → AllReach (live journal) ss owns → AllHoldFrom shelf index ss owns
all_hold shelf volumes journal index [] [] lie laid r = record { hold = tt; numbered = tt }
all_hold shelf volumes journal index [] (own ∷ owns) lie laid r = absurd r
all_hold shelf volumes journal index (s ∷ ss) [] lie laid r = absurd r
all_hold shelf volumes journal index (s ∷ ss) (own ∷ owns) lie laid r =
    let before = r.0.0 in
    let reach = r.0.1 in
    let some : placements_on s.volume (live journal) ≢ [] =
    λ none. not_none before (own ++ reach.after) (reach.behind ++ reach.after) reach.first (ap (λ l. l ++ reach.after) reach.from) (sym reach.parted ∙ none) in
    let v = has_volume volumes journal s.volume lie some in
    let h = reach_holds shelf (live journal) v.volume s before own (laid v.at v.volume v.there) v.name_is reach in
    let part = h.holds.part_is in
    let rest = all_hold shelf volumes journal (index + 1) ss owns lie laid r.1 in
    record {
      hold = (
        record {
          bytes = h.holds.bytes;
          number = h.holds.number;
          there = h.holds.there;
          part_is = record {
            front = part.front;
            back = part.back;
            bytes_are = part.bytes_are;
            start_is = part.start_is;
            end_is = part.end_is;
          };
          blocks_are = h.holds.blocks_are;
        },
        rest.hold,
      );
      numbered = (refl, h.some, rest.numbered);
    }
