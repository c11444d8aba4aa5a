-- The blocks of a volume that is laid out, found one after another.
use Rattle.std.proofs.Common.{◌≡◌, if◌then◌else◌, inl, inr, ℕ, ◌+◌, Bool, true, false, List, [], ◌∷◌, ◌++◌, length, map, refl, sym, ap, ap₂, subst, subst₂, ◌∙◌, arith, Some}
use Rattle.std.proofs.lemmas.List.{append_assoc, append-nil, length-append, take_at}
use Rattle.std.specs.Str.{bytes_eq}
use Rattle.std.proofs.lemmas.Slice.Eq.{bytes_eq-Decides}
use Rattle.sd_base.specs.Limits.{block_header}
use Rattle.sd_block.specs.Image.{block_image}
use Rattle.sd_block.proofs.ImageLemmas.{length-block_image}
use Rattle.sd_drive.specs.Shelf.{IsLaidOut, LieBehind, block_at, blocks_on, placements_on}
use Rattle.sd_drive.proofs.Places.{some_is}
use Rattle.sd_driver.specs.Shelf.{BeginsWith, Shelf}
use Rattle.sd_scan.specs.Found.{Found, blocks_in}
use Rattle.sd_label.specs.declared.label.VolumeLabel.{VolumeLabel}
use Rattle.sd_readback.specs.Reading.{bytes_of, volumes_on}
use Rattle.sd_scan.specs.Run.{found_from}
use Rattle.sd_scan.specs.Volume.{FindsImage, FindsOn}
use Rattle.sd_theorem.specs.Placed.{FindsPlaced, LieAt, LiesAt, PlacedBlocksAreFound}
use Rattle.sd_span.specs.declared.placement.Placement.{Placement}
use Rattle.sd_volume.specs.Adopt.{IsLabelled}
use Rattle.sd_volume.specs.Image.{AreImages, Block, VolumeImage, images, label_block, volume_end}
use Rattle.sd_volume.specs.Volume.{VolumeView}
use Rattle.sd_volume.proofs.ImageLemmas.{AreImages-behind, goes_on_behind, label_in_front, volume_end-more}

-- ---- blocks one after another

-- with no block it ends where its label block does
end_of_none : (label : VolumeLabel) → volume_end label [] ≡ length (label_block label)
end_of_none label = ap length (append-nil (label_block label))

-- what is found of blocks, and of others after them
found_behind : (name : List ℕ) (label : VolumeLabel) (before bs cs : List Block)
    → found_from name (volume_end label before) (bs ++ cs) ≡ found_from name (volume_end label before) bs ++ found_from name (volume_end label (before ++ bs)) cs
found_behind name label before [] cs = ap (λ (l : List Block). found_from name (volume_end label l) cs) (sym (append-nil before))
found_behind name label before (b ∷ bs) cs =
    let more = volume_end-more label before b in
    let one : Found = record { volume = name; start = volume_end label before; block = b } in
    let rest : found_from name (volume_end label (before ++ b ∷ [])) (bs ++ cs)
    ≡ found_from name (volume_end label (before ++ b ∷ [])) bs ++ found_from name (volume_end label ((before ++ b ∷ []) ++ bs)) cs =
    found_behind name label (before ++ b ∷ []) bs cs in
    ap (λ (l : List Found). one ∷ l)
    (ap (λ n. found_from name n (bs ++ cs)) (sym more) ∙ rest
    ∙ ap₂ (λ (x y : List Found). x ++ y) (ap (λ n. found_from name n bs) more)
    (ap (λ (l : List Block). found_from name (volume_end label l) cs) (append_assoc before (b ∷ []) bs)))

-- the blocks of what is found are those
blocks_found : (name : List ℕ) (start : ℕ) (bs : List Block) → blocks_in (found_from name start bs) ≡ bs
blocks_found name start [] = refl
blocks_found name start (b ∷ bs) = ap (λ (l : List Block). b ∷ l) (blocks_found name (start + (block_header + length b.body)) bs)

-- ---- placements

-- they are all on that volume
abbrev pub AllOn : List ℕ → List Placement → Type 0
AllOn name [] = Unit {0}
AllOn name (p ∷ ps) = (p.volume ≡ name) × AllOn name ps

pub all_on : (name : List ℕ) (ps : List Placement) → AllOn name (placements_on name ps)
all_on name [] = tt
all_on name (p ∷ ps) = from (bytes_eq p.volume name) refl (all_on name ps)
  where
    from : (b : Bool) → bytes_eq p.volume name ≡ b → AllOn name (placements_on name ps) → AllOn name (if b then p ∷ placements_on name ps else placements_on name ps)
    from true h on = ((bytes_eq-Decides p.volume name).0 h, on)
    from false h on = on

-- blocks that lie after others are found where their placements say
lie_found : (shelf : Shelf) (name : List ℕ) (label : VolumeLabel) (earlier : List Block) (ps : List Placement) → AllOn name ps
    → LieBehind label earlier ps (map (block_at shelf) ps) → LieAt (found_from name (volume_end label earlier) (map (block_at shelf) ps)) ps
lie_found shelf name label earlier [] on lie = tt
lie_found shelf name label earlier (p ∷ ps) on lie =
    let b : Block = block_at shelf p in
    let more : volume_end label (earlier ++ b ∷ []) ≡ volume_end label earlier + (24 + length b.body) = volume_end-more label earlier b in
    let one : LiesAt (record { volume = name; start = volume_end label earlier; block = b }) p =
    record { key_is = refl; volume_is = on.0; start_is = lie.0; length_is = omega (arith, lie.0, lie.1, more) } in
    (one, subst (λ n. LieAt (found_from name n (map (block_at shelf) ps)) ps) more (lie_found shelf name label (earlier ++ b ∷ []) ps on.1 lie.2))

-- ---- a volume

-- no bytes have no images
no_images : (number : ℕ) (bs : List Block) (tail : List ℕ) → [] ≡ images number bs ++ tail → bs ≡ []
no_images number [] tail none = refl
no_images number (b ∷ bs) tail none =
    let image = block_image b.key number b.body in
    absurd
    (omega (arith, ap length none, length-append (image ++ images (number + 1) bs) tail, length-append image (images (number + 1) bs), length-block_image b.key number b.body))

-- a volume that has a label's image is labelled so
labelled : (name bytes : List ℕ) (label : VolumeLabel) (blocks : List Block) (tail : List ℕ) → VolumeImage bytes label blocks tail → name ≡ label.name
    → IsLabelled name bytes label
labelled name bytes label blocks tail image same = record {
  label_is = image.label_is;
  name_is = sym same;
  begins = subst (λ (l : List ℕ). BeginsWith l (label_block label)) (sym (label_in_front bytes label blocks tail image))
      (take_at (label_block label) (images 1 blocks ++ tail) (length (label_block label)) refl);
}

-- What is found on a volume, and where that was: what it had when it came to the drive, and what is whole in its tail.
pub record FindsLaid (shelf : Shelf) (ps : List Placement) (v : VolumeView) (found : List Found) (laid : IsLaidOut shelf ps v) : Type 0 where
  pub finds : FindsPlaced shelf ps v found
  pub earlier_are : blocks_in finds.earlier ≡ laid.earlier
  pub rest : List ℕ
  pub behind_are : AreImages v.next_number (blocks_in finds.behind)
  pub tail_is : laid.tail ≡ images v.next_number (blocks_in finds.behind) ++ rest

found_on_image : (shelf : Shelf) (ps : List Placement) (v : VolumeView) (bytes : List ℕ) (found : List Found) (end : ℕ) → (laid : IsLaidOut shelf ps v)
    → VolumeImage bytes laid.label (laid.earlier ++ blocks_on shelf v.name ps) laid.tail → FindsImage v.name bytes found end → FindsLaid shelf ps v found laid
found_on_image shelf ps v bytes found end laid image finds =
    let own : List Block = blocks_on shelf v.name ps in
    let before : List Block = laid.earlier ++ own in
    let to = goes_on_behind bytes laid.label finds.label before finds.blocks laid.tail finds.tail image finds.whole in
    let more = to.on.more in
    let front : ℕ = volume_end laid.label [] in
    let all_are : finds.blocks ≡ laid.earlier ++ (own ++ more) = to.on.all_are ∙ append_assoc laid.earlier own more in
    let starts : length (label_block finds.label) ≡ front = ap (λ l. length (label_block l)) (sym to.label_is) ∙ sym (end_of_none laid.label) in
    let first = found_behind v.name laid.label [] laid.earlier (own ++ more) in
    let second = found_behind v.name laid.label laid.earlier own more in
    let last : List Found = found_from v.name (volume_end laid.label before) more in
    let last_are : blocks_in last ≡ more = blocks_found v.name (volume_end laid.label before) more in
    let next : 1 + length before ≡ v.next_number = sym laid.stands.next_is in
    let are : AreImages (1 + length before) more = AreImages-behind 1 before more (subst (AreImages 1) to.on.all_are finds.whole.image.blocks_are) in
    record {
      finds = record {
        earlier = found_from v.name front laid.earlier;
        own = found_from v.name (volume_end laid.label laid.earlier) own;
        behind = last;
        found_is = finds.found_is ∙ ap₂ (λ n (l : List Block). found_from v.name n l) starts all_are ∙ first
            ∙ ap (λ (l : List Found). found_from v.name front laid.earlier ++ l) second;
        blocks_are = blocks_found v.name (volume_end laid.label laid.earlier) own;
        lie = lie_found shelf v.name laid.label laid.earlier (placements_on v.name ps) (all_on v.name ps) laid.lie;
        none_behind = λ append.
            (let none = no_images (1 + length before) more finds.tail (sym (laid.stands.no_tail append) ∙ to.on.rest_is) in
            ap (λ (l : List Block). found_from v.name (volume_end laid.label before) l) none);
      };
      earlier_are = blocks_found v.name front laid.earlier;
      rest = finds.tail;
      behind_are = subst₂ AreImages next (sym last_are) are;
      tail_is = to.on.rest_is ∙ ap₂ (λ n (l : List Block). images n l ++ finds.tail) next (sym last_are);
    }

-- so it is of whatever bytes are there
pub found_laid : (shelf : Shelf) (ps : List Placement) (v : VolumeView) (bytes : List ℕ) (found : List Found) (end : ℕ) → (laid : IsLaidOut shelf ps v)
    → volumes_on shelf v.name ≡ Some bytes → FindsOn v.name bytes found end → FindsLaid shelf ps v found laid
found_laid shelf ps v bytes found end laid there finds =
    let s = laid.stands in
    let same : s.held.bytes ≡ bytes = some_is (sym (ap bytes_of s.there) ∙ there) in
    from (subst (λ (b : List ℕ). VolumeImage b laid.label (laid.earlier ++ blocks_on shelf v.name ps) laid.tail) same s.image) finds
  where
    from : VolumeImage bytes laid.label (laid.earlier ++ blocks_on shelf v.name ps) laid.tail → FindsOn v.name bytes found end → FindsLaid shelf ps v found laid
    from image (inl finds) = found_on_image shelf ps v bytes found end laid image finds
    from image (inr none) = absurd (none.0 laid.label (labelled v.name bytes laid.label _ laid.tail image laid.stands.name_is))

pub placed_blocks_are_found : PlacedBlocksAreFound
placed_blocks_are_found shelf ps v held found end laid there finds = (found_laid shelf ps v held.bytes found end laid (ap bytes_of there) finds).finds
