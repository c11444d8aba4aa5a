-- Blocks one after the other on a volume: where they are parted, that their bytes tell them, and one block more.
use Rattle.std.proofs.Common.{◌≡◌, ℕ, suc, ◌+◌, ◌≤◌, List, [], ◌∷◌, ◌++◌, length, take, drop, refl, ap, ap₂, sym, ◌∙◌, subst, arith, add-zero}
use Rattle.std.proofs.lemmas.List.{append_assoc, append-nil, length-append, take_at, drop_at, take-append-drop}
use Rattle.sd_base.specs.declared.number.SessionKey.{SessionKey}
use Rattle.sd_block.specs.Image.{block_image, IsBlockImage, IsImage}
use Rattle.sd_block.proofs.ImageLemmas.{length-block_image, one_block, one_image}
use Rattle.sd_driver.specs.Shelf.{BeginsWith}
use Rattle.sd_label.specs.declared.label.VolumeLabel.{VolumeLabel}
use Rattle.sd_label.specs.Label.{IsVolumeLabel, volume_label_bytes}
use Rattle.sd_label.proofs.LabelLemmas.{length-volume_label_bytes, length-volume_label_bytes-le, volume_labels_apart}
use Rattle.sd_base.specs.Limits.{most_block}
use Rattle.sd_volume.specs.Image.{Block, images, AreImages, BeginsWithBlock, NoBlockNext, no_session, label_block, label_and_blocks, volume_end, VolumeImage, WholeImage}

-- One image.

-- an image is as long as its header and its body
pub length-image : (image : List ℕ) (key : SessionKey) (number : ℕ) (body : List ℕ) → IsBlockImage most_block image key number body
    → length image ≡ 24 + length body
length-image image key number body is = ap length is.image_is ∙ length-block_image key number body

-- an image by its own bytes
pub own_image : (image : List ℕ) (key : SessionKey) (number : ℕ) (body : List ℕ) → IsBlockImage most_block image key number body
    → IsBlockImage most_block (block_image key number body) key number body
own_image image key number body is = record { image_is = refl; fits = is.fits; least = is.least; most = is.most }

-- bytes that are an image and what comes after it begin with its block
pub begins_with_block : (bytes behind : List ℕ) (key : SessionKey) (number : ℕ) (body : List ℕ)
    → IsBlockImage most_block (block_image key number body) key number body → bytes ≡ block_image key number body ++ behind
    → BeginsWithBlock bytes key number body
begins_with_block bytes behind key number body is e = record {
  image_is = ap (take (24 + length body)) e ∙ take_at (block_image key number body) behind (24 + length body) (length-block_image key number body);
  fits = is.fits;
  least = is.least;
  most = is.most;
}

-- and the other way round
pub block_and_behind : (bytes : List ℕ) (key : SessionKey) (number : ℕ) (body : List ℕ) → BeginsWithBlock bytes key number body
    → bytes ≡ block_image key number body ++ drop (24 + length body) bytes
block_and_behind bytes key number body is =
    sym (take-append-drop (24 + length body) bytes) ∙ ap (λ (l : List ℕ). l ++ drop (24 + length body) bytes) is.image_is

-- the label block is a block
pub label_image : (label : VolumeLabel) → IsVolumeLabel label → IsBlockImage most_block (label_block label) no_session 0 (volume_label_bytes label)
label_image label is =
    let least = length-volume_label_bytes label in
    let most = length-volume_label_bytes-le label is in
    record {
      image_is = refl;
      fits = record { time_fits = omega arith; id_fits = omega arith; number_fits = omega arith; size_fits = omega arith };
      least = omega arith;
      most = omega arith;
    }

pub length-label_block : (label : VolumeLabel) → length (label_block label) ≡ 24 + length (volume_label_bytes label)
length-label_block label = length-block_image no_session 0 (volume_label_bytes label)

pub label_block-least : (label : VolumeLabel) → 36 ≤ length (label_block label)
label_block-least label = omega (arith, length-label_block label, length-volume_label_bytes label)

-- the image of a block is some image
IsImage-of : (image : List ℕ) (key : SessionKey) (number : ℕ) (body : List ℕ) → IsBlockImage most_block image key number body → IsImage most_block image
IsImage-of image key number body is = record { key = key; number = number; body = body; block = is }

-- Blocks after blocks.

-- the number after one block and n more
pub suc_number : (number n : ℕ) → number + 1 + n ≡ number + suc n
suc_number number n = omega arith

pub images-append : (number : ℕ) (bs cs : List Block) → images number (bs ++ cs) ≡ images number bs ++ images (number + length bs) cs
images-append number [] cs = ap (λ n. images n cs) (sym (add-zero number))
images-append number (b ∷ bs) cs =
    ap (λ (rest : List ℕ). block_image b.key number b.body ++ rest)
    (images-append (number + 1) bs cs ∙ ap (λ n. images (number + 1) bs ++ images n cs) (suc_number number (length bs)))
    ∙ sym (append_assoc (block_image b.key number b.body) (images (number + 1) bs) (images (number + length (b ∷ bs)) cs))

pub AreImages-append : (number : ℕ) (bs cs : List Block) → AreImages number bs → AreImages (number + length bs) cs → AreImages number (bs ++ cs)
AreImages-append number [] cs front back = subst (λ n. AreImages n cs) (add-zero number) back
AreImages-append number (b ∷ bs) cs front back =
    (front.0, AreImages-append (number + 1) bs cs front.1 (subst (λ n. AreImages n cs) (sym (suc_number number (length bs))) back))

pub AreImages-behind : (number : ℕ) (bs cs : List Block) → AreImages number (bs ++ cs) → AreImages (number + length bs) cs
AreImages-behind number [] cs are = subst (λ n. AreImages n cs) (sym (add-zero number)) are
AreImages-behind number (b ∷ bs) cs are = subst (λ n. AreImages n cs) (suc_number number (length bs)) (AreImages-behind (number + 1) bs cs are.1)

-- Images at one place.

-- a block by its parts
block_of : SessionKey → List ℕ → Block
block_of key body = record { key = key; body = body }

-- two images at one place are of one block, with one number
pub record IsOneBlock (b c : Block) (n m : ℕ) (behind behind' : List ℕ) : Type 0 where
  pub block_is : b ≡ c
  pub number_is : n ≡ m
  pub behind_is : behind ≡ behind'

pub one_block_there : (b c : Block) (n m : ℕ) (behind behind' : List ℕ)
    → IsBlockImage most_block (block_image b.key n b.body) b.key n b.body
    → IsBlockImage most_block (block_image c.key m c.body) c.key m c.body
    → block_image b.key n b.body ++ behind ≡ block_image c.key m c.body ++ behind'
    → IsOneBlock b c n m behind behind'
unfolding block_of
one_block_there b c n m behind behind' is is' e =
    let same = one_image most_block most_block _ _ behind behind' (IsImage-of _ b.key n b.body is) (IsImage-of _ c.key m c.body is') e in
    let there : IsBlockImage most_block (block_image b.key n b.body) c.key m c.body = subst (λ image. IsBlockImage most_block image c.key m c.body) (sym same.0) is' in
    let parts = one_block most_block most_block (block_image b.key n b.body) b.key c.key n m b.body c.body is there in
    record {
      block_is = ap₂ block_of parts.0 parts.2;
      number_is = parts.1;
      behind_is = same.1;
    }

-- blocks with nothing next after them begin with those that are done, and what is left are the images of the others
pub record GoesOnWith (number : ℕ) (done all : List Block) (rest tail : List ℕ) : Type 0 where
  pub more : List Block
  pub all_are : all ≡ done ++ more
  pub rest_is : rest ≡ images (number + length done) more ++ tail

pub images_go_on : (number : ℕ) (done all : List Block) (rest tail : List ℕ) → AreImages number done → AreImages number all → NoBlockNext (number + length all) tail
    → images number done ++ rest ≡ images number all ++ tail → GoesOnWith number done all rest tail
images_go_on number [] all rest tail are are' none e = record {
  more = all;
  all_are = refl;
  rest_is = e ∙ ap (λ n. images n all ++ tail) (sym (add-zero number));
}
images_go_on number (d ∷ ds) [] rest tail are are' none e =
    let behind = images (number + 1) ds ++ rest in
    let flat : tail ≡ block_image d.key number d.body ++ behind = sym e ∙ append_assoc (block_image d.key number d.body) (images (number + 1) ds) rest in
    absurd (none d.key d.body (subst (λ n. BeginsWithBlock tail d.key n d.body) (sym (add-zero number)) (begins_with_block tail behind d.key number d.body are.0 flat)))
images_go_on number (d ∷ ds) (b ∷ bs) rest tail are are' none e =
    let flat = sym (append_assoc (block_image d.key number d.body) (images (number + 1) ds) rest) ∙ e ∙ append_assoc (block_image b.key number b.body) (images (number + 1) bs) tail in
    let first = one_block_there d b number number (images (number + 1) ds ++ rest) (images (number + 1) bs ++ tail) are.0 are'.0 flat in
    let none' = subst (λ n. NoBlockNext n tail) (sym (suc_number number (length bs))) none in
    let later = images_go_on (number + 1) ds bs rest tail are.1 are'.1 none' first.behind_is in
    record {
      more = later.more;
      all_are = ap₂ (λ (x : Block) (l : List Block). x ∷ l) (sym first.block_is) later.all_are;
      rest_is = later.rest_is ∙ ap (λ n. images n later.more ++ tail) (suc_number number (length ds));
    }

-- Volumes.

-- a label block at one place is of one label, and what comes after it is the same
pub one_label : (label other : VolumeLabel) (behind behind' : List ℕ) → IsVolumeLabel label → IsVolumeLabel other
    → label_block label ++ behind ≡ label_block other ++ behind' → (label ≡ other) × (behind ≡ behind')
one_label label other behind behind' is is' e =
    let image = label_image label is in
    let image' = label_image other is' in
    let same = one_image most_block most_block _ _ behind behind' (IsImage-of (label_block label) _ _ _ image) (IsImage-of (label_block other) _ _ _ image') e in
    let there : IsBlockImage most_block (label_block label) no_session 0 (volume_label_bytes other) = subst (λ i. IsBlockImage most_block i no_session 0 (volume_label_bytes other)) (sym same.0) image' in
    let parts = one_block most_block most_block (label_block label) no_session no_session 0 0 (volume_label_bytes label) (volume_label_bytes other) image there in
    (volume_labels_apart label other is is' parts.2, same.1)

-- the bytes as the label block and what comes after it
pub label_in_front : (bytes : List ℕ) (label : VolumeLabel) (blocks : List Block) (tail : List ℕ) → VolumeImage bytes label blocks tail
    → bytes ≡ label_block label ++ (images 1 blocks ++ tail)
label_in_front bytes label blocks tail is = is.bytes_are ∙ append_assoc (label_block label) (images 1 blocks) tail

-- a whole image of bytes goes on where another image of them stops
pub record GoesOnBehind (label other : VolumeLabel) (blocks all : List Block) (rest tail : List ℕ) : Type 0 where
  pub label_is : label ≡ other
  pub on : GoesOnWith 1 blocks all rest tail

pub goes_on_behind : (bytes : List ℕ) (label other : VolumeLabel) (blocks all : List Block) (rest tail : List ℕ) → VolumeImage bytes label blocks rest
    → WholeImage bytes other all tail → GoesOnBehind label other blocks all rest tail
goes_on_behind bytes label other blocks all rest tail is whole =
    let both = sym (label_in_front bytes label blocks rest is) ∙ label_in_front bytes other all tail whole.image in
    let one = one_label label other _ _ is.label_is whole.image.label_is both in
    record {
      label_is = one.0;
      on = images_go_on 1 blocks all rest tail is.blocks_are whole.image.blocks_are whole.ended one.1;
    }

pub whole_image_goes_on : (bytes : List ℕ) (label other : VolumeLabel) (blocks all : List Block) (rest tail : List ℕ) → VolumeImage bytes label blocks rest
    → WholeImage bytes other all tail → (label ≡ other) × ((more : List Block) × (all ≡ blocks ++ more))
whole_image_goes_on bytes label other blocks all rest tail is whole =
    let to = goes_on_behind bytes label other blocks all rest tail is whole in
    (to.label_is, (to.on.more, to.on.all_are))

-- nothing goes on after a whole image
nothing_more : (number : ℕ) (more : List Block) (rest tail : List ℕ) → NoBlockNext number rest → AreImages number more → rest ≡ images number more ++ tail → more ≡ []
nothing_more number [] rest tail none are e = refl
nothing_more number (b ∷ bs) rest tail none are e =
    absurd (none b.key b.body (begins_with_block rest (images (number + 1) bs ++ tail) b.key number b.body are.0 (e ∙ append_assoc (block_image b.key number b.body) (images (number + 1) bs) tail)))

pub one_whole_image : (bytes : List ℕ) (label other : VolumeLabel) (blocks others : List Block) (tail rest : List ℕ) → WholeImage bytes label blocks tail
    → WholeImage bytes other others rest → (label ≡ other) × (blocks ≡ others) × (tail ≡ rest)
one_whole_image bytes label other blocks others tail rest is is' =
    let to = goes_on_behind bytes label other blocks others tail rest is.image is' in
    let on = to.on in
    let are : AreImages (1 + length blocks) on.more = AreImages-behind 1 blocks on.more (subst (AreImages 1) on.all_are is'.image.blocks_are) in
    let none : on.more ≡ [] = nothing_more (1 + length blocks) on.more tail rest is.ended are on.rest_is in
    let tail_is : tail ≡ rest = on.rest_is ∙ ap (λ l. images (1 + length blocks) l ++ rest) none in
    let blocks_are : blocks ≡ others = sym (on.all_are ∙ ap (λ l. blocks ++ l) none ∙ append-nil blocks) in
    (to.label_is, blocks_are, tail_is)

pub bytes_before : (bytes : List ℕ) (label : VolumeLabel) (blocks : List Block) (tail : List ℕ) → VolumeImage bytes label blocks tail
    → take (volume_end label blocks) bytes ≡ label_and_blocks label blocks
bytes_before bytes label blocks tail is =
    ap (take (volume_end label blocks)) is.bytes_are ∙ take_at (label_and_blocks label blocks) tail (volume_end label blocks) refl

pub kept_blocks_stand : (bytes left : List ℕ) (label : VolumeLabel) (blocks : List Block) (tail : List ℕ) → VolumeImage bytes label blocks tail
    → BeginsWith left (take (volume_end label blocks) bytes) → VolumeImage left label blocks (drop (volume_end label blocks) left)
kept_blocks_stand bytes left label blocks tail is kept =
    let same = bytes_before bytes label blocks tail is in
    let front : take (volume_end label blocks) left ≡ label_and_blocks label blocks = rw same at kept in
    record {
      label_is = is.label_is;
      blocks_are = is.blocks_are;
      bytes_are = sym (take-append-drop (volume_end label blocks) left) ∙ ap (λ (l : List ℕ). l ++ drop (volume_end label blocks) left) front;
    }

-- the blocks and one more
pub with_one_more : (label : VolumeLabel) (blocks : List Block) (block : Block)
    → label_and_blocks label (blocks ++ block ∷ []) ≡ label_and_blocks label blocks ++ block_image block.key (1 + length blocks) block.body
with_one_more label blocks block =
    ap (λ l. label_block label ++ l) (images-append 1 blocks (block ∷ []) ∙ ap (λ (l : List ℕ). images 1 blocks ++ l) (append-nil (block_image block.key (1 + length blocks) block.body)))
    ∙ sym (append_assoc (label_block label) (images 1 blocks) (block_image block.key (1 + length blocks) block.body))

pub are_one_more : (blocks : List Block) (block : Block) → AreImages 1 blocks
    → IsBlockImage most_block (block_image block.key (1 + length blocks) block.body) block.key (1 + length blocks) block.body
    → AreImages 1 (blocks ++ block ∷ [])
are_one_more blocks block are is = AreImages-append 1 blocks (block ∷ []) are (is, tt)

pub one_block_more : (bytes : List ℕ) (label : VolumeLabel) (blocks : List Block) (tail : List ℕ) (block : Block) → VolumeImage bytes label blocks tail
    → BeginsWithBlock tail block.key (1 + length blocks) block.body
    → VolumeImage bytes label (blocks ++ block ∷ []) (drop (24 + length block.body) tail)
one_block_more bytes label blocks tail block is next =
    let image = block_image block.key (1 + length blocks) block.body in
    let behind = drop (24 + length block.body) tail in
    record {
      label_is = is.label_is;
      blocks_are = are_one_more blocks block is.blocks_are (own_image _ block.key (1 + length blocks) block.body next);
      bytes_are =
          is.bytes_are ∙ ap (λ (l : List ℕ). label_and_blocks label blocks ++ l) (block_and_behind tail block.key (1 + length blocks) block.body next)
          ∙ sym (append_assoc (label_and_blocks label blocks) image behind)
          ∙ ap (λ (l : List ℕ). l ++ behind) (sym (with_one_more label blocks block));
    }

pub volume_end-more : (label : VolumeLabel) (blocks : List Block) (block : Block) → volume_end label (blocks ++ block ∷ []) ≡ volume_end label blocks + (24 + length block.body)
volume_end-more label blocks block =
    ap length (with_one_more label blocks block) ∙ length-append (label_and_blocks label blocks) (block_image block.key (1 + length blocks) block.body)
    ∙ ap (λ n. volume_end label blocks + n) (length-block_image block.key (1 + length blocks) block.body)

pub placed_block_stands : (bytes : List ℕ) (label : VolumeLabel) (before after : List Block) (block : Block) (tail : List ℕ) → VolumeImage bytes label (before ++ block ∷ after) tail
    → BeginsWithBlock (drop (volume_end label before) bytes) block.key (1 + length before) block.body
placed_block_stands bytes label before after block tail is =
    let image = block_image block.key (1 + length before) block.body in
    let later = images (1 + length before + 1) after in
    let are = AreImages-behind 1 before (block ∷ after) is.blocks_are in
    let parted : label_and_blocks label (before ++ block ∷ after) ≡ label_and_blocks label before ++ (image ++ later) =
    ap (λ l. label_block label ++ l) (images-append 1 before (block ∷ after)) ∙ sym (append_assoc (label_block label) (images 1 before) (image ++ later)) in
    let whole : bytes ≡ label_and_blocks label before ++ ((image ++ later) ++ tail) =
    is.bytes_are ∙ ap (λ (l : List ℕ). l ++ tail) parted ∙ append_assoc (label_and_blocks label before) (image ++ later) tail in
    let there : drop (volume_end label before) bytes ≡ image ++ (later ++ tail) =
    ap (drop (volume_end label before)) whole ∙ drop_at (label_and_blocks label before) _ (volume_end label before) refl ∙ append_assoc image later tail in
    begins_with_block _ (later ++ tail) block.key (1 + length before) block.body are.0 there
