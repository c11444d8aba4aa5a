-- Blocks that lie one after another, with one more.
use Rattle.std.proofs.Common.{◌≡◌, ℕ, ◌+◌, ◌≤◌, List, [], ◌∷◌, ◌++◌, length, take, drop, refl, sym, ap, ap₂, subst, ◌∙◌, arith}
use Rattle.std.specs.Prelude.{IfOk, Result, Ok, Err}
use Rattle.std.proofs.lemmas.List.{append_assoc, append-nil, drop-drop, length-append, length-drop, take-append-drop}
use Rattle.sd_base.specs.Limits.{most_block}
use Rattle.sd_block.proofs.ImageLemmas.{body_of_image, length-block_image}
use Rattle.sd_block.specs.Image.{block_image, IsBlockImage}
use Rattle.sd_block.specs.declared.head.Head.{Head}
use Rattle.sd_driver.specs.Shelf.{BeginsWith}
use Rattle.sd_scan.specs.Found.{Found}
use Rattle.sd_scan.specs.Sessions.{Keeps}
use Rattle.sd_scan.specs.declared.sessions.Sessions.{Sessions}
use Rattle.sd_label.specs.Label.{IsVolumeLabel}
use Rattle.sd_label.specs.declared.label.VolumeLabel.{VolumeLabel}
use Rattle.sd_volume.proofs.ImageLemmas.{AreImages-append, block_and_behind, images-append, length-image, own_image}
use Rattle.sd_volume.specs.Image.{BeginsWithBlock, Block, NoBlockNext, VolumeImage, WholeImage, images, label_block, volume_end}
use Rattle.sd_volume.specs.Reader.{IsBlockOf}
use Rattle.sd_scan.specs.Run.{RunTo, StandUpTo, found_from}
use Rattle.sd_scan.specs.Volume.{FindsImage}

-- none yet
pub stand_none : (bytes : List ℕ) (start number : ℕ) → StandUpTo bytes start number start number []
stand_none bytes start number = record { blocks_are = tt; bytes_are = refl; end_is = omega arith; next_is = omega arith }

-- how long the images of blocks are, with one more
images_more : (number : ℕ) (bs : List Block) (b : Block) → length (images number (bs ++ b ∷ [])) ≡ length (images number bs) + (24 + length b.body)
images_more number bs b =
    let n = number + length bs in
    ap length (images-append number bs (b ∷ [])) ∙ length-append (images number bs) (block_image b.key n b.body ++ [])
    ∙ ap (λ k. length (images number bs) + k) (ap length (append-nil (block_image b.key n b.body)) ∙ length-block_image b.key n b.body)

pub found_more : (volume : List ℕ) (start number : ℕ) (bs : List Block) (b : Block)
    → found_from volume start (bs ++ b ∷ []) ≡ found_from volume start bs ++ record { volume = volume; start = start + length (images number bs); block = b } ∷ []
found_more volume start number [] b = ap (λ (n : ℕ). record { volume = volume; start = n; block = b } ∷ []) (omega arith)
found_more volume start number (c ∷ bs) b =
    let next = start + (24 + length c.body) in
    let own = length-block_image c.key number c.body in
    let long = length-append (block_image c.key number c.body) (images (number + 1) bs) in
    let here : Found = record { volume = volume; start = start; block = c } in
    let place : next + length (images (number + 1) bs) ≡ start + length (block_image c.key number c.body ++ images (number + 1) bs) = omega (arith, own, long) in
    ap (λ (l : List Found). here ∷ l) (found_more volume next (number + 1) bs b
    ∙ ap (λ (n : ℕ). found_from volume next bs ++ record { volume = volume; start = n; block = b } ∷ []) place)

-- one more
pub stand_more : (bytes : List ℕ) (start number end next : ℕ) (blocks : List Block) (b : Block) (size : ℕ) → StandUpTo bytes start number end next blocks
    → BeginsWithBlock (drop end bytes) b.key next b.body → size ≡ 24 + length b.body
    → StandUpTo bytes start number (end + size) (next + 1) (blocks ++ b ∷ [])
stand_more bytes start number end next blocks b size stand begins size_is =
    let n = number + length blocks in
    let there : BeginsWithBlock (drop end bytes) b.key n b.body = subst (λ m. BeginsWithBlock (drop end bytes) b.key m b.body) stand.next_is begins in
    let split : drop end bytes ≡ block_image b.key n b.body ++ drop (24 + length b.body) (drop end bytes) = block_and_behind (drop end bytes) b.key n b.body there in
    let behind : drop (24 + length b.body) (drop end bytes) ≡ drop (end + size) bytes = drop-drop (24 + length b.body) end bytes ∙ ap (λ m. drop (end + m) bytes) (sym size_is) in
    let one : images n (b ∷ []) ≡ block_image b.key n b.body = append-nil (block_image b.key n b.body) in
    record {
      blocks_are = AreImages-append number blocks (b ∷ []) stand.blocks_are (own_image _ b.key n b.body there, tt);
      bytes_are = stand.bytes_are
          ∙ ap (λ (l : List ℕ). images number blocks ++ l) (split ∙ ap₂ (λ (x y : List ℕ). x ++ y) (sym one) behind)
          ∙ sym (append_assoc (images number blocks) (images n (b ∷ [])) (drop (end + size) bytes))
          ∙ ap (λ (l : List ℕ). l ++ drop (end + size) bytes) (sym (images-append number blocks (b ∷ [])));
      end_is = omega (arith, stand.end_is, images_more number blocks b, size_is);
      next_is = omega (arith, stand.next_is, length-append blocks (b ∷ []));
    }

-- the size of a block that was read is that of its header and its body
pub size_of_block : (bytes : List ℕ) (head : Head) → IsBlockOf bytes head → head.size ≡ 24 + length (drop 24 bytes)
size_of_block bytes head is =
    let long = length-image bytes head.key head.number is.body is.image in
    omega (arith, is.size_is, long, length-drop 24 bytes)

-- it has a header's bytes at least
pub block_long : (bytes : List ℕ) (head : Head) → IsBlockOf bytes head → 24 ≤ length bytes
block_long bytes head is = omega (arith, length-image bytes head.key head.number is.body is.image)

-- what was shown of the volume, and is a block, begins what is there
pub shown_begins : (bytes shown : List ℕ) (head : Head) → shown ≡ take head.size bytes → IsBlockOf shown head → BeginsWithBlock bytes head.key head.number (drop 24 shown)
shown_begins bytes shown head shown_is is =
    let long : head.size ≡ 24 + length is.body = is.size_is ∙ length-image shown head.key head.number is.body is.image in
    let body : drop 24 shown ≡ is.body = body_of_image most_block shown head.key head.number is.body is.image in
    subst (λ (l : List ℕ). IsBlockImage most_block (take (24 + length l) bytes) head.key head.number l) (sym body)
    (subst (λ (image : List ℕ). IsBlockImage most_block image head.key head.number is.body) (shown_is ∙ ap (λ n. take n bytes) long) is.image)

-- Sessions that took more blocks.

pub keeps_none : (s : Sessions) (found : List Found) → Keeps found s → Keeps (found ++ []) s
keeps_none s found keeps = subst (λ (l : List Found). Keeps l s) (sym (append-nil found)) keeps

pub keeps_more : (found more : List Found) (f : Found) (s : Sessions) → Keeps ((found ++ more) ++ f ∷ []) s → Keeps (found ++ (more ++ f ∷ [])) s
keeps_more found more f s keeps = subst (λ (l : List Found). Keeps l s) (append_assoc found more (f ∷ [])) keeps

-- The image of a volume is its label block and the run after it.
pub run_image : (bytes : List ℕ) (label : VolumeLabel) (blocks : List Block) (end : ℕ) → IsVolumeLabel label → BeginsWith bytes (label_block label)
    → RunTo bytes (length (label_block label)) 1 blocks end → WholeImage bytes label blocks (drop end bytes) × (end ≡ volume_end label blocks)
run_image bytes label blocks end is begins (next, stand, ended) =
    let first = length (label_block label) in
    let whole : bytes ≡ label_block label ++ drop first bytes = sym (take-append-drop first bytes) ∙ ap (λ (l : List ℕ). l ++ drop first bytes) begins in
    let image : VolumeImage bytes label blocks (drop end bytes) = record {
      label_is = is;
      blocks_are = stand.blocks_are;
      bytes_are = whole ∙ ap (λ (l : List ℕ). label_block label ++ l) stand.bytes_are ∙ sym (append_assoc (label_block label) (images 1 blocks) (drop end bytes));
    } in (
      record { image = image; ended = subst (λ n. NoBlockNext n (drop end bytes)) stand.next_is ended },
      stand.end_is ∙ sym (length-append (label_block label) (images 1 blocks)),
    )

pub finds_image : (name bytes : List ℕ) (label : VolumeLabel) (first end : ℕ) (more : List Found) (blocks : List Block) → IsVolumeLabel label → label.name ≡ name
    → first ≡ length (label_block label) → BeginsWith bytes (label_block label) → more ≡ found_from name first blocks → RunTo bytes first 1 blocks end → FindsImage name bytes more end
finds_image name bytes label first end more blocks is named first_is begins more_is run =
    let image = run_image bytes label blocks end is begins (subst (λ n. RunTo bytes n 1 blocks end) first_is run) in
    record {
      label = label;
      blocks = blocks;
      tail = drop end bytes;
      labelled = record { label_is = is; name_is = named; begins = begins };
      whole = image.0;
      found_is = more_is ∙ ap (λ n. found_from name n blocks) first_is;
      end_is = image.1;
    }

pub if_ok : {X E : Type 0} (answer : Result X E) (P Q : X → Type 0) → ((x : X) → P x → Q x) → IfOk answer P → IfOk answer Q
if_ok (Ok x) P Q f p = f x p
if_ok (Err e) P Q f p = tt
