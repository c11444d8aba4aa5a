-- The blocks of a volume one after another, and what an adoption finds.
use Rattle.std.proofs.Common.{◌≡◌, ℕ, ◌+◌, ◌<◌, ◌≤◌, List, [], ◌∷◌, ◌++◌, length, take, drop, refl, inr, ap, sym, ◌∙◌, subst, arith}
use Rattle.std.proofs.lemmas.List.{drop-drop, length-append, length-take, length-drop, take-append-drop}
use Rattle.std.proofs.lemmas.List.Elements.{All-push}
use Rattle.sd_base.specs.declared.number.SessionKey.{SessionKey}
use Rattle.sd_base.specs.Limits.{most_block}
use Rattle.sd_block.specs.Image.{block_image, IsBlockImage, IsImage}
use Rattle.sd_block.proofs.ImageLemmas.{one_block, one_image, body_of_image}
use Rattle.sd_block.specs.declared.head.Head.{Head}
use Rattle.sd_label.specs.declared.label.VolumeLabel.{VolumeLabel}
use Rattle.sd_label.specs.Label.{IsVolumeLabel, volume_label_bytes}
use Rattle.sd_volume.specs.Image.{Block, BeginsWithBlock, no_session, label_block, VolumeImage}
use Rattle.sd_volume.specs.Reader.{IsBlockOf}
use Rattle.sd_volume.specs.Adopt.{GoesUpTo, HasBlockOfThisRun, BlockStandsAt, IsLabelled}
use Rattle.sd_volume.proofs.ImageLemmas.{block_and_behind, own_image, IsOneBlock, one_block_there, one_block_more, volume_end-more, length-image, label_image, length-label_block}

-- at one place begins one block
pub one_block_at : (bytes : List ℕ) (key key' : SessionKey) (number number' : ℕ) (body body' : List ℕ) → BeginsWithBlock bytes key number body → BeginsWithBlock bytes key' number' body'
    → IsOneBlock (record { key = key; body = body }) (record { key = key'; body = body' }) number number' (drop (24 + length body) bytes) (drop (24 + length body') bytes)
one_block_at bytes key key' number number' body body' is is' =
    one_block_there (record { key = key; body = body }) (record { key = key'; body = body' }) number number' _ _ (own_image _ key number body is) (own_image _ key' number' body' is')
    (sym (block_and_behind bytes key number body is) ∙ block_and_behind bytes key' number' body' is')

pub one_block_begins : (bytes : List ℕ) (key key' : SessionKey) (number number' : ℕ) (body body' : List ℕ) → BeginsWithBlock bytes key number body → BeginsWithBlock bytes key' number' body'
    → number ≡ number'
one_block_begins bytes key key' number number' body body' is is' =
    (one_block_at bytes key key' number number' body body' is is').number_is

-- a block that was shown is there
pub shown_stands : (bytes shown : List ℕ) (at : ℕ) (head : Head) → shown ≡ take head.size (drop at bytes) → IsBlockOf shown head → BlockStandsAt at head.number bytes head
shown_stands bytes shown at head is block =
    let long : head.size ≡ 24 + length block.body = block.size_is ∙ length-image shown head.key head.number block.body block.image in
    (block.body, subst (λ (image : List ℕ). IsBlockImage most_block image head.key head.number block.body) (is ∙ ap (λ n. take n (drop at bytes)) long) block.image, long)

pub shown_within : (bytes shown : List ℕ) (at : ℕ) (head : Head) → shown ≡ take head.size (drop at bytes) → IsBlockOf shown head → at ≤ length bytes → at + head.size ≤ length bytes
shown_within bytes shown at head is block within =
    omega (arith, block.size_is, ap length is, length-take head.size (drop at bytes), length-drop at bytes)

-- one block more
pub goes_on : (start : ℕ) (bytes : List ℕ) (label : VolumeLabel) (end next last : ℕ) (head : Head) → GoesUpTo start bytes label end next last → BlockStandsAt end next bytes head → head.key.time < start
    → GoesUpTo start bytes label (end + head.size) (next + 1) end
goes_on start bytes label end next last head goes stands earlier =
    let block : Block = record { key = head.key; body = stands.0 } in
    let there : BeginsWithBlock (drop end bytes) head.key (1 + length goes.blocks) stands.0 = subst (λ n. BeginsWithBlock (drop end bytes) head.key n stands.0) goes.next_is stands.1 in
    let more = one_block_more bytes label goes.blocks (drop end bytes) block goes.image there in
    record {
      blocks = goes.blocks ++ block ∷ [];
      image = subst (λ (tail : List ℕ). VolumeImage bytes label (goes.blocks ++ block ∷ []) tail) (drop-drop (24 + length stands.0) end bytes ∙ ap (λ n. drop (end + n) bytes) (sym stands.2)) more;
      end_is = ap (λ n. end + n) stands.2 ∙ ap (λ n. n + (24 + length stands.0)) goes.end_is ∙ sym (volume_end-more label goes.blocks block);
      next_is = omega (arith, goes.next_is, length-append goes.blocks (block ∷ []));
      last_is = inr (goes.blocks, block, refl, goes.end_is);
      earlier = All-push (λ (b : Block). b.key.time < start) goes.blocks block goes.earlier earlier;
    }

-- a block that is of no earlier run
pub of_this_run : (start : ℕ) (bytes : List ℕ) (label : VolumeLabel) (end next last : ℕ) (head : Head) → GoesUpTo start bytes label end next last → BlockStandsAt end next bytes head → start ≤ head.key.time
    → HasBlockOfThisRun start bytes label
of_this_run start bytes label end next last head goes stands late =
    let block : Block = record { key = head.key; body = stands.0 } in
    record {
      before = goes.blocks;
      block = block;
      tail = drop (24 + length stands.0) (drop end bytes);
      image = one_block_more bytes label goes.blocks (drop end bytes) block goes.image (subst (λ n. BeginsWithBlock (drop end bytes) head.key n stands.0) goes.next_is stands.1);
      time = late;
    }

-- The label block.

-- what the head and the body of a label block are
pub label_parts : (block : List ℕ) (head : Head) (label : VolumeLabel) → IsBlockOf block head → IsVolumeLabel label → block ≡ label_block label
    → (head.number ≡ 0) × (head.key ≡ no_session) × (drop 24 block ≡ volume_label_bytes label)
label_parts block head label is label_is block_is =
    let there = subst (λ (i : List ℕ). IsBlockImage most_block i no_session 0 (volume_label_bytes label)) (sym block_is) (label_image label label_is) in
    let parts = one_block most_block most_block block head.key no_session head.number 0 is.body (volume_label_bytes label) is.image there in
    (parts.1, parts.0, body_of_image most_block block head.key head.number is.body is.image ∙ parts.2)

-- a block with such a head and body is one
pub is_label_block : (block : List ℕ) (head : Head) (label : VolumeLabel) → IsBlockOf block head → (head.number ≡ 0) × (head.key ≡ no_session) → drop 24 block ≡ volume_label_bytes label
    → block ≡ label_block label
is_label_block block head label is same body =
    let body_is : is.body ≡ volume_label_bytes label = sym (body_of_image most_block block head.key head.number is.body is.image) ∙ body in
    is.image.image_is ∙ ap (λ k. block_image k head.number is.body) same.1 ∙ ap (λ n. block_image no_session n is.body) same.0 ∙ ap (block_image no_session 0) body_is

pub block_header_least : (block : List ℕ) (head : Head) → IsBlockOf block head → 24 ≤ length block
block_header_least block head is = omega (arith, length-image block head.key head.number is.body is.image)

-- a volume begins with its label block
pub label_begins : (name bytes : List ℕ) (label : VolumeLabel) → IsLabelled name bytes label → BeginsWithBlock bytes no_session 0 (volume_label_bytes label)
label_begins name bytes label is =
    let image = label_image label is.label_is in
    let long = length-label_block label in
    record {
      image_is = ap (λ n. take n bytes) (sym long) ∙ is.begins;
      fits = image.fits;
      least = image.least;
      most = image.most;
    }

-- so the block that was shown at its front is its label block
pub shown_is_label : (name bytes shown : List ℕ) (head : Head) (label : VolumeLabel) → shown ≡ take head.size bytes → IsBlockOf shown head → IsLabelled name bytes label
    → shown ≡ label_block label
shown_is_label name bytes shown head label is block ours =
    let own : IsImage most_block shown = record { key = head.key; number = head.number; body = block.body; block = block.image } in
    let other : IsImage most_block (label_block label) = record { key = no_session; number = 0; body = volume_label_bytes label; block = label_image label ours.label_is } in
    let both : shown ++ drop head.size bytes ≡ label_block label ++ drop (24 + length (volume_label_bytes label)) bytes =
    ap (λ (l : List ℕ). l ++ drop head.size bytes) is ∙ take-append-drop head.size bytes ∙ block_and_behind bytes no_session 0 (volume_label_bytes label) (label_begins name bytes label ours) in
    (one_image most_block most_block shown (label_block label) _ _ own other both).0
