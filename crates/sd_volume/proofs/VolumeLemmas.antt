-- A volume on a shelf, before and after a block is added.
use Rattle.std.proofs.Common.{◌≡◌, ◌≢◌, ℕ, ◌+◌, List, [], ◌∷◌, ◌++◌, length, refl, ap, sym, ◌∙◌, subst, arith, Option, Some}
use Rattle.std.proofs.lemmas.List.{append_assoc, append-nil, length-append}
use Rattle.sd_base.specs.Limits.{most_block}
use Rattle.sd_block.specs.Image.{IsBlockImage}
use Rattle.sd_driver.specs.Shelf.{Shelf, Held, Appends, MayAppend}
use Rattle.sd_label.specs.declared.label.VolumeLabel.{VolumeLabel}
use Rattle.sd_volume.specs.declared.volume.VolumeStatus.{VolumeStatus}
use Rattle.sd_volume.specs.declared.volume.VolumeStatus.TheVariants.{Append}
use Rattle.sd_volume.specs.Image.{Block, label_and_blocks, VolumeImage}
use Rattle.sd_volume.specs.Volume.{VolumeView, StandsOn}
use Rattle.sd_volume.proofs.ImageLemmas.{with_one_more, are_one_more, volume_end-more}

-- an image that was appended to a volume without a tail is one block more
image_added : (bytes : List ℕ) (label : VolumeLabel) (blocks : List Block) (block : Block) (image : List ℕ) → VolumeImage bytes label blocks []
    → IsBlockImage most_block image block.key (1 + length blocks) block.body → VolumeImage (bytes ++ image) label (blocks ++ block ∷ []) []
image_added bytes label blocks block image is block_is = record {
  label_is = is.label_is;
  blocks_are = are_one_more blocks block is.blocks_are (record { image_is = refl; fits = block_is.fits; least = block_is.least; most = block_is.most });
  bytes_are =
      ap (λ (l : List ℕ). l ++ image) (is.bytes_are ∙ append-nil (label_and_blocks label blocks))
      ∙ ap (λ (l : List ℕ). label_and_blocks label blocks ++ l) block_is.image_is
      ∙ sym (with_one_more label blocks block) ∙ sym (append-nil (label_and_blocks label (blocks ++ block ∷ [])));
}

pub block_added : (v after : VolumeView) (old new : Shelf) (loaded : Option (List ℕ)) (label : VolumeLabel) (blocks : List Block) (block : Block) (image : List ℕ) (size : ℕ)
    → loaded ≡ Some v.name → IsBlockImage most_block image block.key v.next_number block.body → size ≡ 24 + length block.body
    → after ≡ record v { end = v.end + size; next_number = v.next_number + 1; last = v.end }
    → Appends image loaded old new → StandsOn v old label blocks [] → StandsOn after new label (blocks ++ block ∷ []) []
block_added v after old new loaded label blocks block image size is block_is size_is after_is appends stands =
    let there = appends.here v.name stands.held is stands.there in
    let bytes_are : there.0.bytes ≡ stands.held.bytes ++ image = ap (λ (h : Held). h.bytes) there.1 in
    let numbered : IsBlockImage most_block image block.key (1 + length blocks) block.body = subst (λ n. IsBlockImage most_block image block.key n block.body) stands.next_is block_is in
    let P : VolumeView → Type 0 = λ x. StandsOn x new label (blocks ++ block ∷ []) [] in
    subst P (sym after_is) (record {
      held = there.0;
      there = there.2;
      image = subst (λ bytes. VolumeImage bytes label (blocks ++ block ∷ []) []) (sym bytes_are) (image_added stands.held.bytes label blocks block image stands.image numbered);
      name_is = stands.name_is;
      pool_is = stands.pool_is;
      media_is = stands.media_is;
      end_is = ap (λ n. v.end + n) size_is ∙ ap (λ n. n + (24 + length block.body)) stands.end_is ∙ sym (volume_end-more label blocks block);
      next_is = omega (arith, stands.next_is, length-append blocks (block ∷ []));
      first_is = stands.first_is;
      no_tail = λ status. refl;
    })

-- bytes after the tail are more of the tail
pub tail_added : (bytes more : List ℕ) (label : VolumeLabel) (blocks : List Block) (tail : List ℕ) → VolumeImage bytes label blocks tail → VolumeImage (bytes ++ more) label blocks (tail ++ more)
tail_added bytes more label blocks tail is = record {
  label_is = is.label_is;
  blocks_are = is.blocks_are;
  bytes_are = ap (λ (l : List ℕ). l ++ more) is.bytes_are ∙ append_assoc (label_and_blocks label blocks) tail more;
}

pub blocks_kept : (v : VolumeView) (status : VolumeStatus) (old new : Shelf) (loaded : Option (List ℕ)) (label : VolumeLabel) (blocks : List Block) (tail : List ℕ)
    → loaded ≡ Some v.name → status ≢ Append → MayAppend loaded old new → StandsOn v old label blocks tail
    → (rest : List ℕ) × StandsOn (record v { status = status }) new label blocks rest
blocks_kept v status old new loaded label blocks tail is other appends stands =
    let there = appends.here v.name stands.held is stands.there in
    let more = there.1.0 in
    let bytes_are : there.0.bytes ≡ stands.held.bytes ++ more = ap (λ (h : Held). h.bytes) there.1.1 in (
      tail ++ more,
      record {
        held = there.0;
        there = there.2;
        image = subst (λ bytes. VolumeImage bytes label blocks (tail ++ more)) (sym bytes_are) (tail_added stands.held.bytes more label blocks tail stands.image);
        name_is = stands.name_is;
        pool_is = stands.pool_is;
        media_is = stands.media_is;
        end_is = stands.end_is;
        next_is = stands.next_is;
        first_is = stands.first_is;
        no_tail = λ status. absurd (other status);
      },
    )

-- the same bytes are the same volume
pub stands_by_its_bytes : (v : VolumeView) (old new : Shelf) (held after : Held) (label : VolumeLabel) (blocks : List Block) (tail : List ℕ) → StandsOn v old label blocks tail
    → old.volume v.name ≡ Some held → new.volume v.name ≡ Some after → after.bytes ≡ held.bytes → StandsOn v new label blocks tail
stands_by_its_bytes v old new held after label blocks tail stands there here same =
    let one : stands.held ≡ held = some_is (sym stands.there ∙ there) in
    record {
      held = after;
      there = here;
      image = subst (λ bytes. VolumeImage bytes label blocks tail) (ap (λ (h : Held). h.bytes) one ∙ sym same) stands.image;
      name_is = stands.name_is;
      pool_is = stands.pool_is;
      media_is = stands.media_is;
      end_is = stands.end_is;
      next_is = stands.next_is;
      first_is = stands.first_is;
      no_tail = stands.no_tail;
    }
  where
    some_is : {a b : Held} → Some a ≡ Some b → a ≡ b
    some_is e = cc
