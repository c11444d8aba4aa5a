-- A volume that is cut to its label block.
use Rattle.std.proofs.Common.{◌≡◌, ℕ, List, [], ◌∷◌, ◌++◌, length, take, drop, refl, ap, sym, ◌∙◌, subst, Result, Ok, Err}
use Rattle.std.specs.Prelude.{OnOk}
use Rattle.std.proofs.lemmas.List.{append_assoc, append-nil}
use Rattle.sd_driver.specs.Shelf.{Shelf, BeginsWith}
use Rattle.sd_label.specs.declared.label.VolumeLabel.{VolumeLabel}
use Rattle.sd_volume.specs.declared.volume.VolumeStatus.TheVariants.{Append, Error}
use Rattle.sd_volume.specs.Adopt.{CutsAt, KeepsUpTo}
use Rattle.sd_volume.specs.Image.{Block, images, label_block, volume_end, VolumeImage}
use Rattle.sd_volume.specs.Purge.{emptied, LeavesLabel, KeepsLabel}
use Rattle.sd_volume.specs.Volume.{VolumeView, StandsOn}
use Rattle.sd_volume.proofs.ImageLemmas.{kept_blocks_stand}

pub take_front : {A : Type 0} (xs ys : List A) → take (length xs) (xs ++ ys) ≡ xs
take_front [] ys = refl
take_front (x ∷ xs) ys = ap (λ l. x ∷ l) (take_front xs ys)

-- the label block alone, and all else after it
label_alone : (bytes : List ℕ) (label : VolumeLabel) (blocks : List Block) (tail : List ℕ) → VolumeImage bytes label blocks tail → VolumeImage bytes label [] (images 1 blocks ++ tail)
label_alone bytes label blocks tail is = record {
  label_is = is.label_is;
  blocks_are = tt;
  bytes_are = is.bytes_are ∙ append_assoc (label_block label) (images 1 blocks) tail ∙ ap (λ (l : List ℕ). l ++ (images 1 blocks ++ tail)) (sym (append-nil (label_block label)));
}

label_end : (label : VolumeLabel) → length (label_block label) ≡ volume_end label []
label_end label = ap length (sym (append-nil (label_block label)))

-- the bytes up to the first block are the label block
label_front : (bytes : List ℕ) (label : VolumeLabel) (blocks : List Block) (tail : List ℕ) → VolumeImage bytes label blocks tail → take (length (label_block label)) bytes ≡ label_block label
label_front bytes label blocks tail is =
    ap (take (length (label_block label))) (is.bytes_are ∙ append_assoc (label_block label) (images 1 blocks) tail) ∙ take_front (label_block label) (images 1 blocks ++ tail)

label_left : (v w : VolumeView) (old new : Shelf) → w ≡ emptied Append v → CutsAt v.first v.name old new → LeavesLabel v old w new
label_left v w old new is cuts label blocks tail stands =
    let bytes = take v.first stands.held.bytes in
    let front : bytes ≡ label_block label = ap (λ n. take n stands.held.bytes) stands.first_is ∙ label_front stands.held.bytes label blocks tail stands.image in
    let P : VolumeView → Type 0 = λ x. StandsOn x new label [] [] in
    subst P (sym is) (record {
      held = record { bytes = bytes; stable = length bytes };
      there = cuts.here stands.held stands.there;
      image = record {
        label_is = stands.image.label_is;
        blocks_are = tt;
        bytes_are = front ∙ sym (append-nil (label_block label)) ∙ sym (append-nil (label_block label ++ []));
      };
      name_is = stands.name_is;
      pool_is = stands.pool_is;
      media_is = stands.media_is;
      end_is = stands.first_is ∙ label_end label;
      next_is = refl;
      first_is = stands.first_is;
      no_tail = λ status. refl;
    })

-- so it is if the cut succeeded
pub left_of : {T E : Type 0} (r : Result T E) (v w : VolumeView) (old new : Shelf) → OnOk r (w ≡ emptied Append v) → OnOk r (CutsAt v.first v.name old new) → OnOk r (LeavesLabel v old w new)
left_of (Ok x) v w old new is cuts = label_left v w old new is cuts
left_of (Err e) v w old new is cuts = tt

pub label_kept : (v w : VolumeView) (old new : Shelf) → w ≡ emptied Error v → KeepsUpTo v.first v.name old new → KeepsLabel v old w new
label_kept v w old new is keeps label blocks tail stands =
    let here = keeps.here stands.held stands.there in
    let end : v.first ≡ volume_end label [] = stands.first_is ∙ label_end label in
    let front : BeginsWith here.0.bytes (take (volume_end label []) stands.held.bytes) = subst (λ n. BeginsWith here.0.bytes (take n stands.held.bytes)) end here.2 in
    let rest = drop (volume_end label []) here.0.bytes in
    let P : VolumeView → Type 0 = λ x. StandsOn x new label [] rest in (
      rest,
      subst P (sym is) (record {
        held = here.0;
        there = here.1;
        image = kept_blocks_stand stands.held.bytes here.0.bytes label [] (images 1 blocks ++ tail) (label_alone stands.held.bytes label blocks tail stands.image) front;
        name_is = stands.name_is;
        pool_is = stands.pool_is;
        media_is = stands.media_is;
        end_is = end;
        next_is = refl;
        first_is = stands.first_is;
        no_tail = λ status. absurd (cc status);
      }),
    )
