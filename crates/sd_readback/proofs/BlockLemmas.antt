-- Images of blocks that lie at one place, numbered from two numbers on: they are of the same blocks.
use Rattle.std.proofs.Common.{◌≡◌, ◌⊎◌, inl, inr, ℕ, ◌+◌, List, [], ◌∷◌, ◌++◌, length, refl, ap, ap₂, sym, ◌∙◌, arith, add-zero}
use Rattle.std.proofs.lemmas.List.{append_assoc, append-nil}
use Rattle.sd_base.specs.declared.number.SessionKey.{SessionKey}
use Rattle.sd_block.specs.Image.{block_image}
use Rattle.sd_block.proofs.ImageLemmas.{length-block_image}
use Rattle.sd_label.proofs.CuttingLemmas.{front_nil}
use Rattle.sd_volume.specs.Image.{Block, images, AreImages}
use Rattle.sd_volume.proofs.ImageLemmas.{one_block_there, suc_number}

never_nil : (key : SessionKey) (number : ℕ) (body rest : List ℕ) → block_image key number body ++ rest ≡ [] → ⊥
never_nil key number body rest e =
    let none : block_image key number body ≡ [] = front_nil (block_image key number body) rest e in
    let long = length-block_image key number body in
    let zero : length (block_image key number body) ≡ 0 = ap length none in
    absurd (omega arith)

images_nil : (number : ℕ) (blocks : List Block) → images number blocks ≡ [] → blocks ≡ []
images_nil number [] e = refl
images_nil number (b ∷ bs) e = absurd (never_nil b.key number b.body (images (number + 1) bs) e)

-- the blocks begin with those that are done, and what is left are the images of the others
pub record GoesOnWith (number other : ℕ) (done blocks : List Block) (rest : List ℕ) : Type 0 where
  pub more : List Block
  pub blocks_are : blocks ≡ done ++ more
  pub rest_is : rest ≡ images (other + length done) more
  pub number_is : (done ≡ []) ⊎ (number ≡ other)

pub images_front : (number other : ℕ) (done blocks : List Block) (rest : List ℕ) → AreImages number done → AreImages other blocks
    → images number done ++ rest ≡ images other blocks → GoesOnWith number other done blocks rest
images_front number other [] blocks rest are are' e = record {
  more = blocks;
  blocks_are = refl;
  rest_is = e ∙ ap (λ n. images n blocks) (sym (add-zero other));
  number_is = inl refl;
}
images_front number other (d ∷ ds) [] rest are are' e =
    absurd (never_nil d.key number d.body (images (number + 1) ds ++ rest) (sym (append_assoc (block_image d.key number d.body) (images (number + 1) ds) rest) ∙ e))
images_front number other (d ∷ ds) (b ∷ bs) rest are are' e =
    let flat = sym (append_assoc (block_image d.key number d.body) (images (number + 1) ds) rest) ∙ e in
    let first = one_block_there d b number other (images (number + 1) ds ++ rest) (images (other + 1) bs) are.0 are'.0 flat in
    let later = images_front (number + 1) (other + 1) ds bs rest are.1 are'.1 first.behind_is in
    record {
      more = later.more;
      blocks_are = ap₂ (λ (x : Block) (l : List Block). x ∷ l) (sym first.block_is) later.blocks_are;
      rest_is = later.rest_is ∙ ap (λ n. images n later.more) (suc_number other (length ds));
      number_is = inr first.number_is;
    }

pub images_one : (number other : ℕ) (done blocks : List Block) → AreImages number done → AreImages other blocks
    → images number done ≡ images other blocks → done ≡ blocks
images_one number other done blocks are are' e =
    let on = images_front number other done blocks [] are are' (append-nil (images number done) ∙ e) in
    let none = images_nil (other + length done) on.more (sym on.rest_is) in
    sym (on.blocks_are ∙ ap (λ l. done ++ l) none ∙ append-nil done)
