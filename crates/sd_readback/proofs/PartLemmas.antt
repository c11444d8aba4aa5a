-- What a reader has read of a part of a volume, block by block.
use Rattle.std.proofs.Common.{◌≡◌, ◌≢◌, ℕ, suc, ◌+◌, ◌-◌, ◌≤◌, refl, sym, ap, subst, ◌∙◌, arith, ◌⊎◌, List, [], ◌∷◌, ◌++◌, length, take, drop, add-zero}
use Rattle.std.specs.Prelude.{Option, Some, None}
use Rattle.std.proofs.lemmas.List.{append_assoc, append-nil, length-append}
use Rattle.sd_base.specs.Limits.{most_block}
use Rattle.sd_base.specs.Record.{Record}
use Rattle.sd_base.specs.declared.number.SessionKey.{SessionKey}
use Rattle.sd_block.specs.Image.{block_image, IsBlockImage}
use Rattle.sd_readback.specs.declared.fault.ReadFault.{ReadFault}
use Rattle.sd_readback.specs.declared.fault.ReadFault.TheVariants.{DamagedBlock}
use Rattle.sd_readback.specs.declared.reader.Reader.{Reader}
use Rattle.sd_volume.specs.Image.{Block, images, AreImages}
use Rattle.sd_readback.specs.Device.{stretch}
use Rattle.sd_readback.specs.Faults.{last_number, ComesNext, BeginsWithNoBlock, BeginsWithRefused, StopsWithin}
use Rattle.sd_readback.specs.Reader.{HasRead, ReadsOn}
use Rattle.sd_volume.proofs.ImageLemmas.{images-append, AreImages-append}
use Rattle.sd_readback.proofs.ReaderLemmas.{has_read_readable}

-- What was read so far of the bytes from `start` to `end`, of which those from `at` on are left. Which bytes they
-- are is known if the device is honest.
pub record HasReadPart (old new : Reader) (got got' : List Record) (start at end : ℕ) (last : Option ℕ) (There : List ℕ → Type 0) : Type 0 where
  pub done : List Block
  pub number : ℕ
  pub part_is : (bytes : List ℕ) → There bytes → stretch start end bytes ≡ images number done ++ stretch at end bytes
  pub done_are : AreImages number done
  pub last_is : last ≡ last_number number done
  pub on : ReadsOn old new got got' done

pub reads_none : (reader : Reader) (got : List Record) → ReadsOn reader reader got got []
reads_none reader got = record {
  more = [];
  got_is = sym (append-nil got);
  goes_on = λ key before taken r.
      subst (λ bs. HasRead key bs (taken ++ []) reader) (sym (append-nil before)) (subst (λ l. HasRead key before l reader) (sym (append-nil taken)) r);
}

pub part_begins : (old : Reader) (got : List Record) (start end : ℕ) (There : List ℕ → Type 0) → HasReadPart old old got got start start end None There
part_begins old got start end There = record {
  done = [];
  number = 0;
  part_is = λ bytes there. refl;
  done_are = tt;
  last_is = refl;
  on = reads_none old got;
}

-- the blocks that are done, numbered so that this one comes next
pub record NumberedFor (number : ℕ) (done : List Block) (b : Block) (at : ℕ) : Type 0 where
  pub first : ℕ
  pub images_are : images first (done ++ b ∷ []) ≡ images number done ++ block_image b.key at b.body
  pub done_are : AreImages first (done ++ b ∷ [])
  pub at_is : at ≡ first + length done

pub numbered_for : (number : ℕ) (done : List Block) (b : Block) (at : ℕ) → AreImages number done
    → IsBlockImage most_block (block_image b.key at b.body) b.key at b.body → ComesNext (last_number number done) at → NumberedFor number done b at
numbered_for number [] b at are own next = record {
  first = at;
  images_are = append-nil (block_image b.key at b.body);
  done_are = (own, tt);
  at_is = sym (add-zero at);
}
numbered_for number (d ∷ ds) b at are own next =
    let here : at ≡ number + suc (length ds) = omega arith in
    record {
      first = number;
      images_are =
          images-append number (d ∷ ds) (b ∷ []) ∙ ap (λ n. images number (d ∷ ds) ++ (block_image b.key n b.body ++ [])) (sym here)
          ∙ ap (λ l. images number (d ∷ ds) ++ l) (append-nil (block_image b.key at b.body));
      done_are = AreImages-append number (d ∷ ds) (b ∷ []) are ((subst (λ n. IsBlockImage most_block (block_image b.key n b.body) b.key n b.body) here own), tt);
      at_is = here;
    }

last_of : (number : ℕ) (done : List Block) (b : Block) → last_number number (done ++ b ∷ []) ≡ Some (number + length done)
last_of number [] b = refl
last_of number (d ∷ ds) b = ap Some (let long = length-append ds (b ∷ []) in omega arith)

pub reads_on_more : (old mid new : Reader) (got got' got'' : List Record) (done : List Block) (b : Block) → ReadsOn old mid got got' done → ReadsOn mid new got' got'' (b ∷ [])
    → ReadsOn old new got got'' (done ++ b ∷ [])
reads_on_more old mid new got got' got'' done b first next = record {
  more = first.more ++ next.more;
  got_is = next.got_is ∙ ap (λ l. l ++ next.more) first.got_is ∙ append_assoc got first.more next.more;
  goes_on = λ key before taken r.
      subst (λ bs. HasRead key bs (taken ++ (first.more ++ next.more)) new) (append_assoc before done (b ∷ []))
      (subst (λ l. HasRead key ((before ++ done) ++ b ∷ []) l new) (append_assoc taken first.more next.more)
      (next.goes_on key (before ++ done) (taken ++ first.more) (first.goes_on key before taken r)));
}

-- the blocks that are done with the next one, and what is left after it
pub with_next : (part left behind image done_images all : List ℕ) → part ≡ done_images ++ left → left ≡ image ++ behind → all ≡ done_images ++ image → part ≡ all ++ behind
with_next part left behind image done_images all e there is =
    e ∙ ap (λ l. done_images ++ l) there ∙ sym (append_assoc done_images image behind) ∙ ap (λ l. l ++ behind) (sym is)

-- one block more of the part
pub part_goes_on : (old mid new : Reader) (got got' got'' : List Record) (start at next end : ℕ) (last : Option ℕ) (There : List ℕ → Type 0) (b : Block) (number : ℕ)
    → HasReadPart old mid got got' start at end last There
    → IsBlockImage most_block (block_image b.key number b.body) b.key number b.body → ComesNext last number
    → ((bytes : List ℕ) → There bytes → stretch at end bytes ≡ block_image b.key number b.body ++ stretch next end bytes)
    → ReadsOn mid new got' got'' (b ∷ [])
    → HasReadPart old new got got'' start next end (Some number) There
part_goes_on old mid new got got' got'' start at next end last There b number p own comes there on =
    let n = numbered_for p.number p.done b number p.done_are own (subst (λ l. ComesNext l number) p.last_is comes) in
    record {
      done = p.done ++ b ∷ [];
      number = n.first;
      part_is = λ bytes is.
          with_next (stretch start end bytes) (stretch at end bytes) (stretch next end bytes) (block_image b.key number b.body) (images p.number p.done) (images n.first (p.done ++ b ∷ []))
          (p.part_is bytes is) (there bytes is) n.images_are;
      done_are = n.done_are;
      last_is = ap Some n.at_is ∙ sym (last_of n.first p.done b);
      on = reads_on_more old mid new got got' got'' p.done b p.on on;
    }

-- what is left of the part can't be read
pub part_stops : (old mid : Reader) (got got' : List Record) (start at end : ℕ) (last : Option ℕ) (There : List ℕ → Type 0) (fault : ReadFault) (bytes : List ℕ)
    → HasReadPart old mid got got' start at end last There → There bytes → stretch at end bytes ≢ []
    → ((key : SessionKey) (before : List Block) (taken : List Record) → HasRead key before taken mid
    → BeginsWithNoBlock fault last (stretch at end bytes) ⊎ ((fault ≡ DamagedBlock) × BeginsWithRefused key before last (stretch at end bytes)))
    → (key : SessionKey) (before : List Block) (taken : List Record) → HasRead key before taken old → StopsWithin key before (stretch start end bytes) fault
part_stops old mid got got' start at end last There fault bytes p is some why key before taken r =
    let left = stretch at end bytes in
    let here = p.on.goes_on key before taken r in
    record {
      done = p.done;
      number = p.number;
      rest = left;
      part_is = p.part_is bytes is;
      done_are = p.done_are;
      readable = has_read_readable key (before ++ p.done) (taken ++ p.on.more) mid here;
      rest_left = some;
      stops = subst (λ l. BeginsWithNoBlock fault l left ⊎ ((fault ≡ DamagedBlock) × BeginsWithRefused key (before ++ p.done) l left)) p.last_is
          (why key (before ++ p.done) (taken ++ p.on.more) here);
    }

-- nothing is left of the part
pub part_whole : (old new : Reader) (got got' : List Record) (start at end : ℕ) (last : Option ℕ) (There : List ℕ → Type 0) (bytes : List ℕ) → end ≤ at
    → (p : HasReadPart old new got got' start at end last There) → There bytes → stretch start end bytes ≡ images p.number p.done
part_whole old new got got' start at end last There bytes past p is =
    let none : end - at ≡ 0 = omega arith in
    p.part_is bytes is ∙ ap (λ n. images p.number p.done ++ take n (drop at bytes)) none ∙ append-nil (images p.number p.done)
