-- The block at the front of what is left of a span, by its header and its image.
use Rattle.std.proofs.Common.{◌≡◌, ◌≢◌, ℕ, ◌+◌, ◌-◌, ◌≤◌, ◌<◌, inl, inr, refl, sym, ap, ap₂, subst, ◌∙◌, arith, List, [], ◌++◌, length, take, drop}
use Rattle.std.specs.Prelude.{Option}
use Rattle.std.proofs.lemmas.List.{drop-take, drop-drop, take-take, take-append-drop, length-take, length-drop}
use Rattle.sd_base.specs.Limits.{most_block}
use Rattle.sd_base.specs.declared.number.SessionKey.{SessionKey}
use Rattle.sd_block.specs.Image.{IsBlockImage}
use Rattle.sd_block.specs.Head.{field_at, HasId, IsHeadOf}
use Rattle.sd_block.specs.Fault.{IsShort, HasBadId, HasBadSize, HasWrongSize, HasBadSum}
use Rattle.sd_block.specs.declared.head.Head.{Head}
use Rattle.sd_block.specs.declared.fault.BlockFault.{BlockFault}
use Rattle.sd_block.specs.declared.fault.BlockFault.TheVariants.{Short, BadId, BadSize, BadSum}
use Rattle.sd_block.proofs.HeaderLemmas.{SaysSize-same, SaysFields-same}
use Rattle.sd_block.proofs.ImageLemmas.{IsHeadOf-image, take_within}
use Rattle.sd_readback.specs.declared.fault.ReadFault.TheVariants.{DamagedBlock}
use Rattle.sd_readback.specs.Device.{stretch, ShowsBlock}
use Rattle.sd_readback.specs.Faults.{ComesNext, BeginsWithBlock, BeginsWithNoBlock, HasBadHead, HasBadBlock}

-- The front of bytes has their header.

field_of_front : (at size : ℕ) (bytes : List ℕ) → at + 4 ≤ size → field_at at (take size bytes) ≡ field_at at bytes
field_of_front at size bytes within =
    sym (take_within 4 at (take size bytes)) ∙ ap (λ front. take 4 (drop at front)) (take-take (at + 4) size bytes within) ∙ take_within 4 at bytes

pub head_of_front : (bytes : List ℕ) (head : Head) → IsHeadOf most_block bytes head → head.size ≤ length bytes → IsHeadOf most_block (take head.size bytes) head
head_of_front bytes head is within =
    let least = is.least in
    let long = length-take head.size bytes in
    record {
      header = omega arith;
      block_id = field_of_front 12 head.size bytes (omega arith) ∙ is.block_id;
      fields = record {
        fits = is.fields.fits;
        size = field_of_front 4 head.size bytes (omega arith) ∙ is.fields.size;
        number = field_of_front 8 head.size bytes (omega arith) ∙ is.fields.number;
        session_id = field_of_front 16 head.size bytes (omega arith) ∙ is.fields.session_id;
        session_time = field_of_front 20 head.size bytes (omega arith) ∙ is.fields.session_time;
      };
      least = is.least;
      most = is.most;
    }

pub size_of_front : (bytes : List ℕ) (head : Head) → head.size ≤ length bytes → length (take head.size bytes) ≡ head.size
size_of_front bytes head within = let long = length-take head.size bytes in omega arith

-- what is known if an image with this header isn't a block
pub record IsOpenFault (image : List ℕ) (fault : BlockFault) : Type 0 where
  pub short : fault ≡ Short → IsShort image
  pub bad_id : fault ≡ BadId → HasBadId image
  pub bad_size : fault ≡ BadSize → HasWrongSize most_block image
  pub bad_sum : fault ≡ BadSum → HasBadSum image

pub sum_is_bad : (image : List ℕ) (head : Head) (fault : BlockFault) → IsHeadOf most_block image head → length image ≡ head.size → IsOpenFault image fault → HasBadSum image
sum_is_bad image head Short is whole why = let few = why.short refl in let header = is.header in absurd (omega arith)
sum_is_bad image head BadId is whole why = absurd (why.bad_id refl is.block_id)
sum_is_bad image head BadSize is whole why =
    let wrong = why.bad_size refl in
    let same = SaysSize-same image wrong.0 head.size wrong.1.0 (is.fields.fits.size_fits, is.fields.size) in
    let least = is.least in
    let most = is.most in
    let outside = wrong.1.1 in
    absurd (omega (arith, outside))
sum_is_bad image head BadSum is whole why = why.bad_sum refl

pub head_from_front : (bytes : List ℕ) (head : Head) → 24 ≤ length bytes → IsHeadOf most_block (take 24 bytes) head → IsHeadOf most_block bytes head
head_from_front bytes head long is = record {
  header = long;
  block_id = sym (field_of_front 12 24 bytes (omega arith)) ∙ is.block_id;
  fields = record {
    fits = is.fields.fits;
    size = sym (field_of_front 4 24 bytes (omega arith)) ∙ is.fields.size;
    number = sym (field_of_front 8 24 bytes (omega arith)) ∙ is.fields.number;
    session_id = sym (field_of_front 16 24 bytes (omega arith)) ∙ is.fields.session_id;
    session_time = sym (field_of_front 20 24 bytes (omega arith)) ∙ is.fields.session_time;
  };
  least = is.least;
  most = is.most;
}

-- what is known if the first bytes are no header
pub record IsHeadFault (front : List ℕ) (fault : BlockFault) : Type 0 where
  pub short : fault ≡ Short → IsShort front
  pub bad_id : fault ≡ BadId → HasBadId front
  pub bad_size : fault ≡ BadSize → HasId front × HasBadSize most_block front
  pub no_sum : fault ≢ BadSum

pub head_is_bad : (bytes : List ℕ) (fault : BlockFault) → 24 ≤ length bytes → IsHeadFault (take 24 bytes) fault → HasBadHead bytes
head_is_bad bytes Short long why = let few = why.short refl in let same = length-take 24 bytes in absurd (omega arith)
head_is_bad bytes BadId long why = inl (λ is. why.bad_id refl (field_of_front 12 24 bytes (omega arith) ∙ is))
head_is_bad bytes BadSize long why =
    let bad = why.bad_size refl in
    let size = bad.1 in
    inr (
      sym (field_of_front 12 24 bytes (omega arith)) ∙ bad.0,
      (size.0, ((size.1.0.0, sym (field_of_front 4 24 bytes (omega arith)) ∙ size.1.0.1), size.1.1)),
    )
head_is_bad bytes BadSum long why = absurd (why.no_sum refl)

-- a header says the number of its block
pub number_said : (image : List ℕ) (key : SessionKey) (number : ℕ) (body : List ℕ) (head : Head) → IsBlockImage most_block image key number body → IsHeadOf most_block image head
    → head.number ≡ number
number_said image key number body head block is =
    let own = IsHeadOf-image most_block image image key number body block refl in
    ap (λ (h : Head). h.number) (SaysFields-same image head _ is.fields own.fields)

-- What is left of a span.

pub length-stretch : (from to : ℕ) (bytes : List ℕ) → from ≤ to → to ≤ length bytes → length (stretch from to bytes) ≡ to - from
length-stretch from to bytes low high = let a = length-take (to - from) (drop from bytes) in let b = length-drop from bytes in omega arith

pub stretch_front : (from to count : ℕ) (bytes : List ℕ) → count ≤ to - from → take count (drop from bytes) ≡ take count (stretch from to bytes)
stretch_front from to count bytes within = sym (take-take count (to - from) (drop from bytes) within)

pub stretch_behind : (from to size : ℕ) (bytes : List ℕ) → from + size ≤ to → drop size (stretch from to bytes) ≡ stretch (from + size) to bytes
stretch_behind from to size bytes within =
    let more = to - (from + size) in
    let whole : to - from ≡ size + more = omega arith in
    ap (λ n. drop size (take n (drop from bytes))) whole ∙ drop-take size more (drop from bytes) ∙ ap (take more) (drop-drop size from bytes)

pub stretch_some : (from to : ℕ) (bytes : List ℕ) → from < to → to ≤ length bytes → stretch from to bytes ≢ []
stretch_some from to bytes low high none =
    let long = length-stretch from to bytes (omega arith) high in
    let zero : length (stretch from to bytes) ≡ 0 = ap length none in
    omega arith

-- What is known of a block that is shown.

-- the header of a block that is shown is that of its bytes, and they are as many as it says
pub shown_head : (rest shown : List ℕ) → (s : ShowsBlock rest shown) → IsHeadOf most_block shown s.head × (s.head.size ≡ length shown)
shown_head rest shown s =
    (subst (λ l. IsHeadOf most_block l s.head) (sym s.shown_is) (head_of_front rest s.head s.head_is s.within), sym (ap length s.shown_is ∙ size_of_front rest s.head s.within))

-- if it isn't the next block, none is there
pub shown_is_bad : (rest shown : List ℕ) (last : Option ℕ) → ShowsBlock rest shown
    → ((head : Head) → IsHeadOf most_block shown head → head.size ≡ length shown → HasBadBlock last shown head)
    → BeginsWithNoBlock DamagedBlock last rest
shown_is_bad rest shown last s why =
    let own = shown_head rest shown s in
    let least = s.head_is.least in
    let within = s.within in
    (omega arith, inr (s.head, s.head_is, s.within, bad_there (why s.head own.0 own.1)))
  where
    bad_there : HasBadBlock last shown s.head → HasBadBlock last rest s.head
    bad_there (inl bad) = inl (subst HasBadSum (ap (take s.head.size) s.shown_is ∙ take-take s.head.size s.head.size rest (omega arith)) bad)
    bad_there (inr other) = inr other

-- if it is, the bytes begin with it
pub shown_begins : (last : Option ℕ) (rest shown behind : List ℕ) (key : SessionKey) (number : ℕ) (body : List ℕ) → ShowsBlock rest shown
    → IsBlockImage most_block shown key number body → ComesNext last number → behind ≡ drop (length shown) rest
    → BeginsWithBlock last rest (record { key = key; body = body }) number behind
shown_begins last rest shown behind key number body s image next after =
    let own = shown_head rest shown s in
    record {
      bytes_are =
          sym (take-append-drop s.head.size rest)
          ∙ ap₂ (λ (a b : List ℕ). a ++ b) (sym s.shown_is ∙ image.image_is) (ap (λ n. drop n rest) own.1 ∙ sym after);
      block_is = subst (λ i. IsBlockImage most_block i key number body) image.image_is image;
      next_is = next;
    }
