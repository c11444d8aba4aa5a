-- Which refusal of an adoption is due, that it is one, and what is left of a volume that was adopted.
use Rattle.std.proofs.Common.{◌≡◌, ◌≢◌, ◌⊎◌, inl, inr, ℕ, ◌+◌, ◌<◌, ◌≤◌, List, [], ◌∷◌, ◌++◌, length, take, drop, get_or, refl, ap, sym, ◌∙◌, subst, arith, Some, None}
use Rattle.std.proofs.lemmas.List.{append_assoc, append-nil, length-append, take-append-drop, take-take, get_or_at}
use Rattle.sd_driver.specs.Shelf.{Shelf, Held, SameShelf, BeginsWith, StillLasts, StillLastsBelow}
use Rattle.sd_driver.proofs.Lasting.{BeginsWith-trans, BeginsWith-own_take, StillLastsBelow-of, StillLastsBelow-lower, StillLastsBelow-trans}
use Rattle.sd_label.specs.declared.label.VolumeLabel.{VolumeLabel}
use Rattle.sd_label.specs.Label.{IsVolumeLabel}
use Rattle.sd_volume.specs.declared.fault.AdoptFault.{AdoptFault}
use Rattle.sd_volume.specs.declared.fault.AdoptFault.TheVariants.{NotOnShelf, NotOurVolume, OtherMedia, BlocksOfThisRun, Device, Memory}
use Rattle.sd_volume.specs.Image.{Block, NoBlockNext, images, label_block, label_and_blocks, volume_end, VolumeImage, WholeImage}
use Rattle.sd_volume.specs.Volume.{VolumeView}
use Rattle.sd_volume.specs.Adopt.{IsVolumeOf, AreEarlier, HasBlockOfThisRun, IsDue, IsAdoptable, Adopts, CutsAt, KeepsUpTo, KeepsWholeBlocks, GoesUpTo}
use Rattle.sd_volume.proofs.ImageLemmas.{one_label, whole_image_goes_on, bytes_before, images-append}

pub same_held : (shelf : Shelf) (name : List ℕ) (held other : Held) → shelf.volume name ≡ Some held → shelf.volume name ≡ Some other → held ≡ other
same_held shelf name held other there here = some_is (sym there ∙ here)
  where
    some_is : {a b : Held} → Some a ≡ Some b → a ≡ b
    some_is e = cc

gone : (shelf : Shelf) (name : List ℕ) (held : Held) {P : Type 0} → shelf.volume name ≡ None → shelf.volume name ≡ Some held → P
gone shelf name held none there = absurd (never (sym none ∙ there))
  where
    never : {a : Held} → None ≡ Some a → ⊥
    never e = cc

-- The label.

pub label_and_rest : (name bytes : List ℕ) (label : VolumeLabel) → IsVolumeOf name bytes label → bytes ≡ label_block label ++ drop (length (label_block label)) bytes
label_and_rest name bytes label is =
    sym (take-append-drop (length (label_block label)) bytes) ∙ ap (λ (l : List ℕ). l ++ drop (length (label_block label)) bytes) is.begins

one_label_of : (name bytes : List ℕ) (label other : VolumeLabel) → IsVolumeOf name bytes label → IsVolumeOf name bytes other → label ≡ other
one_label_of name bytes label other is is' =
    (one_label label other _ _ is.label_is is'.label_is (sym (label_and_rest name bytes label is) ∙ label_and_rest name bytes other is')).0

-- a volume's label block alone
pub goes_from_label : (start : ℕ) (bytes : List ℕ) (label : VolumeLabel) (first : ℕ) → IsVolumeLabel label → BeginsWith bytes (label_block label) → first ≡ length (label_block label)
    → GoesUpTo start bytes label first 1 0
goes_from_label start bytes label first is begins first_is =
    let front = append-nil (label_block label) in
    let whole : bytes ≡ label_block label ++ drop first bytes =
    sym (take-append-drop first bytes) ∙ ap (λ (l : List ℕ). l ++ drop first bytes) (ap (λ n. take n bytes) first_is ∙ begins) in
    record {
      blocks = [];
      image = record { label_is = is; blocks_are = tt; bytes_are = whole ∙ ap (λ (l : List ℕ). l ++ drop first bytes) (sym front) };
      end_is = first_is ∙ ap length (sym front);
      next_is = refl;
      last_is = inl (refl, refl);
      earlier = λ k d lt. absurd (omega arith);
    }

-- where a whole image ends, no blocks of the same bytes end later
pub end_within : (bytes : List ℕ) (label other : VolumeLabel) (blocks all : List Block) (rest tail : List ℕ) → VolumeImage bytes label blocks rest → WholeImage bytes other all tail
    → volume_end label blocks ≤ volume_end other all
end_within bytes label other blocks all rest tail is whole =
    let to = whole_image_goes_on bytes label other blocks all rest tail is whole in
    let more = to.1.0 in
    let parted : label_and_blocks other all ≡ label_and_blocks label blocks ++ images (1 + length blocks) more =
    ap (λ l. label_and_blocks l all) (sym to.0) ∙ ap (λ l. label_block label ++ images 1 l) to.1.1 ∙ ap (λ (l : List ℕ). label_block label ++ l) (images-append 1 blocks more)
    ∙ sym (append_assoc (label_block label) (images 1 blocks) (images (1 + length blocks) more)) in
    omega (arith, ap length parted, length-append (label_and_blocks label blocks) (images (1 + length blocks) more))

-- What is due.

-- a volume whose blocks are all of earlier runs has none of this one
none_of_this_run : (start : ℕ) (bytes : List ℕ) (label other : VolumeLabel) (blocks : List Block) (tail : List ℕ) → WholeImage bytes label blocks tail → AreEarlier start blocks
    → HasBlockOfThisRun start bytes other → ⊥
none_of_this_run start bytes label other blocks tail whole earlier has =
    let to = whole_image_goes_on bytes other label (has.before ++ has.block ∷ []) blocks has.tail tail has.image whole in
    let at = length has.before in
    let blocks_are : blocks ≡ has.before ++ has.block ∷ to.1.0 = to.1.1 ∙ append_assoc has.before (has.block ∷ []) to.1.0 in
    let long : at < length blocks = omega (arith, ap length blocks_are, length-append has.before (has.block ∷ to.1.0)) in
    let there : get_or blocks at has.block ≡ has.block = ap (λ l. get_or l at has.block) blocks_are ∙ get_or_at has.before has.block to.1.0 has.block at refl in
    let early = earlier at has.block long in
    let late = has.time in
    absurd (omega (arith, early, late, ap (λ (b : Block). b.key.time) there))

pub not_due : (fault : AdoptFault) (name media : List ℕ) (start : ℕ) (shelf : Shelf) (held : Held) (v : VolumeView) → shelf.volume name ≡ Some held → IsAdoptable name media start held.bytes v
    → IsDue fault name media start shelf → ⊥
not_due NotOnShelf name media start shelf held v there is due = gone shelf name held due there
not_due NotOurVolume name media start shelf held v there is due =
    let same = ap (λ (h : Held). h.bytes) (same_held shelf name held due.0 there due.1) in
    due.2 is.label (subst (λ bytes. IsVolumeOf name bytes is.label) same is.ours)
not_due OtherMedia name media start shelf held v there is due =
    let same = ap (λ (h : Held). h.bytes) (same_held shelf name held due.0 there due.1) in
    let ours = subst (λ bytes. IsVolumeOf name bytes is.label) same is.ours in
    due.2.2 (ap (λ (l : VolumeLabel). l.media) (one_label_of name due.0.bytes due.2.0 is.label due.2.1 ours) ∙ is.media_is)
not_due BlocksOfThisRun name media start shelf held v there is due =
    let same = ap (λ (h : Held). h.bytes) (same_held shelf name held due.0 there due.1) in
    none_of_this_run start held.bytes is.label due.2.0 is.blocks is.tail is.whole is.earlier (subst (λ bytes. HasBlockOfThisRun start bytes due.2.0) (sym same) due.2.3)
not_due Device name media start shelf held v there is due = due
not_due Memory name media start shelf held v there is due = due

-- a refusal that is due is the only one
pub one_due : (fault other : AdoptFault) (name media : List ℕ) (start : ℕ) (shelf : Shelf) → IsDue fault name media start shelf → IsDue other name media start shelf → fault ≡ other
one_due NotOnShelf NotOnShelf name media start shelf a b = refl
one_due NotOnShelf NotOurVolume name media start shelf a b = gone shelf name b.0 a b.1
one_due NotOnShelf OtherMedia name media start shelf a b = gone shelf name b.0 a b.1
one_due NotOnShelf BlocksOfThisRun name media start shelf a b = gone shelf name b.0 a b.1
one_due NotOnShelf Device name media start shelf a b = absurd b
one_due NotOnShelf Memory name media start shelf a b = absurd b
one_due NotOurVolume NotOnShelf name media start shelf a b = gone shelf name a.0 b a.1
one_due NotOurVolume NotOurVolume name media start shelf a b = refl
one_due NotOurVolume OtherMedia name media start shelf a b =
    let same = ap (λ (h : Held). h.bytes) (same_held shelf name b.0 a.0 b.1 a.1) in
    absurd (a.2 b.2.0 (subst (λ bytes. IsVolumeOf name bytes b.2.0) same b.2.1))
one_due NotOurVolume BlocksOfThisRun name media start shelf a b =
    let same = ap (λ (h : Held). h.bytes) (same_held shelf name b.0 a.0 b.1 a.1) in
    absurd (a.2 b.2.0 (subst (λ bytes. IsVolumeOf name bytes b.2.0) same b.2.1))
one_due NotOurVolume Device name media start shelf a b = absurd b
one_due NotOurVolume Memory name media start shelf a b = absurd b
one_due OtherMedia NotOnShelf name media start shelf a b = gone shelf name a.0 b a.1
one_due OtherMedia NotOurVolume name media start shelf a b =
    let same = ap (λ (h : Held). h.bytes) (same_held shelf name a.0 b.0 a.1 b.1) in
    absurd (b.2 a.2.0 (subst (λ bytes. IsVolumeOf name bytes a.2.0) same a.2.1))
one_due OtherMedia OtherMedia name media start shelf a b = refl
one_due OtherMedia BlocksOfThisRun name media start shelf a b =
    let same = ap (λ (h : Held). h.bytes) (same_held shelf name a.0 b.0 a.1 b.1) in
    let label = one_label_of name b.0.bytes a.2.0 b.2.0 (subst (λ bytes. IsVolumeOf name bytes a.2.0) same a.2.1) b.2.1 in
    absurd (a.2.2 (ap (λ (l : VolumeLabel). l.media) label ∙ b.2.2))
one_due OtherMedia Device name media start shelf a b = absurd b
one_due OtherMedia Memory name media start shelf a b = absurd b
one_due BlocksOfThisRun NotOnShelf name media start shelf a b = gone shelf name a.0 b a.1
one_due BlocksOfThisRun NotOurVolume name media start shelf a b =
    let same = ap (λ (h : Held). h.bytes) (same_held shelf name a.0 b.0 a.1 b.1) in
    absurd (b.2 a.2.0 (subst (λ bytes. IsVolumeOf name bytes a.2.0) same a.2.1))
one_due BlocksOfThisRun OtherMedia name media start shelf a b =
    let same = ap (λ (h : Held). h.bytes) (same_held shelf name b.0 a.0 b.1 a.1) in
    let label = one_label_of name a.0.bytes b.2.0 a.2.0 (subst (λ bytes. IsVolumeOf name bytes b.2.0) same b.2.1) a.2.1 in
    absurd (b.2.2 (ap (λ (l : VolumeLabel). l.media) label ∙ a.2.2))
one_due BlocksOfThisRun BlocksOfThisRun name media start shelf a b = refl
one_due BlocksOfThisRun Device name media start shelf a b = absurd b
one_due BlocksOfThisRun Memory name media start shelf a b = absurd b
one_due Device other name media start shelf a b = absurd a
one_due Memory other name media start shelf a b = absurd a

-- so if it is answered at all, it is that one, or the device or memory failed
pub refuses_due : (answer fault : AdoptFault) (name media : List ℕ) (start : ℕ) (shelf : Shelf) → (answer ≢ Device → answer ≢ Memory → IsDue answer name media start shelf)
    → IsDue fault name media start shelf → (answer ≡ fault) ⊎ (answer ≡ Device) ⊎ (answer ≡ Memory)
refuses_due NotOnShelf fault name media start shelf due is = inl (one_due NotOnShelf fault name media start shelf (due (λ e. cc) (λ e. cc)) is)
refuses_due NotOurVolume fault name media start shelf due is = inl (one_due NotOurVolume fault name media start shelf (due (λ e. cc) (λ e. cc)) is)
refuses_due OtherMedia fault name media start shelf due is = inl (one_due OtherMedia fault name media start shelf (due (λ e. cc) (λ e. cc)) is)
refuses_due BlocksOfThisRun fault name media start shelf due is = inl (one_due BlocksOfThisRun fault name media start shelf (due (λ e. cc) (λ e. cc)) is)
refuses_due Device fault name media start shelf due is = inr (inl refl)
refuses_due Memory fault name media start shelf due is = inr (inr refl)

-- what is due once the label was read
pub due_behind_label : (fault : AdoptFault) (name media : List ℕ) (start : ℕ) (shelf : Shelf) (held : Held) (label : VolumeLabel) → (fault ≢ NotOurVolume) × (fault ≢ OtherMedia)
    → shelf.volume name ≡ Some held → IsVolumeOf name held.bytes label → label.media ≡ media → (fault ≡ BlocksOfThisRun → HasBlockOfThisRun start held.bytes label)
    → (fault ≡ NotOnShelf → shelf.volume name ≡ None) → fault ≢ Device → fault ≢ Memory → IsDue fault name media start shelf
due_behind_label NotOnShelf name media start shelf held label others there ours same this_run absent a b = absent refl
due_behind_label NotOurVolume name media start shelf held label others there ours same this_run absent a b = absurd (others.0 refl)
due_behind_label OtherMedia name media start shelf held label others there ours same this_run absent a b = absurd (others.1 refl)
due_behind_label BlocksOfThisRun name media start shelf held label others there ours same this_run absent a b = (held, there, (label, ours, same, this_run refl))
due_behind_label Device name media start shelf held label others there ours same this_run absent a b = absurd (a refl)
due_behind_label Memory name media start shelf held label others there ours same this_run absent a b = absurd (b refl)

-- What is adopted.

pub adoptable_of : (name media : List ℕ) (start : ℕ) (bytes : List ℕ) (v : VolumeView) (label : VolumeLabel) → IsVolumeOf name bytes label → label.media ≡ media → v.pool ≡ label.pool
    → v.first ≡ length (label_block label) → GoesUpTo start bytes label v.end v.next_number v.last → NoBlockNext v.next_number (drop v.end bytes) → IsAdoptable name media start bytes v
adoptable_of name media start bytes v label ours same pool first goes ended = record {
  label = label;
  blocks = goes.blocks;
  tail = drop v.end bytes;
  ours = ours;
  media_is = same;
  whole = record { image = goes.image; ended = subst (λ n. NoBlockNext n (drop v.end bytes)) goes.next_is ended };
  earlier = goes.earlier;
  pool_is = pool;
  end_is = goes.end_is;
  next_is = goes.next_is;
  first_is = first;
  last_is = goes.last_is;
}

-- the bytes up to where the blocks end are a volume with those blocks and no tail
pub cut_image : (bytes : List ℕ) (label : VolumeLabel) (blocks : List Block) (tail : List ℕ) (end : ℕ) → VolumeImage bytes label blocks tail → end ≡ volume_end label blocks
    → VolumeImage (take end bytes) label blocks []
cut_image bytes label blocks tail end is end_is = record {
  label_is = is.label_is;
  blocks_are = is.blocks_are;
  bytes_are = ap (λ n. take n bytes) end_is ∙ bytes_before bytes label blocks tail is ∙ sym (append-nil (label_and_blocks label blocks));
}

pub adopts_of : (name media : List ℕ) (start : ℕ) (v : VolumeView) (old mid new : Shelf) (held : Held) → old.volume name ≡ Some held → IsAdoptable name media start held.bytes v → v.name ≡ name → v.media ≡ media
    → SameShelf old mid → CutsAt v.end name mid new → Adopts name media start v old new
adopts_of name media start v old mid new held there is named of_media same cuts =
    let there_mid : mid.volume name ≡ Some held = same name ∙ there in
    let kept = take v.end held.bytes in
    let image = cut_image held.bytes is.label is.blocks is.tail v.end is.whole.image is.end_is in
    let long : length kept ≡ v.end = ap length (image.bytes_are ∙ append-nil (label_and_blocks is.label is.blocks)) ∙ sym is.end_is in
    let here : new.volume name ≡ Some (record { bytes = kept; stable = v.end }) = cuts.here held there_mid ∙ ap (λ n. Some (record { bytes = kept; stable = n })) long in
    record {
      held = held;
      there = there;
      found = is;
      cut = here;
      stands = record {
        held = record { bytes = kept; stable = v.end };
        there = ap new.volume named ∙ here;
        image = image;
        name_is = named ∙ sym is.ours.name_is;
        pool_is = is.pool_is;
        media_is = of_media ∙ sym is.media_is;
        end_is = is.end_is;
        next_is = is.next_is;
        first_is = is.first_is;
        no_tail = λ status. refl;
      };
      lasts = cuts.lasts held there_mid;
      others = λ other o. cuts.others other o ∙ same other;
    }

-- bytes that are kept up to a place are kept up to a lower one
pub KeepsUpTo-lower : (low to : ℕ) (name : List ℕ) (old mid new : Shelf) → low ≤ to → SameShelf old mid → KeepsUpTo to name mid new → KeepsUpTo low name old new
KeepsUpTo-lower low to name old mid new less same keeps = record {
  here = λ held there. (
      let one = keeps.here held (same name ∙ there) in
      (one.0, one.1, BeginsWith-lower one.0.bytes held.bytes low to less one.2)
      );
  others = λ other o. keeps.others other o ∙ same other;
}
  where
    BeginsWith-lower : (bytes whole : List ℕ) (low to : ℕ) → low ≤ to → BeginsWith bytes (take to whole) → BeginsWith bytes (take low whole)
    BeginsWith-lower bytes whole low to less begins = BeginsWith-trans bytes (take to whole) (take low whole) begins (front_of_front whole low to less)
      where
        front_of_front : (whole : List ℕ) (low to : ℕ) → low ≤ to → BeginsWith (take to whole) (take low whole)
        front_of_front whole low to less =
            let same = take-take low to whole less in
            ap (λ (l : List ℕ). take (length l) (take to whole)) (sym same) ∙ BeginsWith-own_take (take to whole) low ∙ same

pub KeepsUpTo-same : (to : ℕ) (name : List ℕ) (old new : Shelf) → SameShelf old new → KeepsUpTo to name old new
KeepsUpTo-same to name old new same = record {
  here = λ held there. (held, same name ∙ there, BeginsWith-own_take held.bytes to);
  others = λ other o. same other;
}

-- a volume of a name is one
pub same_bytes : (shelf : Shelf) (name : List ℕ) (held other : Held) (label : VolumeLabel) (blocks : List Block) (tail : List ℕ) → shelf.volume name ≡ Some held → shelf.volume name ≡ Some other
    → VolumeImage held.bytes label blocks tail → VolumeImage other.bytes label blocks tail
same_bytes shelf name held other label blocks tail there here is =
    let same = ap (λ (h : Held). h.bytes) (same_held shelf name held other there here) in
    subst (λ bytes. VolumeImage bytes label blocks tail) same is

-- if nothing changed, whole blocks are kept
pub KeepsWholeBlocks-same : (name : List ℕ) (old new : Shelf) → SameShelf old new → StillLasts old new → KeepsWholeBlocks name old new
KeepsWholeBlocks-same name old new same still held there label blocks tail is =
    (KeepsUpTo-same (volume_end label blocks) name old new same, StillLastsBelow-of (volume_end label blocks) name old new still)

-- and so they are by what keeps a volume up to the end of its last whole block
pub KeepsWholeBlocks-cut : (name media : List ℕ) (start : ℕ) (v : VolumeView) (to : ℕ) (old mid new : Shelf) (held : Held) → old.volume name ≡ Some held → IsAdoptable name media start held.bytes v → to ≡ v.end
    → SameShelf old mid → StillLasts old mid → KeepsUpTo to name mid new → StillLastsBelow to name mid new → KeepsWholeBlocks name old new
KeepsWholeBlocks-cut name media start v to old mid new held there found at same still keeps below other here label blocks tail is =
    let end = volume_end label blocks in (
      KeepsUpTo-lower end to name old mid new within same keeps,
      StillLastsBelow-trans end name old mid new (StillLastsBelow-of end name old mid still) (StillLastsBelow-lower end to name mid new within below),
    )
  where
    within : volume_end label blocks ≤ to
    within =
        omega (arith, at, found.end_is, end_within held.bytes label found.label blocks found.blocks tail found.tail (same_bytes old name other held label blocks tail here there is) found.whole)
