-- What a note says of a volume, against what stands on it.
use Rattle.std.proofs.Common.{◌≡◌, ◌≢◌, ◌⊎◌, inl, inr, ℕ, ◌+◌, ◌<◌, ◌≤◌, List, [], length, take, drop, ap, sym, ◌∙◌, subst, arith, Option, Some, None}
use Rattle.std.specs.Prelude.{IfSome}
use Rattle.std.proofs.lemmas.List.{length-append, length-take, length-drop}
use Rattle.sd_block.specs.declared.head.Head.{Head}
use Rattle.sd_driver.proofs.Lasting.{BeginsWith-length, stop_leaves}
use Rattle.sd_driver.specs.Shelf.{Shelf, Held, SameShelf, BeginsWith, Lasts, StillLastsBelow, AfterStop}
use Rattle.sd_label.specs.declared.label.VolumeLabel.{VolumeLabel}
use Rattle.sd_note.specs.declared.note.Note.{Note}
use Rattle.sd_volume.specs.Image.{Block, BeginsWithBlock, VolumeImage, label_block, volume_end, LastBegins, images, label_and_blocks}
use Rattle.sd_volume.specs.Adopt.{BlockStandsAt, CutsAt, GoesUpTo, IsDue, IsVolumeOf}
use Rattle.sd_volume.specs.declared.fault.AdoptFault.{AdoptFault}
use Rattle.sd_volume.specs.declared.fault.AdoptFault.TheVariants.{NotOnShelf, NotOurVolume, OtherMedia, BlocksOfThisRun, Device, Memory}
use Rattle.sd_volume.specs.Noted.{IsTrueOf, IsTrueNote, EndsWithBlock, Fits, FitsNote, IsTrusted, IsFound, CutsFound}
use Rattle.sd_volume.specs.Volume.{VolumeView}
use Rattle.sd_volume.proofs.ImageLemmas.{length-image, label_block-least, one_label, label_in_front, kept_blocks_stand}
use Rattle.sd_volume.proofs.AdoptLemmas.{one_block_at}
use Rattle.sd_volume.proofs.DueLemmas.{same_held, label_and_rest}

-- a block that stands somewhere ends where it ends
pub ends_with_block : (start : ℕ) (bytes : List ℕ) (last number : ℕ) (head : Head) (end next : ℕ) → BlockStandsAt last number bytes head → head.key.time < start
    → end ≡ last + head.size → next ≡ number + 1 → EndsWithBlock start bytes last end next
ends_with_block start bytes last number head end next stands earlier end_is next_is = record {
  key = head.key;
  number = number;
  body = stands.0;
  block = stands.1;
  earlier = earlier;
  end_is = end_is ∙ ap (λ n. last + n) stands.2;
  next_is = next_is;
}

-- and nowhere else
pub is_that_block : (start : ℕ) (bytes : List ℕ) (last number : ℕ) (head : Head) (end next : ℕ) → BlockStandsAt last number bytes head → EndsWithBlock start bytes last end next
    → (head.key.time < start) × (last + head.size ≡ end)
is_that_block start bytes last number head end next stands ends =
    let one = one_block_at (drop last bytes) head.key ends.key number ends.number stands.0 ends.body stands.1 ends.block in
    let key = ap (λ (b : Block). b.key.time) one.block_is in
    let body = ap (λ (b : Block). length b.body) one.block_is in
    (omega (arith, key, ends.earlier), omega (arith, body, stands.2, ends.end_is))

-- the last of the blocks that were read on, or the noted one, or the label block
pub found_ends : (start : ℕ) (bytes : List ℕ) (label first last end next klast kend knext : ℕ)
    → EndsWithBlock start bytes last end next ⊎ ((last ≡ klast) × (end ≡ kend) × (next ≡ knext))
    → EndsWithBlock start bytes klast kend knext ⊎ ((klast ≡ 0) × (kend ≡ first) × (knext ≡ 1))
    → first ≡ label → EndsWithBlock start bytes last end next ⊎ ((last ≡ 0) × (end ≡ label) × (next ≡ 1))
found_ends start bytes label first last end next klast kend knext (inl block) known first_is = inl block
found_ends start bytes label first last end next klast kend knext (inr same) (inl block) first_is =
    inl (record {
      key = block.key;
      number = block.number;
      body = block.body;
      block = subst (λ n. BeginsWithBlock (drop n bytes) block.key block.number block.body) (sym same.0) block.block;
      earlier = block.earlier;
      end_is = same.1 ∙ block.end_is ∙ ap (λ n. n + (24 + length block.body)) (sym same.0);
      next_is = same.2 ∙ block.next_is;
    })
found_ends start bytes label first last end next klast kend knext (inr same) (inr none) first_is =
    inr (same.0 ∙ none.0, same.1 ∙ none.1 ∙ first_is, same.2 ∙ none.2)

-- a note that fits and is trusted tells how far the blocks go
pub goes_as_noted : (note : Note) (name : List ℕ) (start : ℕ) (shelf : Shelf) (held : Held) (label : VolumeLabel) → Fits note start held.bytes label → IsVolumeOf name held.bytes label
    → shelf.volume name ≡ Some held → (FitsNote note name start shelf → IsTrueNote note name shelf)
    → GoesUpTo start held.bytes label note.end note.next_number note.last
goes_as_noted note name start shelf held label fits ours there trusted =
    let given = trusted (record { held = held; there = there; label = label; ours = ours; fits = fits }) in
    let same = same_held shelf name given.0 held given.1 there in
    let true_of : IsTrueOf note held.bytes = subst (λ (h : Held). IsTrueOf note h.bytes) same given.2 in
    let one : true_of.label ≡ label = (one_label true_of.label label _ _ true_of.image.label_is ours.label_is
    (sym (label_in_front held.bytes true_of.label true_of.blocks (drop note.end held.bytes) true_of.image) ∙ label_and_rest name held.bytes label ours)).0 in
    record {
      blocks = true_of.blocks;
      image = subst (λ l. VolumeImage held.bytes l true_of.blocks (drop note.end held.bytes)) one true_of.image;
      end_is = true_of.end_is ∙ ap (λ l. volume_end l true_of.blocks) one;
      next_is = true_of.next_is;
      last_is = subst (λ l. LastBegins l true_of.blocks note.last) one true_of.last_is;
      earlier = λ k d lt. omega (arith, true_of.times k d lt, fits.may.time);
    }

-- while the shelf stays, a note is as trusted as it was
pub IsTrusted-same : (note : Option Note) (name : List ℕ) (start : ℕ) (old new : Shelf) → SameShelf old new → IsTrusted note name start old → IsTrusted note name start new
IsTrusted-same None name start old new same trusted = tt
IsTrusted-same (Some note) name start old new same trusted = λ fits. (
    let given = trusted (record { held = fits.held; there = sym (same name) ∙ fits.there; label = fits.label; ours = fits.ours; fits = fits.fits }) in
    (given.0, same name ∙ given.1, given.2)
    )

-- what is due of a shelf is due of the same shelf
pub due_same : (fault : AdoptFault) (name media : List ℕ) (start : ℕ) (old new : Shelf) → SameShelf old new → IsDue fault name media start new → IsDue fault name media start old
due_same NotOnShelf name media start old new same due = sym (same name) ∙ due
due_same NotOurVolume name media start old new same due = (due.0, sym (same name) ∙ due.1, due.2)
due_same OtherMedia name media start old new same due = (due.0, sym (same name) ∙ due.1, due.2)
due_same BlocksOfThisRun name media start old new same due = (due.0, sym (same name) ∙ due.1, due.2)
due_same Device name media start old new same due = due
due_same Memory name media start old new same due = due

-- what a failed cut may answer is due, unless the device failed or memory ran out
pub cut_due : (fault : AdoptFault) (name media : List ℕ) (start : ℕ) (shelf : Shelf) → (fault ≡ NotOnShelf) ⊎ (fault ≡ Device) ⊎ (fault ≡ Memory)
    → (fault ≡ NotOnShelf → shelf.volume name ≡ None) → fault ≢ Device → fault ≢ Memory → IsDue fault name media start shelf
cut_due fault name media start shelf (inl e) absent a b = subst (λ f. IsDue f name media start shelf) (sym e) (absent e)
cut_due fault name media start shelf (inr (inl e)) absent a b = absurd (a e)
cut_due fault name media start shelf (inr (inr e)) absent a b = absurd (b e)

-- Where what was found ends.

pub ends_within : (start : ℕ) (bytes : List ℕ) (last end next : ℕ) → EndsWithBlock start bytes last end next → end ≤ length bytes
ends_within start bytes last end next ends =
    omega (arith, ends.end_is, length-image _ ends.key ends.number ends.body ends.block, length-take (24 + length ends.body) (drop last bytes), length-drop last bytes)

pub found_within : (name media : List ℕ) (start : ℕ) (bytes : List ℕ) (v : VolumeView) → IsFound name media start bytes v → v.end ≤ length bytes
found_within name media start bytes v found = elim found.ends [
  | inl block ↦ ends_within start bytes v.last v.end v.next_number block
  | inr label ↦ omega (arith, label.1, BeginsWith-length bytes (label_block found.label) found.ours.begins)
]

pub cuts_found : (name media : List ℕ) (start : ℕ) (v : VolumeView) (old mid new : Shelf) (held : Held) → old.volume name ≡ Some held → IsFound name media start held.bytes v
    → SameShelf old mid → CutsAt v.end name mid new → CutsFound name media start v old new
cuts_found name media start v old mid new held there found same cuts =
    let there_mid : mid.volume name ≡ Some held = same name ∙ there in
    let kept = take v.end held.bytes in
    let long : length kept ≡ v.end = omega (arith, length-take v.end held.bytes, found_within name media start held.bytes v found) in
    record {
      held = held;
      there = there;
      found = found;
      cut = cuts.here held there_mid ∙ ap (λ n. Some (record { bytes = kept; stable = n })) long;
      lasts = cuts.lasts held there_mid;
    }

-- a note that is true is trusted
pub IsTrusted-known : (note : Option Note) (name : List ℕ) (start : ℕ) (shelf : Shelf) → IfSome note (λ given. IsTrueNote given name shelf) → IsTrusted note name start shelf
IsTrusted-known None name start shelf known = tt
IsTrusted-known (Some note) name start shelf known = λ fits. known

-- While the bytes last.

pub true_after : (note : Note) (name : List ℕ) (since : ℕ) (shelf left : Shelf) (bytes : List ℕ) → IsTrueOf note bytes → Lasts since name (take note.end bytes) shelf → AfterStop since shelf left
    → IsTrueNote note name left
true_after note name since shelf left bytes is lasts after =
    let end = volume_end is.label is.blocks in
    let front = label_and_blocks is.label is.blocks in
    let long : 36 ≤ end = omega (arith, label_block-least is.label, length-append (label_block is.label) (images 1 is.blocks)) in
    let within : end ≤ length bytes = omega (arith, ap length is.image.bytes_are, length-append front (drop note.end bytes)) in
    let some : take note.end bytes ≢ [] = λ none. absurd (omega (arith, ap length none, length-take note.end bytes, is.end_is, long, within)) in
    let kept = stop_leaves since name (take note.end bytes) shelf left after lasts some in
    let begins : BeginsWith kept.0.bytes (take end bytes) = subst (λ n. BeginsWith kept.0.bytes (take n bytes)) is.end_is kept.2 in
    let image = kept_blocks_stand bytes kept.0.bytes is.label is.blocks (drop note.end bytes) is.image begins in (
      kept.0,
      kept.1,
      record {
        label = is.label;
        blocks = is.blocks;
        image = subst (λ n. VolumeImage kept.0.bytes is.label is.blocks (drop n kept.0.bytes)) (sym is.end_is) image;
        moment_is = is.moment_is;
        end_is = is.end_is;
        next_is = is.next_is;
        last_is = is.last_is;
        times = is.times;
      },
    )

pub true_note_stays : (note : Note) (name : List ℕ) (old new : Shelf) (held : Held) (since : ℕ) → old.volume name ≡ Some held → IsTrueOf note held.bytes
    → Lasts since name (take note.end held.bytes) old → StillLastsBelow note.end name old new
    → IsTrueNote note name new × ((left : Shelf) → AfterStop since new left → IsTrueNote note name left)
true_note_stays note name old new held since there is lasts still =
    let still_last = still.below since (take note.end held.bytes) (omega (arith, length-take note.end held.bytes)) lasts in
    let of : (left : Shelf) → AfterStop since new left → IsTrueNote note name left = λ left after. true_after note name since new left held.bytes is still_last after in
    (of new (λ other bytes own. own.now), of)
