-- Reads of sessions that have their lists.
use Rattle.std.proofs.Common.{◌≡◌, ℕ, refl, sym, ap, subst, ◌∙◌, inl, inr, arith, true, Option, Some, None, List, Result, slice_get, slice_set}
use Rattle.sd_base.specs.Record.{Record}
use Rattle.sd_base.specs.declared.number.SessionKey.{SessionKey}
use Rattle.sd_base.specs.declared.refusal.Refusal.{Refusal}
use Rattle.sd_driver.specs.Meaning.{Meaning}
use Rattle.sd_driver.specs.Shelf.{SameShelf, Shelf}
use Rattle.sd_drive.specs.View.{DriveIs}
use Rattle.sd_readback.specs.Reading.{Reads, Volumes, bytes_of, volumes_on}
use Rattle.sd_readback.specs.declared.read.ReadEnd.{ReadEnd}
use Rattle.sd_span.specs.declared.span.Span.{Span}
use Rattle.sd_theorem.proofs.Read.{own_gone, world_gives}
use Rattle.sd_world.specs.Drives.{was_purged}
use Rattle.sd_world.specs.Reading.{ReadsWorld}
use Rattle.sd_world.specs.World.{WorldView, BayView, IsOnline, with_drive}
use Rattle.sd_world.proofs.Lookups.{get_set-other, get_set-same, one_or_two}
use Rattle.sd_memdrive.specs.Drive.{meaning_of}
use Rattle.sd_memdrive.specs.declared.drive.MemDrive.{MemDrive}
use Rattle.sd_returned.specs.Backs.{Answers, ReadsAsked}
use Rattle.sd_returned.specs.Listed.{AllHonest, HasList, KeepsLists, ListsAreRead, ReadingKeepsLists}
use Rattle.sd_returned.specs.declared.asked.Asked.{Asked}
use Rattle.sd_returned.specs.declared.asked.Wanted.{Wanted}
use Rattle.sd_returned.specs.declared.back.JobBack.{JobBack}
use Rattle.sd_returned.specs.declared.back.ReadBack.{ReadBack}

-- A drive is read.

-- shelves with the same volumes have the same bytes
same_volumes : (old new : Shelf) → SameShelf old new → volumes_on old ≡ volumes_on new
same_volumes old new same = λ i. λ name. bytes_of (sym (same name) i)

module _ {D : Type 0} (meaning : D → Meaning) (w : WorldView D) (drive at : ℕ) (bay : BayView D) (d after : DriveIs D) (online : IsOnline w drive at bay d)
    (same : SameShelf (meaning d.device).shelf (meaning after.device).shelf) where
  -- who had a list by one drive has it by that drive as the read left it
  keeps_list : (key : SessionKey) (spans : List Span) (records : List Record) → HasList meaning w key spans records → HasList meaning (with_drive at bay after w) key spans records
  keeps_list key spans records l = elim (one_or_two l.at at) [
    | inl here ↦
        let one : l.bay ≡ bay = cc (sym l.online.there ∙ ap (slice_get w.bays) here ∙ online.there) in
        let own : l.d ≡ d = cc (sym l.online.online ∙ ap (λ (b : BayView D). b.drive) one ∙ online.online) in
        let bay' : BayView D = record bay { drive = Some after } in
        let reads : Reads (volumes_on (meaning d.device).shelf) key spans records true = subst (λ (x : DriveIs D). Reads (volumes_on (meaning x.device).shelf) key spans records true) own l.reads in
        record {
          e = l.e;
          there = l.there;
          key_is = l.key_is;
          closed = l.closed;
          count_is = l.count_is;
          bytes_are = l.bytes_are;
          at = l.at;
          bay = bay';
          d = after;
          online = record {
            number = l.online.number;
            there = ap (λ k. slice_get (slice_set w.bays at bay') k) here ∙ get_set-same w.bays at bay' bay online.there;
            online = refl;
          };
          claimed = l.claimed;
          reads = subst (λ (v : Volumes). Reads v key spans records true) (same_volumes (meaning d.device).shelf (meaning after.device).shelf same) reads;
        }
    | inr other ↦ record {
      e = l.e;
      there = l.there;
      key_is = l.key_is;
      closed = l.closed;
      count_is = l.count_is;
      bytes_are = l.bytes_are;
      at = l.at;
      bay = l.bay;
      d = l.d;
      online = record { number = l.online.number; there = get_set-other w.bays at l.at (record bay { drive = Some after }) other ∙ l.online.there; online = l.online.online };
      claimed = l.claimed;
      reads = l.reads;
    }
  ]

-- A world is read.

read_keeps : {D : Type 0} (meaning : D → Meaning) (old new : WorldView D) (key : SessionKey) (spans : List Span) (got got' : List Record) (result : Result ReadEnd Refusal)
    → AllHonest meaning → ReadsWorld meaning key spans got got' result old new
    → (k : SessionKey) (ss : List Span) (records : List Record) → HasList meaning old k ss records → HasList meaning new k ss records
read_keeps meaning old new key spans got got' result honest (inl r) k ss records l = subst (λ x. HasList meaning x k ss records) (sym r.4) l
read_keeps meaning old new key spans got got' result honest (inr r) k ss records l =
    subst (λ x. HasList meaning x k ss records) (sym r.8) (keeps_list meaning old r.1 r.2 r.3 r.4 r.5 r.6 (r.7.device.same (honest r.4.device)) k ss records l)

pub reading_keeps_lists : {D : Type 0} → ReadingKeepsLists D
reading_keeps_lists meaning old new key spans got got' result honest read k ss records l =
    read_keeps meaning old new key spans got got' result honest read.reads k ss records l

pub lists_are_read : {D : Type 0} → ListsAreRead D
lists_are_read meaning old new key spans records got got' result honest sound l read =
    let fit = read.fit l.e l.there in
    let count = fit.0 in
    let bytes = fit.1 in
    let kept = own_gone old key spans l.e sound.rules l.there l.key_is ∙ ap was_purged l.closed in
    (world_gives meaning old new key spans records true got got' result l.e.drive l.at l.bay l.d l.online l.claimed (honest l.d.device) kept l.reads
    (omega (arith, l.count_is, count)) (omega (arith, l.bytes_are, bytes)) read.reads).gives

-- Answers.

-- what is read of a later world that has every list of an earlier one
reads_before : (old new : WorldView MemDrive) (of : Option Wanted) (read : Option ReadBack) → KeepsLists (λ d. meaning_of d) old new → ReadsAsked new of read → ReadsAsked old of read
reads_before old new None None keeps reads = tt
reads_before old new None (Some r) keeps reads = reads
reads_before old new (Some wanted) None keeps reads = reads
reads_before old new (Some wanted) (Some r) keeps reads = record { key_is = reads.key_is; gives = λ records has. reads.gives records (keeps wanted.key wanted.spans records has) }

-- answers that one of them
pub answers_before : (old new : WorldView MemDrive) (asked : Asked) (back : JobBack) → KeepsLists (λ d. meaning_of d) old new → Answers new asked back → Answers old asked back
answers_before old new asked back keeps a =
    record { stop_is = a.stop_is; taken_is = a.taken_is; spools_is = a.spools_is; read = reads_before old new asked.of back.read keeps a.read }
