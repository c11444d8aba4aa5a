-- If spans meet a fault, they read to no list.
use Rattle.std.proofs.Common.{◌≡◌, ◌≢◌, ℕ, ◌+◌, refl, sym, ap, subst, ◌∙◌, arith, inl, inr, ◌⊎◌, List, [], ◌∷◌, ◌++◌, length, take, Bool}
use Rattle.std.specs.Prelude.{Option}
use Rattle.std.proofs.lemmas.List.{append_assoc, append-nil, length-append, take_at, take-append-le}
use Rattle.std.proofs.lemmas.Grind.{flat_map-append}
use Rattle.std.proofs.lemmas.List.Sums.{sum_by-append}
use Rattle.sd_base.specs.Limits.{most_block}
use Rattle.sd_base.specs.Record.{Record}
use Rattle.sd_base.specs.declared.number.SessionKey.{SessionKey}
use Rattle.sd_block.specs.Image.{block_image}
use Rattle.sd_block.specs.Head.{IsHeadOf}
use Rattle.sd_block.specs.Fault.{HasBadSum}
use Rattle.sd_block.specs.declared.head.Head.{Head}
use Rattle.sd_block.proofs.HeaderLemmas.{SaysFields-same, SaysSize-same}
use Rattle.sd_block.proofs.ImageLemmas.{length-block_image, IsHeadOf-image, HasSum-image}
use Rattle.sd_label.specs.Cutting.{total_bytes, WholeOf}
use Rattle.sd_label.proofs.CuttingLemmas.{front_nil, holds_front}
use Rattle.sd_span.specs.declared.span.Span.{Span}
use Rattle.sd_readback.specs.declared.fault.ReadFault.{ReadFault}
use Rattle.sd_readback.specs.declared.fault.ReadFault.TheVariants.{BadSpan, VolumeNotOnShelf, SpanEndsEarly, DamagedBlock, Device, Memory}
use Rattle.sd_volume.specs.Image.{Block, images, AreImages}
use Rattle.sd_readback.specs.Reading.{blocks_of}
use Rattle.sd_readback.specs.Reading.{Volumes, IsPartOf, SpanHolds, AllHold}
use Rattle.sd_readback.specs.Faults.{AreCountable, AreReadable, last_number, ComesNext, BeginsWithBlock, HasBadHead, HasBadBlock, BeginsWithNoBlock, BeginsWithRefused, StopsWithin, StopsInPart, CantRead, FaultIsNoReading}
use Rattle.sd_readback.proofs.ReadingLemmas.{joined_blocks, part_one, part_within, same_bytes, all_hold_one, hold_apart, blocks_of-append}
use Rattle.sd_volume.proofs.ImageLemmas.{AreImages-behind, one_block_there}
use Rattle.sd_readback.proofs.BlockLemmas.{images_front}

-- The front of what can be read can be read.

pub total_bytes-append : (xs ys : List Record) → total_bytes (xs ++ ys) ≡ total_bytes xs + total_bytes ys
total_bytes-append xs ys = sum_by-append (λ (r : Record). length r.bytes) xs ys

countable_front : (xs ys : List Record) → AreCountable (xs ++ ys) → AreCountable xs
countable_front xs ys are =
    let long = length-append xs ys in
    let large = total_bytes-append xs ys in
    let few = are.0 in
    let small = are.1 in
    (omega arith, omega arith)

readable_front : (xs ys : List (List ℕ)) → AreReadable (xs ++ ys) → AreReadable xs
readable_front xs ys (inl none) = inl (front_nil xs ys none)
readable_front [] ys (inr h) = inl refl
readable_front (x ∷ xs) ys (inr h) =
    let front = holds_front (x ∷ xs) ys h.0 h.1 (λ e. cc) h.2 in
    inr (front.whole, front.standing, front.holds, countable_front front.whole front.others (subst AreCountable front.records_split h.3))

pub readable_blocks : (key : SessionKey) (xs ys : List Block) → AreReadable (blocks_of key (xs ++ ys)) → AreReadable (blocks_of key xs)
readable_blocks key xs ys are = readable_front (blocks_of key xs) (blocks_of key ys) (subst AreReadable (blocks_of-append key xs ys) are)

whole_readable : (bodies : List (List ℕ)) (records : List Record) (ended : Bool) → WholeOf bodies records ended → AreCountable records → AreReadable bodies
whole_readable bodies records ended w are = inr (records, w.0, w.1, are)

-- If a block comes next, nothing is wrong with the bytes.

pub image_size : (bytes : List ℕ) (b : Block) (number : ℕ) (behind : List ℕ) → bytes ≡ block_image b.key number b.body ++ behind
    → length (block_image b.key number b.body) + length behind ≡ length bytes
image_size bytes b number behind e = sym (ap length e ∙ length-append (block_image b.key number b.body) behind)

head_of_block : (bytes : List ℕ) (last : Option ℕ) (b : Block) (number : ℕ) (behind : List ℕ) → BeginsWithBlock last bytes b number behind
    → IsHeadOf most_block bytes (record { key = b.key; number = number; size = length (block_image b.key number b.body) })
head_of_block bytes last b number behind begins =
    let image = block_image b.key number b.body in
    let long = length-block_image b.key number b.body in
    let front : take 24 bytes ≡ take 24 image = ap (take 24) begins.bytes_are ∙ take-append-le 24 image behind (omega arith) in
    IsHeadOf-image most_block image bytes b.key number b.body begins.block_is front

same_head : (bytes : List ℕ) (last : Option ℕ) (b : Block) (number : ℕ) (behind : List ℕ) (head : Head) → BeginsWithBlock last bytes b number behind → IsHeadOf most_block bytes head
    → head ≡ record { key = b.key; number = number; size = length (block_image b.key number b.body) }
same_head bytes last b number behind head begins is =
    SaysFields-same bytes _ _ is.fields (head_of_block bytes last b number behind begins).fields

pub no_bad_head : (bytes : List ℕ) (head : Head) → IsHeadOf most_block bytes head → HasBadHead bytes → ⊥
no_bad_head bytes head own (inl bad) = bad own.block_id
no_bad_head bytes head own (inr bad) =
    let size = bad.1 in
    let same = SaysSize-same bytes size.0 head.size size.1.0 (own.fields.fits.size_fits, own.fields.size) in
    let least = own.least in
    let most = own.most in
    let outside = size.1.1 in
    omega (arith, outside)

no_bad_block : (bytes : List ℕ) (last : Option ℕ) (b : Block) (number : ℕ) (behind : List ℕ) (head : Head) → BeginsWithBlock last bytes b number behind → IsHeadOf most_block bytes head
    → HasBadBlock last bytes head → ⊥
no_bad_block bytes last b number behind head begins is (inl bad) =
    let image = block_image b.key number b.body in
    let size = ap (λ (h : Head). h.size) (same_head bytes last b number behind head begins is) in
    let there : take head.size bytes ≡ image = ap (take head.size) begins.bytes_are ∙ take_at image behind head.size (sym size) in
    subst HasBadSum there bad (HasSum-image b.key number b.body)
no_bad_block bytes last b number behind head begins is (inr other) =
    other (subst (ComesNext last) (sym (ap (λ (h : Head). h.number) (same_head bytes last b number behind head begins is))) begins.next_is)

pub block_begins : (fault : ReadFault) (last : Option ℕ) (bytes : List ℕ) (b : Block) (number : ℕ) (behind : List ℕ) → BeginsWithBlock last bytes b number behind
    → BeginsWithNoBlock fault last bytes → ⊥
block_begins BadSpan last bytes b number behind begins none =
    let own = (head_of_block bytes last b number behind begins).least in
    let whole = image_size bytes b number behind begins.bytes_are in
    elim none [
      | inl few ↦ omega arith
      | inr h ↦ let size = ap (λ (g : Head). g.size) (same_head bytes last b number behind h.0 begins h.1) in let short = h.2 in omega arith
    ]
block_begins DamagedBlock last bytes b number behind begins none =
    elim (none.1) [
      | inl bad ↦ no_bad_head bytes _ (head_of_block bytes last b number behind begins) bad
      | inr h ↦ no_bad_block bytes last b number behind h.0 begins h.1 h.3
    ]
block_begins VolumeNotOnShelf last bytes b number behind begins none = none
block_begins SpanEndsEarly last bytes b number behind begins none = none
block_begins Device last bytes b number behind begins none = none
block_begins Memory last bytes b number behind begins none = none

-- The next block of a span.

next_number : (number other : ℕ) (done : List Block) → ((done ≡ []) ⊎ (number ≡ other)) → ComesNext (last_number number done) (other + length done)
next_number number other [] same = tt
next_number number other (d ∷ ds) (inl none) = absurd (cc)
next_number number other (d ∷ ds) (inr same) = omega arith

-- after the blocks that are done comes another, with which all can be read
pub stop_refuted : (key : SessionKey) (before : List Block) (last : Option ℕ) (m : Block) (at : ℕ) (rest behind : List ℕ) (fault : ReadFault)
    → BeginsWithBlock last rest m at behind → AreReadable (blocks_of key (before ++ m ∷ []))
    → (BeginsWithNoBlock fault last rest ⊎ ((fault ≡ DamagedBlock) × BeginsWithRefused key before last rest)) → ⊥
stop_refuted key before last m at rest behind fault own readable (inl none) = block_begins fault last rest m at behind own none
stop_refuted key before last m at rest behind fault own readable (inr refused) =
    let r = refused.1 in
    let one = one_block_there m r.block at r.number behind r.behind own.block_is r.begins.block_is (sym own.bytes_are ∙ r.begins.bytes_are) in
    r.refused (subst (λ b. AreReadable (blocks_of key (before ++ b ∷ []))) one.block_is readable)

-- a part of what can be read
pub next_readable : (key : SessionKey) (earlier done : List Block) (m : Block) (ms later : List Block)
    → AreReadable (blocks_of key (earlier ++ ((done ++ m ∷ ms) ++ later))) → AreReadable (blocks_of key ((earlier ++ done) ++ m ∷ []))
next_readable key earlier done m ms later readable =
    let order : earlier ++ ((done ++ m ∷ ms) ++ later) ≡ ((earlier ++ done) ++ m ∷ []) ++ (ms ++ later) = simp append_assoc in
    readable_blocks key ((earlier ++ done) ++ m ∷ []) (ms ++ later) (subst (λ l. AreReadable (blocks_of key l)) order readable)

-- what is left after the blocks that are done begins with the next of them
pub left_begins : (number other : ℕ) (done : List Block) (m : Block) (ms : List Block) (rest tail : List ℕ) → AreImages other (done ++ m ∷ ms)
    → rest ≡ images (other + length done) (m ∷ ms) ++ tail → ((done ≡ []) ⊎ (number ≡ other))
    → BeginsWithBlock (last_number number done) rest m (other + length done) (images ((other + length done) + 1) ms ++ tail)
left_begins number other done m ms rest tail are e same = record {
  bytes_are = e ∙ append_assoc (block_image m.key (other + length done) m.body) (images ((other + length done) + 1) ms) tail;
  block_is = (AreImages-behind other done (m ∷ ms) are).0;
  next_is = next_number number other done same;
}

-- after the blocks that are done the span holds another, or is at its end
stops_not : (key : SessionKey) (earlier later done more : List Block) (number other : ℕ) (rest : List ℕ) (fault : ReadFault)
    → AreImages other (done ++ more) → rest ≡ images (other + length done) more → ((done ≡ []) ⊎ (number ≡ other))
    → AreReadable (blocks_of key (earlier ++ ((done ++ more) ++ later))) → rest ≢ []
    → (BeginsWithNoBlock fault (last_number number done) rest ⊎ ((fault ≡ DamagedBlock) × BeginsWithRefused key (earlier ++ done) (last_number number done) rest)) → ⊥
stops_not key earlier later done [] number other rest fault are e same readable left stops = left e
stops_not key earlier later done (m ∷ ms) number other rest fault are e same readable left stops =
    stop_refuted key (earlier ++ done) (last_number number done) m (other + length done) rest _ fault
    (left_begins number other done m ms rest [] are (e ∙ sym (append-nil (images (other + length done) (m ∷ ms)))) same) (next_readable key earlier done m ms later readable) stops

stops_within_not : (key : SessionKey) (earlier blocks later : List Block) (other : ℕ) (fault : ReadFault)
    → AreImages other blocks → StopsWithin key earlier (images other blocks) fault
    → AreReadable (blocks_of key (earlier ++ (blocks ++ later))) → ⊥
stops_within_not key earlier blocks later other fault are s readable =
    let on = images_front s.number other s.done blocks s.rest s.done_are are (sym s.part_is) in
    stops_not key earlier later s.done on.more s.number other s.rest fault (subst (AreImages other) on.blocks_are are) on.rest_is on.number_is
    (subst (λ bs. AreReadable (blocks_of key (earlier ++ (bs ++ later)))) on.blocks_are readable) s.rest_left s.stops

stops_in_part_not : (volumes : Volumes) (key : SessionKey) (earlier blocks later : List Block) (s : Span) (fault : ReadFault)
    → SpanHolds volumes s blocks → StopsInPart volumes key earlier s fault
    → AreReadable (blocks_of key (earlier ++ (blocks ++ later))) → ⊥
stops_in_part_not volumes key earlier blocks later s fault h stop readable =
    let same = same_bytes (volumes s.volume) stop.bytes h.bytes stop.there h.there in
    let part = part_one h.bytes stop.part (images h.number blocks) s (subst (λ bytes. IsPartOf bytes s stop.part) same stop.part_is) h.part_is in
    stops_within_not key earlier blocks later h.number fault h.blocks_are (subst (λ p. StopsWithin key earlier p fault) part stop.stops) readable

-- a span that holds blocks which can be read meets no fault
can_read : (fault : ReadFault) (volumes : Volumes) (key : SessionKey) (earlier blocks later : List Block) (s : Span)
    → SpanHolds volumes s blocks → CantRead fault volumes key earlier s → AreReadable (blocks_of key (earlier ++ (blocks ++ later))) → ⊥
can_read VolumeNotOnShelf volumes key earlier blocks later s h c readable = let there = h.there in cc
can_read SpanEndsEarly volumes key earlier blocks later s h c readable =
    let same : length c.0 ≡ length h.bytes = ap length (same_bytes (volumes s.volume) c.0 h.bytes c.1 h.there) in
    let within = part_within h.bytes (images h.number blocks) s h.part_is in
    let short = c.2 in
    omega arith
can_read BadSpan volumes key earlier blocks later s h c readable = stops_in_part_not volumes key earlier blocks later s BadSpan h c readable
can_read DamagedBlock volumes key earlier blocks later s h c readable = stops_in_part_not volumes key earlier blocks later s DamagedBlock h c readable
can_read Device volumes key earlier blocks later s h c readable = stops_in_part_not volumes key earlier blocks later s Device h c readable
can_read Memory volumes key earlier blocks later s h c readable = stops_in_part_not volumes key earlier blocks later s Memory h c readable

-- spans that hold blocks which can be read meet no fault at any of them
pub held_to_the_end : (volumes : Volumes) (key : SessionKey) (before : List Span) (at : Span) (after : List Span) (fault : ReadFault) (blocks held : List (List Block))
    → AllHold volumes before blocks → CantRead fault volumes key (joined_blocks blocks) at
    → AllHold volumes (before ++ at ∷ after) held → AreReadable (blocks_of key (joined_blocks held)) → ⊥
held_to_the_end volumes key before at after fault blocks held hold stops whole readable =
    let apart = hold_apart volumes before at after held whole in
    let same = all_hold_one volumes before blocks apart.first hold apart.before_hold in
    let order : joined_blocks held ≡ joined_blocks blocks ++ (apart.here ++ joined_blocks apart.later) =
    ap joined_blocks apart.blocks_are ∙ flat_map-append (λ bs. bs) apart.first (apart.here ∷ apart.later) ∙ ap (λ l. joined_blocks l ++ (apart.here ++ joined_blocks apart.later)) (sym same) in
    can_read fault volumes key (joined_blocks blocks) apart.here (joined_blocks apart.later) at apart.here_holds stops (subst (λ l. AreReadable (blocks_of key l)) order readable)

pub fault_no_reading : FaultIsNoReading
fault_no_reading volumes key spans fault records ended (inl bad) r countable = bad.1 (r.some_span, r.numbered)
fault_no_reading volumes key spans fault records ended (inr (are, inl s)) r countable =
    held_to_the_end volumes key s.before s.at s.after fault s.blocks r.blocks s.hold s.stops (subst (λ ss. AllHold volumes ss r.blocks) s.spans_are r.hold)
    (whole_readable (blocks_of key (joined_blocks r.blocks)) records ended r.whole countable)
fault_no_reading volumes key spans fault records ended (inr (are, inr none)) r countable =
    let same = all_hold_one volumes spans none.1 r.blocks none.2 r.hold in
    r.some_block (subst (λ bss. blocks_of key (joined_blocks bss) ≡ []) same none.3)
