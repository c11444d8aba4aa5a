-- The first fault is one.
use Rattle.std.proofs.Common.{◌≡◌, ℕ, suc, ◌+◌, ◌<◌, refl, sym, ap, ap₂, subst, ◌∙◌, arith, inl, inr, ◌⊎◌, List, [], ◌∷◌, ◌++◌, length, add-zero}
use Rattle.std.specs.Prelude.{Option, Some, None}
use Rattle.std.proofs.lemmas.List.{append_assoc, append-nil}
use Rattle.sd_base.specs.declared.number.SessionKey.{SessionKey}
use Rattle.sd_block.specs.Image.{block_image}
use Rattle.sd_block.specs.declared.head.Head.{Head}
use Rattle.sd_block.proofs.HeaderLemmas.{SaysFields-same}
use Rattle.sd_span.specs.declared.span.Span.{Span}
use Rattle.sd_readback.specs.declared.fault.ReadFault.{ReadFault}
use Rattle.sd_readback.specs.declared.fault.ReadFault.TheVariants.{BadSpan, VolumeNotOnShelf, SpanEndsEarly, DamagedBlock, Device, Memory}
use Rattle.sd_volume.specs.Image.{Block, images, AreImages}
use Rattle.sd_readback.specs.Reading.{blocks_of}
use Rattle.sd_readback.specs.Reading.{Volumes, IsPartOf, AllHold}
use Rattle.sd_readback.specs.Faults.{AreReadable, last_number, BeginsWithNoBlock, BeginsWithRefused, StopsWithin, StopsInPart, CantRead, StopsAtSpan, OneFirstFault}
use Rattle.sd_readback.proofs.ReadingLemmas.{joined_blocks, part_one, part_within, same_bytes, all_hold_one}
use Rattle.sd_volume.proofs.ImageLemmas.{one_block_there}
use Rattle.sd_readback.proofs.FaultLemmas.{no_bad_head, block_begins, stop_refuted, next_readable, left_begins, held_to_the_end}

-- What can be wrong where the next block should begin.

abbrev pub StopsSo : SessionKey → List Block → Option ℕ → List ℕ → ReadFault → Type 0
StopsSo key before last rest fault = BeginsWithNoBlock fault last rest ⊎ ((fault ≡ DamagedBlock) × BeginsWithRefused key before last rest)

span_or_damaged : (last : Option ℕ) (bytes : List ℕ) → BeginsWithNoBlock BadSpan last bytes → BeginsWithNoBlock DamagedBlock last bytes → ⊥
span_or_damaged last bytes (inl few) (long, other) = omega arith
span_or_damaged last bytes (inr (head, is, short)) (long, inl bad) = no_bad_head bytes head is bad
span_or_damaged last bytes (inr (head, is, short)) (long, inr h) =
    let same = ap (λ (g : Head). g.size) (SaysFields-same bytes head h.0 is.fields h.1.fields) in
    let within = h.2 in
    omega arith

no_block_one : (fault other : ReadFault) (last : Option ℕ) (bytes : List ℕ) → BeginsWithNoBlock fault last bytes → BeginsWithNoBlock other last bytes → fault ≡ other
no_block_one BadSpan BadSpan last bytes a b = refl
no_block_one BadSpan DamagedBlock last bytes a b = absurd (span_or_damaged last bytes a b)
no_block_one BadSpan VolumeNotOnShelf last bytes a b = absurd b
no_block_one BadSpan SpanEndsEarly last bytes a b = absurd b
no_block_one BadSpan Device last bytes a b = absurd b
no_block_one BadSpan Memory last bytes a b = absurd b
no_block_one DamagedBlock BadSpan last bytes a b = absurd (span_or_damaged last bytes b a)
no_block_one DamagedBlock DamagedBlock last bytes a b = refl
no_block_one DamagedBlock VolumeNotOnShelf last bytes a b = absurd b
no_block_one DamagedBlock SpanEndsEarly last bytes a b = absurd b
no_block_one DamagedBlock Device last bytes a b = absurd b
no_block_one DamagedBlock Memory last bytes a b = absurd b
no_block_one VolumeNotOnShelf other last bytes a b = absurd a
no_block_one SpanEndsEarly other last bytes a b = absurd a
no_block_one Device other last bytes a b = absurd a
no_block_one Memory other last bytes a b = absurd a

stop_one : (key : SessionKey) (before : List Block) (last : Option ℕ) (rest : List ℕ) (fault other : ReadFault) → StopsSo key before last rest fault → StopsSo key before last rest other → fault ≡ other
stop_one key before last rest fault other (inl a) (inl b) = no_block_one fault other last rest a b
stop_one key before last rest fault other (inl a) (inr b) = absurd (block_begins fault last rest b.1.block b.1.number b.1.behind b.1.begins a)
stop_one key before last rest fault other (inr a) (inl b) = absurd (block_begins other last rest a.1.block a.1.number a.1.behind a.1.begins b)
stop_one key before last rest fault other (inr a) (inr b) = a.0 ∙ sym b.0

-- Two ways to read the front of the same bytes.

-- the second goes on where the first stops
pub record GoesFurther (number other : ℕ) (done further : List Block) (rest rest' : List ℕ) : Type 0 where
  pub next : Block
  pub more : List Block
  pub further_is : further ≡ done ++ next ∷ more
  pub rest_is : rest ≡ images (other + length done) (next ∷ more) ++ rest'
  pub number_is : (done ≡ []) ⊎ (number ≡ other)

-- both stop at the same place
pub record StopsAtOnce (number other : ℕ) (done done' : List Block) (rest rest' : List ℕ) : Type 0 where
  pub done_is : done ≡ done'
  pub rest_is : rest ≡ rest'
  pub number_is : (done ≡ []) ⊎ (number ≡ other)

abbrev pub Meet : ℕ → ℕ → List Block → List Block → List ℕ → List ℕ → Type 0
Meet n m done done' rest rest' = StopsAtOnce n m done done' rest rest' ⊎ (GoesFurther n m done done' rest rest' ⊎ GoesFurther m n done' done rest' rest)

further_next : (n m : ℕ) (d d' : Block) (done further : List Block) (rest rest' : List ℕ) → d ≡ d' → n ≡ m → GoesFurther (n + 1) (m + 1) done further rest rest'
    → GoesFurther n m (d ∷ done) (d' ∷ further) rest rest'
further_next n m d d' done further rest rest' block number f =
    let count : (m + 1) + length done ≡ m + suc (length done) = omega arith in
    record {
      next = f.next;
      more = f.more;
      further_is = ap₂ (λ (x : Block) (l : List Block). x ∷ l) (sym block) f.further_is;
      rest_is = f.rest_is ∙ ap (λ k. images k (f.next ∷ f.more) ++ rest') count;
      number_is = inr number;
    }

images_meet : (n m : ℕ) (done done' : List Block) (rest rest' : List ℕ) → AreImages n done → AreImages m done' → images n done ++ rest ≡ images m done' ++ rest' → Meet n m done done' rest rest'
images_meet n m [] [] rest rest' are are' e = inl (record { done_is = refl; rest_is = e; number_is = inl refl })
images_meet n m [] (b ∷ bs) rest rest' are are' e =
    inr (inl (record { next = b; more = bs; further_is = refl; rest_is = e ∙ ap (λ k. images k (b ∷ bs) ++ rest') (sym (add-zero m)); number_is = inl refl }))
images_meet n m (d ∷ ds) [] rest rest' are are' e =
    inr (inr (record { next = d; more = ds; further_is = refl; rest_is = sym e ∙ ap (λ k. images k (d ∷ ds) ++ rest) (sym (add-zero n)); number_is = inl refl }))
images_meet n m (d ∷ ds) (b ∷ bs) rest rest' are are' e =
    let flat = sym (append_assoc (block_image d.key n d.body) (images (n + 1) ds) rest) ∙ e ∙ append_assoc (block_image b.key m b.body) (images (m + 1) bs) rest' in
    let first = one_block_there d b n m (images (n + 1) ds ++ rest) (images (m + 1) bs ++ rest') are.0 are'.0 flat in
    elim (images_meet (n + 1) (m + 1) ds bs rest rest' are.1 are'.1 first.behind_is) [
      | inl s ↦ inl (record {
        done_is = ap₂ (λ (x : Block) (l : List Block). x ∷ l) first.block_is s.done_is;
        rest_is = s.rest_is;
        number_is = inr first.number_is;
      })
      | inr (inl f) ↦ inr (inl (further_next n m d b ds bs rest rest' first.block_is first.number_is f))
      | inr (inr f) ↦ inr (inr (further_next m n b d bs ds rest' rest (sym first.block_is) (sym first.number_is) f))
    ]

same_last : (n m : ℕ) (done : List Block) → ((done ≡ []) ⊎ (n ≡ m)) → last_number n done ≡ last_number m done
same_last n m [] same = refl
same_last n m (d ∷ ds) (inl none) = absurd (cc)
same_last n m (d ∷ ds) (inr same) = ap (λ k. Some (k + length ds)) same

-- if one of them goes further, the other had no fault there
further_refuted : (key : SessionKey) (earlier done further : List Block) (n m : ℕ) (rest rest' : List ℕ) (fault : ReadFault) → AreImages m further
    → GoesFurther n m done further rest rest' → AreReadable (blocks_of key (earlier ++ further)) → StopsSo key (earlier ++ done) (last_number n done) rest fault → ⊥
further_refuted key earlier done further n m rest rest' fault are f readable stops =
    let order : earlier ++ further ≡ earlier ++ ((done ++ f.next ∷ f.more) ++ []) = ap (λ l. earlier ++ l) (f.further_is ∙ sym (append-nil (done ++ f.next ∷ f.more))) in
    stop_refuted key (earlier ++ done) (last_number n done) f.next (m + length done) rest _ fault
    (left_begins n m done f.next f.more rest rest' (subst (AreImages m) f.further_is are) f.rest_is f.number_is)
    (next_readable key earlier done f.next f.more [] (subst (λ l. AreReadable (blocks_of key l)) order readable)) stops

stops_at_once : (key : SessionKey) (earlier done done' : List Block) (n m : ℕ) (rest rest' : List ℕ) (fault other : ReadFault) → StopsAtOnce n m done done' rest rest'
    → StopsSo key (earlier ++ done) (last_number n done) rest fault → StopsSo key (earlier ++ done') (last_number m done') rest' other → fault ≡ other
stops_at_once key earlier done done' n m rest rest' fault other s a b =
    let b1 = subst (λ l. StopsSo key (earlier ++ done') (last_number m done') l other) (sym s.rest_is) b in
    let b2 = subst (λ l. StopsSo key (earlier ++ l) (last_number m l) rest other) (sym s.done_is) b1 in
    stop_one key (earlier ++ done) (last_number n done) rest fault other a (subst (λ l. StopsSo key (earlier ++ done) l rest other) (sym (same_last n m done s.number_is)) b2)

within_one : (key : SessionKey) (earlier : List Block) (part : List ℕ) (fault other : ReadFault) → StopsWithin key earlier part fault → StopsWithin key earlier part other → fault ≡ other
within_one key earlier part fault other a b =
    elim (images_meet a.number b.number a.done b.done a.rest b.rest a.done_are b.done_are (sym a.part_is ∙ b.part_is)) [
      | inl s ↦ stops_at_once key earlier a.done b.done a.number b.number a.rest b.rest fault other s a.stops b.stops
      | inr (inl f) ↦ absurd (further_refuted key earlier a.done b.done a.number b.number a.rest b.rest fault b.done_are f b.readable a.stops)
      | inr (inr f) ↦ absurd (further_refuted key earlier b.done a.done b.number a.number b.rest a.rest other a.done_are f a.readable b.stops)
    ]

-- The fault of one span.

-- the volume of the span is there, and ends before the span does
abbrev EndsEarly : Volumes → Span → Type 0
EndsEarly volumes s = (bytes : List ℕ) × (volumes s.volume ≡ Some bytes) × (length bytes < s.end)

abbrev CantSo : ReadFault → Volumes → SessionKey → List Block → Span → Type 0
CantSo fault volumes key earlier s =
    ((fault ≡ VolumeNotOnShelf) × (volumes s.volume ≡ None)) ⊎ (((fault ≡ SpanEndsEarly) × EndsEarly volumes s) ⊎ StopsInPart volumes key earlier s fault)

cant_so : (fault : ReadFault) (volumes : Volumes) (key : SessionKey) (earlier : List Block) (s : Span) → CantRead fault volumes key earlier s → CantSo fault volumes key earlier s
cant_so VolumeNotOnShelf volumes key earlier s c = inl (refl, c)
cant_so SpanEndsEarly volumes key earlier s c = inr (inl (refl, c))
cant_so BadSpan volumes key earlier s c = inr (inr c)
cant_so DamagedBlock volumes key earlier s c = inr (inr c)
cant_so Device volumes key earlier s c = inr (inr c)
cant_so Memory volumes key earlier s c = inr (inr c)

absent : (there : Option (List ℕ)) (bytes : List ℕ) → there ≡ None → there ≡ Some bytes → ⊥
absent there bytes e e' = cc

ends_not_early : (volumes : Volumes) (key : SessionKey) (earlier : List Block) (s : Span) (fault : ReadFault) → EndsEarly volumes s → StopsInPart volumes key earlier s fault → ⊥
ends_not_early volumes key earlier s fault early stop =
    let same : length early.0 ≡ length stop.bytes = ap length (same_bytes (volumes s.volume) early.0 stop.bytes early.1 stop.there) in
    let within = part_within stop.bytes stop.part s stop.part_is in
    let short = early.2 in
    omega arith

in_part_one : (volumes : Volumes) (key : SessionKey) (earlier : List Block) (s : Span) (fault other : ReadFault) → StopsInPart volumes key earlier s fault → StopsInPart volumes key earlier s other → fault ≡ other
in_part_one volumes key earlier s fault other a b =
    let same = same_bytes (volumes s.volume) a.bytes b.bytes a.there b.there in
    let part = part_one b.bytes a.part b.part s (subst (λ bytes. IsPartOf bytes s a.part) same a.part_is) b.part_is in
    within_one key earlier b.part fault other (subst (λ p. StopsWithin key earlier p fault) part a.stops) b.stops

so_one : (volumes : Volumes) (key : SessionKey) (earlier : List Block) (s : Span) (fault other : ReadFault) → CantSo fault volumes key earlier s → CantSo other volumes key earlier s → fault ≡ other
so_one volumes key earlier s fault other (inl a) (inl b) = a.0 ∙ sym b.0
so_one volumes key earlier s fault other (inl a) (inr (inl b)) = absurd (absent (volumes s.volume) b.1.0 a.1 b.1.1)
so_one volumes key earlier s fault other (inl a) (inr (inr b)) = absurd (absent (volumes s.volume) b.bytes a.1 b.there)
so_one volumes key earlier s fault other (inr (inl a)) (inl b) = absurd (absent (volumes s.volume) a.1.0 b.1 a.1.1)
so_one volumes key earlier s fault other (inr (inl a)) (inr (inl b)) = a.0 ∙ sym b.0
so_one volumes key earlier s fault other (inr (inl a)) (inr (inr b)) = absurd (ends_not_early volumes key earlier s other a.1 b)
so_one volumes key earlier s fault other (inr (inr a)) (inl b) = absurd (absent (volumes s.volume) a.bytes b.1 a.there)
so_one volumes key earlier s fault other (inr (inr a)) (inr (inl b)) = absurd (ends_not_early volumes key earlier s fault b.1 a)
so_one volumes key earlier s fault other (inr (inr a)) (inr (inr b)) = in_part_one volumes key earlier s fault other a b

-- The span of the first fault.

-- the second place is after the first
pub record IsBehind (before : List Span) (at : Span) (before' : List Span) : Type 0 where
  pub between : List Span
  pub before_is : before' ≡ before ++ at ∷ between

abbrev Places : List Span → Span → List Span → Span → Type 0
Places before at before' at' = ((before ≡ before') × (at ≡ at')) ⊎ (IsBehind before at before' ⊎ IsBehind before' at' before)

behind_next : (s t : Span) (before : List Span) (at : Span) (before' : List Span) → s ≡ t → IsBehind before at before' → IsBehind (s ∷ before) at (t ∷ before')
behind_next s t before at before' same b = record { between = b.between; before_is = ap₂ (λ (x : Span) (l : List Span). x ∷ l) (sym same) b.before_is }

places : (before : List Span) (at : Span) (after before' : List Span) (at' : Span) (after' : List Span) → before ++ at ∷ after ≡ before' ++ at' ∷ after' → Places before at before' at'
places [] at after [] at' after' e = inl (refl, cc)
places [] at after (t ∷ before') at' after' e = inr (inl (record { between = before'; before_is = let same : t ≡ at = cc in ap (λ x. x ∷ before') same }))
places (s ∷ before) at after [] at' after' e = inr (inr (record { between = before; before_is = let same : s ≡ at' = cc in ap (λ x. x ∷ before) same }))
places (s ∷ before) at after (t ∷ before') at' after' e =
    let first : s ≡ t = cc in
    let rest : before ++ at ∷ after ≡ before' ++ at' ∷ after' = cc in
    elim (places before at after before' at' after' rest) [
      | inl same ↦ inl (ap₂ (λ (x : Span) (l : List Span). x ∷ l) first same.0, same.1)
      | inr (inl b) ↦ inr (inl (behind_next s t before at before' first b))
      | inr (inr b) ↦ inr (inr (behind_next t s before' at' before (sym first) b))
    ]

behind_refuted : (volumes : Volumes) (key : SessionKey) (before : List Span) (at : Span) (before' : List Span) (fault : ReadFault) (blocks held : List (List Block)) → AllHold volumes before blocks
    → CantRead fault volumes key (joined_blocks blocks) at → IsBehind before at before' → AllHold volumes before' held → AreReadable (blocks_of key (joined_blocks held)) → ⊥
behind_refuted volumes key before at before' fault blocks held hold cant b hold' readable =
    held_to_the_end volumes key before at b.between fault blocks held hold cant (subst (λ ss. AllHold volumes ss held) b.before_is hold') readable

same_place : (volumes : Volumes) (key : SessionKey) (spans : List Span) (fault other : ReadFault) → (a : StopsAtSpan volumes key spans fault) → (b : StopsAtSpan volumes key spans other)
    → a.before ≡ b.before → a.at ≡ b.at → fault ≡ other
same_place volumes key spans fault other a b before at =
    let blocks = all_hold_one volumes b.before a.blocks b.blocks (subst (λ ss. AllHold volumes ss a.blocks) before a.hold) b.hold in
    let c = subst (λ l. CantRead fault volumes key (joined_blocks l) a.at) blocks a.stops in
    let d = subst (λ s. CantRead fault volumes key (joined_blocks b.blocks) s) at c in
    so_one volumes key (joined_blocks b.blocks) b.at fault other (cant_so fault volumes key (joined_blocks b.blocks) b.at d) (cant_so other volumes key (joined_blocks b.blocks) b.at b.stops)

stops_one : (volumes : Volumes) (key : SessionKey) (spans : List Span) (fault other : ReadFault) → StopsAtSpan volumes key spans fault → StopsAtSpan volumes key spans other → fault ≡ other
stops_one volumes key spans fault other a b =
    elim (places a.before a.at a.after b.before b.at b.after (sym a.spans_are ∙ b.spans_are)) [
      | inl same ↦ same_place volumes key spans fault other a b same.0 same.1
      | inr (inl f) ↦ absurd (behind_refuted volumes key a.before a.at b.before fault a.blocks b.blocks a.hold a.stops f b.hold b.readable)
      | inr (inr f) ↦ absurd (behind_refuted volumes key b.before b.at a.before other b.blocks a.blocks b.hold b.stops f a.hold a.readable)
    ]

hold_none_not : (volumes : Volumes) (key : SessionKey) (spans : List Span) (fault : ReadFault) (blocks : List (List Block)) → StopsAtSpan volumes key spans fault → AllHold volumes spans blocks
    → blocks_of key (joined_blocks blocks) ≡ [] → ⊥
hold_none_not volumes key spans fault blocks a hold none =
    held_to_the_end volumes key a.before a.at a.after fault a.blocks blocks a.hold a.stops (subst (λ ss. AllHold volumes ss blocks) a.spans_are hold) (inl none)

pub first_fault_one : OneFirstFault
first_fault_one volumes key spans fault other (inl a) (inl b) = a.0 ∙ sym b.0
first_fault_one volumes key spans fault other (inl a) (inr b) = absurd (a.1 b.0)
first_fault_one volumes key spans fault other (inr a) (inl b) = absurd (b.1 a.0)
first_fault_one volumes key spans fault other (inr (are, inl a)) (inr (are', inl b)) = stops_one volumes key spans fault other a b
first_fault_one volumes key spans fault other (inr (are, inl a)) (inr (are', inr b)) = absurd (hold_none_not volumes key spans fault b.1 a b.2 b.3)
first_fault_one volumes key spans fault other (inr (are, inr a)) (inr (are', inl b)) = absurd (hold_none_not volumes key spans other a.1 b a.2 a.3)
first_fault_one volumes key spans fault other (inr (are, inr a)) (inr (are', inr b)) = a.0 ∙ sym b.0
