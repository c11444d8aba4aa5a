-- What a reader has read, span by span.
use Rattle.std.proofs.Common.{◌≡◌, ◌≢◌, ℕ, suc, ◌+◌, ◌-◌, take, drop, get_or, ◌<◌, ◌≤◌, ◌^◌, refl, sym, ap, subst, ◌∙◌, arith, inl, inr, ◌⊎◌, List, [], ◌∷◌, ◌++◌, length, Bool}
use Rattle.std.specs.Prelude.{Some, Result, Ok, Err, IfErr, IfOk, IsErrAnd}
use Rattle.std.proofs.lemmas.Grind.{flat_map-append}
use Rattle.std.proofs.lemmas.List.{append_assoc, append-nil, length-take, length-drop, take-append-drop, take_more}
use Rattle.std.proofs.Math.Seq.{drop-cons}
use Rattle.sd_base.specs.Record.{Record}
use Rattle.sd_base.specs.declared.number.SessionKey.{SessionKey}
use Rattle.sd_label.specs.Cutting.{total_bytes, WholeOf}
use Rattle.sd_readback.specs.declared.fault.ReadFault.{ReadFault}
use Rattle.sd_readback.specs.declared.fault.ReadFault.TheVariants.{BadSpan, VolumeNotOnShelf, SpanEndsEarly, DamagedBlock, Device, Memory}
use Rattle.sd_readback.specs.declared.reader.Reader.{Reader}
use Rattle.sd_volume.specs.Image.{Block, images, AreImages}
use Rattle.sd_readback.specs.Reading.{blocks_of}
use Rattle.sd_readback.specs.Device.{stretch}
use Rattle.sd_readback.specs.Faults.{last_number, BeginsWithRefused, StopsWithin, AreSpans, CantRead, IsOfSpans, AreCountable, MeetsFault}
use Rattle.sd_readback.specs.Reading.{Volumes, IsPartOf, SpanHolds, AllHold, AreNumbered, Reads}
use Rattle.sd_span.specs.declared.span.Span.{Span}
use Rattle.sd_readback.specs.Reader.{HasRead, ReadsOn}
use Rattle.sd_readback.proofs.ReadingLemmas.{joined_blocks, AllHold-more}
use Rattle.sd_readback.proofs.FaultLemmas.{fault_no_reading}
use Rattle.sd_readback.proofs.FirstFaultLemmas.{first_fault_one}
use Rattle.sd_readback.proofs.ReaderLemmas.{has_read_readable}

-- The spans so far hold these blocks, and the records that they make whole were handed over.
pub record HasReadSpans (volumes : Volumes) (key : SessionKey) (spans : List Span) (reader : Reader) (got got' : List Record) : Type 0 where
  pub blocks : List (List Block)
  pub hold : AllHold volumes spans blocks
  pub more : List Record
  pub got_is : got' ≡ got ++ more
  pub read : HasRead key (joined_blocks blocks) more reader

-- the next span can't be read
pub spans_stop : (volumes : Volumes) (key : SessionKey) (spans before after : List Span) (s : Span) (reader : Reader) (got got' : List Record) (fault : ReadFault)
    → AreSpans spans → spans ≡ before ++ s ∷ after → HasReadSpans volumes key before reader got got'
    → ((earlier : List Block) (taken : List Record) → HasRead key earlier taken reader → CantRead fault volumes key earlier s)
    → MeetsFault volumes key spans fault
spans_stop volumes key spans before after s reader got got' fault are e h why =
    inr (
      are,
      inl (record {
        before = before;
        at = s;
        after = after;
        spans_are = e;
        blocks = h.blocks;
        hold = h.hold;
        readable = has_read_readable key (joined_blocks h.blocks) h.more reader h.read;
        stops = why (joined_blocks h.blocks) h.more h.read;
      }),
    )

-- a span of the list begins below its end
pub numbered_at : (index : ℕ) (before : List Span) (s : Span) (after : List Span) → AreNumbered index (before ++ s ∷ after) → s.start < s.end
numbered_at index [] s after are = are.1
numbered_at index (t ∷ before) s after are = numbered_at (index + 1) before s after are.2

pub stops_cant : (fault : ReadFault) (volumes : Volumes) (key : SessionKey) (earlier : List Block) (s : Span) (bytes part : List ℕ) → IsOfSpans fault
    → volumes s.volume ≡ Some bytes → IsPartOf bytes s part → StopsWithin key earlier part fault → CantRead fault volumes key earlier s
stops_cant BadSpan volumes key earlier s bytes part other there is stop = record { bytes = bytes; part = part; there = there; part_is = is; stops = stop }
stops_cant VolumeNotOnShelf volumes key earlier s bytes part other there is stop = absurd (no_such stop.stops)
  where
    no_such : (⊥ ⊎ ((VolumeNotOnShelf ≡ DamagedBlock) × BeginsWithRefused key (earlier ++ stop.done) (last_number stop.number stop.done) stop.rest)) → ⊥
    no_such (inl x) = x
    no_such (inr x) = let e = x.0 in cc
stops_cant SpanEndsEarly volumes key earlier s bytes part other there is stop = absurd (no_such stop.stops)
  where
    no_such : (⊥ ⊎ ((SpanEndsEarly ≡ DamagedBlock) × BeginsWithRefused key (earlier ++ stop.done) (last_number stop.number stop.done) stop.rest)) → ⊥
    no_such (inl x) = x
    no_such (inr x) = let e = x.0 in cc
stops_cant DamagedBlock volumes key earlier s bytes part other there is stop = record { bytes = bytes; part = part; there = there; part_is = is; stops = stop }
stops_cant Device volumes key earlier s bytes part other there is stop = absurd (other.0 refl)
stops_cant Memory volumes key earlier s bytes part other there is stop = absurd (other.1 refl)

-- the part that a span names
pub part_is_stretch : (bytes : List ℕ) (s : Span) → s.start < s.end → s.end ≤ length bytes → IsPartOf bytes s (stretch s.start s.end bytes)
part_is_stretch bytes s below within =
    let before = length-take s.start bytes in
    let after = length-drop s.start bytes in
    let part = length-take (s.end - s.start) (drop s.start bytes) in
    record {
      front = take s.start bytes;
      back = drop (s.end - s.start) (drop s.start bytes);
      bytes_are = sym (take-append-drop s.start bytes) ∙ ap (λ l. take s.start bytes ++ l) (sym (take-append-drop (s.end - s.start) (drop s.start bytes)));
      start_is = omega arith;
      end_is = omega arith;
    }

-- a span whose part is the images of blocks holds them
pub span_holds : (volumes : Volumes) (s : Span) (bytes : List ℕ) (blocks : List Block) (number : ℕ) → s.start < s.end → s.end ≤ length bytes → volumes s.volume ≡ Some bytes
    → stretch s.start s.end bytes ≡ images number blocks → AreImages number blocks → SpanHolds volumes s blocks
span_holds volumes s bytes blocks number below within there e are =
    record {
      bytes = bytes;
      number = number;
      there = there;
      part_is = subst (IsPartOf bytes s) e (part_is_stretch bytes s below within);
      blocks_are = are;
    }

-- the spans round one of them
pub spans_round : (spans : List Span) (i : ℕ) (s : Span) → s ≡ get_or spans i s → i < length spans → spans ≡ take i spans ++ s ∷ drop (suc i) spans
spans_round spans i s is below =
    sym (take-append-drop i spans) ∙ ap (λ l. take i spans ++ l) (drop-cons spans i s below ∙ ap (λ x. x ∷ drop (suc i) spans) (sym is))

pub spans_more : (spans : List Span) (i : ℕ) (s : Span) → s ≡ get_or spans i s → i < length spans → take (i + 1) spans ≡ take i spans ++ s ∷ []
spans_more spans i s is below = take_more spans i s below ∙ ap (λ x. take i spans ++ x ∷ []) (sym is)

pub span_below : (spans : List Span) (i : ℕ) (s : Span) → s ≡ get_or spans i s → i < length spans → AreSpans spans → s.start < s.end
span_below spans i s is below are =
    numbered_at 1 (take i spans) s (drop (suc i) spans) (subst (AreNumbered 1) (spans_round spans i s is below) are.1)

-- what all the spans were read to
pub spans_read : (volumes : Volumes) (key : SessionKey) (spans : List Span) (reader : Reader) (got got' : List Record) (ended : Bool) → AreSpans spans
    → (h : HasReadSpans volumes key spans reader got got') → blocks_of key (joined_blocks h.blocks) ≢ [] → WholeOf (blocks_of key (joined_blocks h.blocks)) h.more ended
    → Reads volumes key spans h.more ended
spans_read volumes key spans reader got got' ended are h some whole = record {
  some_span = are.0;
  numbered = are.1;
  blocks = h.blocks;
  hold = h.hold;
  some_block = some;
  whole = whole;
}

-- all the spans hold blocks, and none is the session's
pub spans_hold_none : (volumes : Volumes) (key : SessionKey) (spans : List Span) (reader : Reader) (got got' : List Record) (fault : ReadFault) → AreSpans spans
    → HasReadSpans volumes key spans reader got got' → fault ≡ BadSpan
    → ((key : SessionKey) (blocks : List Block) (taken : List Record) → HasRead key blocks taken reader → blocks_of key blocks ≡ [])
    → MeetsFault volumes key spans fault
spans_hold_none volumes key spans reader got got' fault are h e none =
    inr (are, inr (e, h.blocks, h.hold, none key (joined_blocks h.blocks) h.more h.read))

-- spans that can be read meet no fault of theirs
pub none_of_spans : {X : Type 0} (volumes : Volumes) (key : SessionKey) (spans : List Span) (answer : Result X ReadFault)
    → IfErr answer (λ fault. IsOfSpans fault → MeetsFault volumes key spans fault)
    → (records : List Record) (ended : Bool) → length records < 2 ^ 64 → total_bytes records < 2 ^ 64 → Reads volumes key spans records ended
    → IfErr answer (λ fault. (fault ≡ Device) ⊎ (fault ≡ Memory))
none_of_spans volumes key spans (Ok x) why records ended few small r = tt
none_of_spans volumes key spans (Err Device) why records ended few small r = inl refl
none_of_spans volumes key spans (Err Memory) why records ended few small r = inr refl
none_of_spans volumes key spans (Err BadSpan) why records ended few small r = absurd (fault_no_reading volumes key spans BadSpan records ended (why (λ e. cc, λ e. cc)) r (few, small))
none_of_spans volumes key spans (Err VolumeNotOnShelf) why records ended few small r = absurd (fault_no_reading volumes key spans VolumeNotOnShelf records ended (why (λ e. cc, λ e. cc)) r (few, small))
none_of_spans volumes key spans (Err SpanEndsEarly) why records ended few small r = absurd (fault_no_reading volumes key spans SpanEndsEarly records ended (why (λ e. cc, λ e. cc)) r (few, small))
none_of_spans volumes key spans (Err DamagedBlock) why records ended few small r = absurd (fault_no_reading volumes key spans DamagedBlock records ended (why (λ e. cc, λ e. cc)) r (few, small))

-- a fault that the spans meet is the answer, or the device or memory failed
pub met_or_broken : {X : Type 0} (volumes : Volumes) (key : SessionKey) (spans : List Span) (answer : Result X ReadFault)
    → IfErr answer (λ fault. IsOfSpans fault → MeetsFault volumes key spans fault) → IfOk answer (λ x. (records : List Record) × (ended : Bool) × AreCountable records × Reads volumes key spans records ended)
    → (fault : ReadFault) → MeetsFault volumes key spans fault
    → IsErrAnd answer (λ other. (other ≡ fault) ⊎ (other ≡ Device) ⊎ (other ≡ Memory))
met_or_broken volumes key spans (Ok x) why reads fault m = absurd (fault_no_reading volumes key spans fault reads.0 reads.1 m reads.3 reads.2)
met_or_broken volumes key spans (Err Device) why reads fault m = inr (inl refl)
met_or_broken volumes key spans (Err Memory) why reads fault m = inr (inr refl)
met_or_broken volumes key spans (Err BadSpan) why reads fault m = inl (first_fault_one volumes key spans BadSpan fault (why (λ e. cc, λ e. cc)) m)
met_or_broken volumes key spans (Err VolumeNotOnShelf) why reads fault m = inl (first_fault_one volumes key spans VolumeNotOnShelf fault (why (λ e. cc, λ e. cc)) m)
met_or_broken volumes key spans (Err SpanEndsEarly) why reads fault m = inl (first_fault_one volumes key spans SpanEndsEarly fault (why (λ e. cc, λ e. cc)) m)
met_or_broken volumes key spans (Err DamagedBlock) why reads fault m = inl (first_fault_one volumes key spans DamagedBlock fault (why (λ e. cc, λ e. cc)) m)

-- Whatever the device: what was read of the spans so far. That the spans hold these blocks is known if the
-- device is honest.
pub record HasReadAll (key : SessionKey) (spans : List Span) (reader : Reader) (got got' : List Record) (There : Volumes → Type 0) : Type 0 where
  pub blocks : List (List Block)
  pub hold : (volumes : Volumes) → There volumes → AllHold volumes spans blocks
  pub more : List Record
  pub got_is : got' ≡ got ++ more
  pub read : HasRead key (joined_blocks blocks) more reader

pub spans_there : (key : SessionKey) (spans : List Span) (reader : Reader) (got got' : List Record) (There : Volumes → Type 0) (volumes : Volumes)
    → HasReadAll key spans reader got got' There → There volumes → HasReadSpans volumes key spans reader got got'
spans_there key spans reader got got' There volumes h there = record {
  blocks = h.blocks;
  hold = h.hold volumes there;
  more = h.more;
  got_is = h.got_is;
  read = h.read;
}

pub all_begin : (key : SessionKey) (reader : Reader) (got : List Record) (There : Volumes → Type 0) → HasRead key [] [] reader → HasReadAll key [] reader got got There
all_begin key reader got There r = record {
  blocks = [];
  hold = λ volumes there. tt;
  more = [];
  got_is = sym (append-nil got);
  read = r;
}

pub all_go_on : (key : SessionKey) (spans : List Span) (s : Span) (old new : Reader) (got got' got'' : List Record) (There : Volumes → Type 0) (blocks : List Block)
    → HasReadAll key spans old got got' There → ReadsOn old new got' got'' blocks → ((volumes : Volumes) → There volumes → SpanHolds volumes s blocks)
    → HasReadAll key (spans ++ s ∷ []) new got got'' There
all_go_on key spans s old new got got' got'' There blocks h on holds =
    let order : joined_blocks (h.blocks ++ blocks ∷ []) ≡ joined_blocks h.blocks ++ blocks =
    flat_map-append (λ bs. bs) h.blocks (blocks ∷ []) ∙ ap (λ l. joined_blocks h.blocks ++ l) (append-nil blocks) in
    record {
      blocks = h.blocks ++ blocks ∷ [];
      hold = λ volumes there. AllHold-more volumes spans h.blocks s blocks (h.hold volumes there) (holds volumes there);
      more = h.more ++ on.more;
      got_is = on.got_is ∙ ap (λ l. l ++ on.more) h.got_is ∙ append_assoc got h.more on.more;
      read = subst (λ bs. HasRead key bs (h.more ++ on.more) new) (sym order) (on.goes_on key (joined_blocks h.blocks) h.more h.read);
    }
