-- What was handed over before a fault: the first of a session's records.
use Rattle.std.proofs.Common.{◌≡◌, ◌≢◌, ℕ, refl, sym, ap, subst, ◌∙◌, inl, inr, List, [], ◌∷◌, ◌++◌, Bool, true}
use Rattle.std.specs.Prelude.{Option, Some}
use Rattle.std.proofs.lemmas.Grind.{flat_map-append}
use Rattle.std.proofs.lemmas.List.{append_assoc, append-nil}
use Rattle.sd_base.specs.Record.{Record}
use Rattle.sd_base.specs.declared.number.SessionKey.{SessionKey}
use Rattle.sd_label.specs.Cutting.{Standing, Holds, WholeOf}
use Rattle.sd_label.proofs.CuttingLemmas.{front_nil, holds_one, holds_front}
use Rattle.sd_block.specs.Image.{block_image}
use Rattle.sd_unpack.specs.Unpacking.{Unpacking, Unpacks}
use Rattle.sd_span.specs.declared.span.Span.{Span}
use Rattle.sd_readback.specs.declared.reader.Reader.{Reader}
use Rattle.sd_volume.specs.Image.{Block, images}
use Rattle.sd_readback.specs.Reading.{blocks_of}
use Rattle.sd_base.specs.Key.{is_key}
use Rattle.sd_readback.specs.Reading.{Volumes, IsPartOf, SpanHolds, AllHold}
use Rattle.sd_readback.specs.Device.{stretch}
use Rattle.sd_readback.specs.Faults.{AreSpans, ComesNext, BeginsWithBlock}
use Rattle.sd_readback.specs.HandsOver.{GotFirstOf, SpanBegins, NextBegins, AreHeldFirst, HandsOverFront, HandedOverAreFirst}
use Rattle.sd_readback.specs.Reader.{HasRead, HandsOverInBlock, HandsOverInPart, HandsOverInSpan}
use Rattle.sd_readback.proofs.ListLemmas.{push_not_nil}
use Rattle.sd_readback.proofs.BlockLemmas.{images_front}
use Rattle.sd_readback.proofs.ReadingLemmas.{joined_blocks, part_one, same_bytes, all_hold_one, hold_apart, blocks_of-append}
use Rattle.sd_readback.proofs.ReaderLemmas.{body_more, unpacked_holds, no_fragments, nothing_held}
use Rattle.sd_readback.proofs.PartLemmas.{HasReadPart, numbered_for, with_next}
use Rattle.sd_readback.proofs.SpanLemmas.{HasReadSpans}

-- Block by block.

-- what a reader handed over so far are the first records of its blocks
read_first : (key : SessionKey) (blocks : List Block) (taken : List Record) (reader : Reader) → HasRead key blocks taken reader → AreHeldFirst (blocks_of key blocks) taken
read_first key blocks taken reader r = first_so (blocks_of key blocks) taken reader.unpacker r.unpacks
  where
    first_so : (bodies : List (List ℕ)) (taken : List Record) (view : Unpacking) → Unpacks bodies taken view → AreHeldFirst bodies taken
    first_so [] taken view u = inl (front_nil taken view.ready (nothing_held taken view u))
    first_so (x ∷ xs) taken view u =
        let h = unpacked_holds (x ∷ xs) taken view u (λ e. cc) in
        inr (view.ready, h.0, h.2)

-- of the records that a block of the session makes whole, the first were handed over
pub block_front : (old : Reader) (got got' : List Record) (view : Unpacking) (b : Block)
    → ((key : SessionKey) → old.key ≡ key → is_key key b.key ≡ true)
    → ((bodies : List (List ℕ)) (taken : List Record) → Unpacks bodies taken old.unpacker → Unpacks (bodies ++ b.body ∷ []) taken view)
    → GotFirstOf view.ready got got' → HandsOverInBlock old got got' b
block_front old got got' view b same unpacks front = record {
  more = front.more;
  got_is = front.got_is;
  first = inr (λ key before taken r.
      let bodies = blocks_of key before ++ b.body ∷ [] in
      let is = body_more key before b (same key r.key_is) in
      let h = unpacked_holds bodies taken view (unpacks (blocks_of key before) taken r.unpacks) (push_not_nil (blocks_of key before) b.body) in
      let order : taken ++ view.ready ≡ (taken ++ front.more) ++ front.others =
      ap (λ l. taken ++ l) front.records_are ∙ sym (append_assoc taken front.more front.others) in
      inr (front.others, h.0, subst (λ l. Holds l ((taken ++ front.more) ++ front.others) h.0) (sym is) (subst (λ l. Holds bodies l h.0) order h.2)));
}

-- Part by part.

-- what was handed over of the part so far
pub part_front : (old mid : Reader) (got got' : List Record) (start at end : ℕ) (last : Option ℕ) (There : List ℕ → Type 0) (bytes : List ℕ)
    → HasReadPart old mid got got' start at end last There → There bytes → HandsOverInPart old got got' (stretch start end bytes)
part_front old mid got got' start at end last There bytes p is = record {
  done = p.done;
  number = p.number;
  rest = stretch at end bytes;
  part_is = p.part_is bytes is;
  done_are = p.done_are;
  more = p.on.more;
  got_is = p.on.got_is;
  first = λ key before taken r. read_first key (before ++ p.done) (taken ++ p.on.more) mid (p.on.goes_on key before taken r);
}

-- and of the block after that
pub part_block_front : (old mid : Reader) (got got' got'' : List Record) (start at end : ℕ) (last : Option ℕ) (There : List ℕ → Type 0) (bytes behind : List ℕ) (b : Block) (number : ℕ)
    → HasReadPart old mid got got' start at end last There → There bytes → BeginsWithBlock last (stretch at end bytes) b number behind → HandsOverInBlock mid got' got'' b
    → HandsOverInPart old got got'' (stretch start end bytes)
part_block_front old mid got got' got'' start at end last There bytes behind b number p is begins block =
    elim block.first [
      | inl none ↦
          let same : got' ≡ got'' = sym (block.got_is ∙ ap (λ l. got' ++ l) none ∙ append-nil got') in
          subst (λ g. HandsOverInPart old got g (stretch start end bytes)) same (part_front old mid got got' start at end last There bytes p is)
      | inr first ↦
          let n = numbered_for p.number p.done b number p.done_are begins.block_is (subst (λ l. ComesNext l number) p.last_is begins.next_is) in
          record {
            done = p.done ++ b ∷ [];
            number = n.first;
            rest = behind;
            part_is =
                with_next (stretch start end bytes) (stretch at end bytes) behind (block_image b.key number b.body) (images p.number p.done) (images n.first (p.done ++ b ∷ []))
                (p.part_is bytes is) begins.bytes_are n.images_are;
            done_are = n.done_are;
            more = p.on.more ++ block.more;
            got_is = block.got_is ∙ ap (λ l. l ++ block.more) p.on.got_is ∙ append_assoc got p.on.more block.more;
            first = λ key before taken r.
                let there = first key (before ++ p.done) (taken ++ p.on.more) (p.on.goes_on key before taken r) in
                subst (λ bs. AreHeldFirst (blocks_of key bs) (taken ++ (p.on.more ++ block.more))) (append_assoc before p.done (b ∷ []))
                (subst (AreHeldFirst (blocks_of key ((before ++ p.done) ++ b ∷ []))) (append_assoc taken p.on.more block.more) there);
          }
    ]

-- Span by span.

none_begin : (volumes : Volumes) (spans : List Span) → NextBegins volumes spans []
none_begin volumes [] = refl
none_begin volumes (s ∷ ss) = inl refl

-- nothing was handed over
pub nothing_front : (volumes : Volumes) (key : SessionKey) (spans : List Span) (got : List Record) → HandsOverFront volumes key spans got got
nothing_front volumes key spans got = record {
  more = [];
  got_is = sym (append-nil got);
  bad_spans = λ bad. refl;
  before = [];
  after = spans;
  spans_are = refl;
  held = [];
  last = [];
  hold = tt;
  begins = none_begin volumes spans;
  records_first = inl refl;
}

-- what was handed over of the spans so far
pub spans_front : (volumes : Volumes) (key : SessionKey) (spans before after : List Span) (reader : Reader) (got got' : List Record)
    → AreSpans spans → spans ≡ before ++ after → HasReadSpans volumes key before reader got got' → HandsOverFront volumes key spans got got'
spans_front volumes key spans before after reader got got' are e h = record {
  more = h.more;
  got_is = h.got_is;
  bad_spans = λ bad. absurd (bad are);
  before = before;
  after = after;
  spans_are = e;
  held = h.blocks;
  last = [];
  hold = h.hold;
  begins = none_begin volumes after;
  records_first =
      subst (λ bs. AreHeldFirst (blocks_of key bs) h.more) (sym (append-nil (joined_blocks h.blocks))) (read_first key (joined_blocks h.blocks) h.more reader h.read);
}

-- and of the part of the next span
pub span_front : (volumes : Volumes) (key : SessionKey) (spans before after : List Span) (s : Span) (reader : Reader) (got got' got'' : List Record) (bytes part : List ℕ)
    → AreSpans spans → spans ≡ before ++ s ∷ after → HasReadSpans volumes key before reader got got'
    → volumes s.volume ≡ Some bytes → IsPartOf bytes s part → HandsOverInPart reader got' got'' part → HandsOverFront volumes key spans got got''
span_front volumes key spans before after s reader got got' got'' bytes part are e h there is p = record {
  more = h.more ++ p.more;
  got_is = p.got_is ∙ ap (λ l. l ++ p.more) h.got_is ∙ append_assoc got h.more p.more;
  bad_spans = λ bad. absurd (bad are);
  before = before;
  after = s ∷ after;
  spans_are = e;
  held = h.blocks;
  last = p.done;
  hold = h.hold;
  begins = inr (record {
    bytes = bytes;
    part = part;
    number = p.number;
    rest = p.rest;
    there = there;
    part_is = is;
    begins = p.part_is;
    blocks_are = p.done_are;
  });
  records_first = p.first key (joined_blocks h.blocks) h.more h.read;
}

-- and of the next span, if it can't be read
pub span_stopped_front : (volumes : Volumes) (key : SessionKey) (spans before after : List Span) (s : Span) (reader : Reader) (got got' got'' : List Record)
    → AreSpans spans → spans ≡ before ++ s ∷ after → HasReadSpans volumes key before reader got got' → HandsOverInSpan volumes s reader got' got''
    → HandsOverFront volumes key spans got got''
span_stopped_front volumes key spans before after s reader got got' got'' are e h (inl none) =
    subst (λ g. HandsOverFront volumes key spans got g) (sym none) (spans_front volumes key spans before (s ∷ after) reader got got' are e h)
span_stopped_front volumes key spans before after s reader got got' got'' are e h (inr (bytes, part, there, is, p)) =
    span_front volumes key spans before after s reader got got' got'' bytes part are e h there is p

-- If the spans can be read, what was handed over of them are the first of their records.

-- if a span begins with some blocks, those that it holds go on from these
span_begins_held : (volumes : Volumes) (s : Span) (blocks held : List Block) → SpanBegins volumes s blocks → SpanHolds volumes s held → (more : List Block) × (held ≡ blocks ++ more)
span_begins_held volumes s blocks held b h =
    let same = same_bytes (volumes s.volume) b.bytes h.bytes b.there h.there in
    let part = part_one h.bytes b.part (images h.number held) s (subst (λ bytes. IsPartOf bytes s b.part) same b.part_is) h.part_is in
    let on = images_front b.number h.number blocks held b.rest b.blocks_are h.blocks_are (sym b.begins ∙ part) in
    (on.more, on.blocks_are)

next_begins_held : (volumes : Volumes) (s : Span) (after : List Span) (blocks held : List Block) → NextBegins volumes (s ∷ after) blocks → SpanHolds volumes s held → (more : List Block) × (held ≡ blocks ++ more)
next_begins_held volumes s after blocks held (inl none) h = (held, ap (λ l. l ++ held) (sym none))
next_begins_held volumes s after blocks held (inr b) h = span_begins_held volumes s blocks held b h

-- blocks that come first in the spans are the first of those that the spans hold
first_held : (volumes : Volumes) (before after : List Span) (held : List (List Block)) (last : List Block) (all : List (List Block))
    → AllHold volumes before held → NextBegins volumes after last → AllHold volumes (before ++ after) all
    → (more : List Block) × (joined_blocks all ≡ (joined_blocks held ++ last) ++ more)
first_held volumes before [] held last all hold begins whole =
    let same = all_hold_one volumes before all held (subst (λ ss. AllHold volumes ss all) (append-nil before) whole) hold in
    ([], ap joined_blocks same ∙ sym (append-nil (joined_blocks held)) ∙ ap (λ l. joined_blocks held ++ l) (sym begins) ∙ sym (append-nil (joined_blocks held ++ last)))
first_held volumes before (s ∷ after) held last all hold begins whole =
    let apart = hold_apart volumes before s after all whole in
    let same = all_hold_one volumes before apart.first held apart.before_hold hold in
    let on = next_begins_held volumes s after last apart.here begins apart.here_holds in
    let order : joined_blocks all ≡ joined_blocks held ++ ((last ++ on.0) ++ joined_blocks apart.later) =
    ap joined_blocks apart.blocks_are ∙ flat_map-append (λ bs. bs) apart.first (apart.here ∷ apart.later)
    ∙ ap (λ l. joined_blocks l ++ (apart.here ++ joined_blocks apart.later)) same
    ∙ ap (λ l. joined_blocks held ++ (l ++ joined_blocks apart.later)) on.1 in
    (on.0 ++ joined_blocks apart.later, order ∙ simp append_assoc)

-- no bodies hold no session
nothing_holds : (records : List Record) (standing : Standing) → Holds [] records standing → ⊥
nothing_holds records standing h =
    let none = no_fragments h.fragments (sym h.holds_by.bytes_are) in
    cc (sym none ∙ h.holds_by.session_is.order)

-- the first of the bodies hold the first of the records whole
held_first_front : (bodies others : List (List ℕ)) (first records : List Record) (ended : Bool) → AreHeldFirst bodies first → WholeOf (bodies ++ others) records ended
    → (later : List Record) × (records ≡ first ++ later)
held_first_front bodies others first records ended (inl none) w = (records, ap (λ l. l ++ records) (sym none))
held_first_front bodies others first records ended (inr h) w =
    let some : bodies ≢ [] = λ none. nothing_holds (first ++ h.0) h.1 (subst (λ bs. Holds bs (first ++ h.0) h.1) none h.2) in
    let front = holds_front bodies others records w.0 some w.1 in
    let one = holds_one bodies front.whole (first ++ h.0) front.standing h.1 front.holds h.2 in
    (h.0 ++ front.others, front.records_split ∙ ap (λ l. l ++ front.others) one.0 ∙ append_assoc first h.0 front.others)

-- if the spans can be read, the sink got the first of their records
pub front_of_records : HandedOverAreFirst
front_of_records volumes key spans got got' records ended h r =
    let first = joined_blocks h.held ++ h.last in
    let whole = subst (λ ss. AllHold volumes ss r.blocks) h.spans_are r.hold in
    let on = first_held volumes h.before h.after h.held h.last r.blocks h.hold h.begins whole in
    let all : blocks_of key (joined_blocks r.blocks) ≡ blocks_of key first ++ blocks_of key on.0 =
    ap (blocks_of key) on.1 ∙ blocks_of-append key first on.0 in
    let split = held_first_front (blocks_of key first) (blocks_of key on.0) h.more records ended h.records_first (subst (λ bodies. WholeOf bodies records ended) all r.whole) in
    record { more = h.more; others = split.0; got_is = h.got_is; records_are = split.1 }
