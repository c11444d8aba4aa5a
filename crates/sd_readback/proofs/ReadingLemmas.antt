-- Which blocks are in spans, and that spans read to one list.
use Rattle.std.proofs.Common.{◌≡◌, ℕ, suc, ◌+◌, ◌≤◌, refl, sym, ap, ap₂, subst, ◌∙◌, arith, List, [], ◌∷◌, ◌++◌, length, take, drop, Bool}
use Rattle.std.specs.Prelude.{Option, Some}
use Rattle.std.specs.List.{flat_map}
use Rattle.std.proofs.lemmas.List.{append_assoc, length-append, take_at, drop_at, take-append-drop}
use Rattle.sd_base.specs.Record.{Record}
use Rattle.sd_base.specs.declared.number.SessionKey.{SessionKey}
use Rattle.sd_label.specs.Cutting.{WholeOf, is_ended}
use Rattle.sd_label.proofs.CuttingLemmas.{holds_one}
use Rattle.sd_driver.specs.Shelf.{BeginsWith}
use Rattle.sd_span.specs.declared.span.Span.{Span}
use Rattle.sd_volume.specs.Image.{Block, images}
use Rattle.sd_readback.specs.Reading.{blocks_of}
use Rattle.sd_base.specs.Key.{is_key}
use Rattle.sd_readback.specs.Reading.{Volumes, IsPartOf, SpanHolds, AllHold, KeepSpans, ReadsToOneList, KeptSpansRead}
use Rattle.sd_span.proofs.SpanLemmas.{cond_more}
use Rattle.sd_readback.proofs.BlockLemmas.{images_one}

-- all the blocks of some spans, in order
abbrev pub joined_blocks : List (List Block) → List Block
joined_blocks blocks = flat_map (λ bs. bs) blocks

-- The part of a volume that a span names.

part_bytes : (bytes part : List ℕ) (s : Span) → IsPartOf bytes s part → part ≡ take (length part) (drop s.start bytes)
part_bytes bytes part s is =
    let behind : drop s.start bytes ≡ part ++ is.back = ap (drop s.start) is.bytes_are ∙ drop_at is.front (part ++ is.back) s.start is.start_is in
    sym (ap (take (length part)) behind ∙ take_at part is.back (length part) refl)

pub part_one : (bytes part part' : List ℕ) (s : Span) → IsPartOf bytes s part → IsPartOf bytes s part' → part ≡ part'
part_one bytes part part' s is is' =
    let here = is.end_is in
    let there = is'.end_is in
    let same : length part ≡ length part' = omega arith in
    part_bytes bytes part s is ∙ ap (λ n. take n (drop s.start bytes)) same ∙ sym (part_bytes bytes part' s is')

pub part_within : (bytes part : List ℕ) (s : Span) → IsPartOf bytes s part → s.end ≤ length bytes
part_within bytes part s is =
    let whole : length bytes ≡ length is.front + (length part + length is.back) = ap length is.bytes_are ∙ length-append is.front (part ++ is.back) ∙ ap (λ n. length is.front + n) (length-append part is.back) in
    let from = is.start_is in
    let to = is.end_is in
    omega arith

pub same_bytes : (there : Option (List ℕ)) (bytes bytes' : List ℕ) → there ≡ Some bytes → there ≡ Some bytes' → bytes ≡ bytes'
same_bytes there bytes bytes' e e' = cc

pub span_holds_one : (volumes : Volumes) (s : Span) (blocks others : List Block) → SpanHolds volumes s blocks → SpanHolds volumes s others → blocks ≡ others
span_holds_one volumes s blocks others h h' =
    let same = same_bytes (volumes s.volume) h.bytes h'.bytes h.there h'.there in
    let part = subst (λ bytes. IsPartOf bytes s (images h.number blocks)) same h.part_is in
    images_one h.number h'.number blocks others h.blocks_are h'.blocks_are (part_one h'.bytes _ _ s part h'.part_is)

pub all_hold_one : (volumes : Volumes) (spans : List Span) (blocks others : List (List Block)) → AllHold volumes spans blocks → AllHold volumes spans others → blocks ≡ others
all_hold_one volumes [] [] [] h h' = refl
all_hold_one volumes [] [] (c ∷ cs) h h' = absurd h'
all_hold_one volumes [] (b ∷ bs) others h h' = absurd h
all_hold_one volumes (s ∷ ss) [] others h h' = absurd h
all_hold_one volumes (s ∷ ss) (b ∷ bs) [] h h' = absurd h'
all_hold_one volumes (s ∷ ss) (b ∷ bs) (c ∷ cs) h h' =
    ap₂ (λ (x : List Block) (l : List (List Block)). x ∷ l) (span_holds_one volumes s b c h.0 h'.0) (all_hold_one volumes ss bs cs h.1 h'.1)

pub AllHold-more : (volumes : Volumes) (spans : List Span) (blocks : List (List Block)) (s : Span) (bs : List Block)
    → AllHold volumes spans blocks → SpanHolds volumes s bs → AllHold volumes (spans ++ s ∷ []) (blocks ++ bs ∷ [])
AllHold-more volumes [] [] s bs h one = (one, tt)
AllHold-more volumes [] (b ∷ blocks) s bs h one = absurd h
AllHold-more volumes (t ∷ spans) [] s bs h one = absurd h
AllHold-more volumes (t ∷ spans) (b ∷ blocks) s bs h one = (h.0, AllHold-more volumes spans blocks s bs h.1 one)

-- what some spans and those after them hold
pub record HoldApart (volumes : Volumes) (before : List Span) (at : Span) (blocks : List (List Block)) : Type 0 where
  pub first : List (List Block)
  pub here : List Block
  pub later : List (List Block)
  pub blocks_are : blocks ≡ first ++ here ∷ later
  pub before_hold : AllHold volumes before first
  pub here_holds : SpanHolds volumes at here

pub hold_apart : (volumes : Volumes) (before : List Span) (at : Span) (after : List Span) (blocks : List (List Block))
    → AllHold volumes (before ++ at ∷ after) blocks → HoldApart volumes before at blocks
hold_apart volumes [] at after [] h = absurd h
hold_apart volumes [] at after (b ∷ bs) h = record {
  first = [];
  here = b;
  later = bs;
  blocks_are = refl;
  before_hold = tt;
  here_holds = h.0;
}
hold_apart volumes (s ∷ before) at after [] h = absurd h
hold_apart volumes (s ∷ before) at after (b ∷ bs) h =
    let rest = hold_apart volumes before at after bs h.1 in
    record {
      first = b ∷ rest.first;
      here = rest.here;
      later = rest.later;
      blocks_are = ap (λ l. b ∷ l) rest.blocks_are;
      before_hold = (h.0, rest.before_hold);
      here_holds = rest.here_holds;
    }

-- The bodies of a session among blocks.

pub blocks_of-append : (key : SessionKey) (xs ys : List Block) → blocks_of key (xs ++ ys) ≡ blocks_of key xs ++ blocks_of key ys
blocks_of-append key [] ys = refl
blocks_of-append key (x ∷ xs) ys =
    cond_more (is_key key x.key) x.body (blocks_of key xs) (blocks_of key ys) (blocks_of key (xs ++ ys)) (blocks_of-append key xs ys)

-- Spans read to one list.

pub whole_one : (bodies : List (List ℕ)) (records others : List Record) (ended ended' : Bool) → WholeOf bodies records ended → WholeOf bodies others ended'
    → (records ≡ others) × (ended ≡ ended')
whole_one bodies records others ended ended' w w' =
    let same = holds_one bodies records others w.0 w'.0 w.1 w'.1 in
    (same.0, w.2 ∙ ap is_ended same.1 ∙ sym w'.2)

pub reads_one : ReadsToOneList
reads_one volumes key spans records others ended ended' r r' =
    let same = all_hold_one volumes spans r.blocks r'.blocks r.hold r'.hold in
    whole_one (blocks_of key (joined_blocks r'.blocks)) records others ended ended'
    (subst (λ bss. WholeOf (blocks_of key (joined_blocks bss)) records ended) same r.whole) r'.whole

-- Bytes that stay keep what spans read to.

-- the front of a volume up to the end of what is there, and what comes after it in another
kept_front : (bytes after front part back : List ℕ) (end : ℕ) → bytes ≡ front ++ (part ++ back) → length front + length part ≡ end → BeginsWith after (take end bytes)
    → after ≡ front ++ (part ++ drop end after)
kept_front bytes after front part back end e long begins =
    let whole : bytes ≡ (front ++ part) ++ back = e ∙ sym (append_assoc front part back) in
    let here : take end bytes ≡ front ++ part = ap (take end) whole ∙ take_at (front ++ part) back end (length-append front part ∙ long) in
    let size : length (take end bytes) ≡ end = ap length here ∙ length-append front part ∙ long in
    let same : take end after ≡ front ++ part = ap (λ n. take n after) (sym size) ∙ begins ∙ here in
    sym (take-append-drop end after) ∙ ap (λ l. l ++ drop end after) same ∙ append_assoc front part (drop end after)

span_kept : (old new : Volumes) (s : Span) (blocks : List Block)
    → ((bytes : List ℕ) → old s.volume ≡ Some bytes → (after : List ℕ) × (new s.volume ≡ Some after) × BeginsWith after (take s.end bytes))
    → SpanHolds old s blocks → SpanHolds new s blocks
span_kept old new s blocks keeps h =
    let after = keeps h.bytes h.there in
    let part = h.part_is in
    let from = part.start_is in
    let to = part.end_is in
    record {
      bytes = after.0;
      number = h.number;
      there = after.1;
      part_is = record {
        front = part.front;
        back = drop s.end after.0;
        bytes_are = kept_front h.bytes after.0 part.front (images h.number blocks) part.back s.end part.bytes_are (omega arith) after.2;
        start_is = part.start_is;
        end_is = part.end_is;
      };
      blocks_are = h.blocks_are;
    }

all_kept : (old new : Volumes) (spans : List Span) (blocks : List (List Block)) → KeepSpans spans old new → AllHold old spans blocks → AllHold new spans blocks
all_kept old new [] [] keeps h = tt
all_kept old new [] (b ∷ bs) keeps h = h
all_kept old new (s ∷ ss) [] keeps h = h
all_kept old new (s ∷ ss) (b ∷ bs) keeps h = (span_kept old new s b (keeps 0 s (omega arith)) h.0, all_kept old new ss bs (λ k d lt. keeps (suc k) d (omega arith)) h.1)

pub kept_read : KeptSpansRead
kept_read old new key spans records ended keeps r = record {
  some_span = r.some_span;
  numbered = r.numbered;
  blocks = r.blocks;
  hold = all_kept old new spans r.blocks keeps r.hold;
  some_block = r.some_block;
  whole = r.whole;
}
