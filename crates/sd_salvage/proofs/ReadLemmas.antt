-- A session that reads back is salvaged as it reads.
use Rattle.std.proofs.Common.{◌≡◌, inl, inr, ℕ, ◌+◌, Bool, true, false, refl, sym, ap, ap₂, subst, ◌∙◌, arith, List, [], ◌∷◌, ◌++◌, length, map, take, drop}
use Rattle.std.specs.Prelude.{Option, None, Some, nat_eq, if◌then◌else◌}
use Rattle.std.specs.List.{flat_map}
use Rattle.std.proofs.lemmas.Bool.{cases_lt}
use Rattle.std.proofs.lemmas.Cmp.{nat_eq_equiv}
use Rattle.std.proofs.lemmas.List.{append_assoc, append-nil, drop-drop, drop_at, length-append, take_at}
use Rattle.sd_base.specs.Key.{is_key}
use Rattle.sd_base.specs.Limits.{most_block}
use Rattle.sd_base.specs.Record.{Record}
use Rattle.sd_base.specs.declared.number.SessionKey.{SessionKey}
use Rattle.sd_block.specs.Image.{IsBlockImage, block_image}
use Rattle.sd_block.proofs.ImageLemmas.{length-block_image, one_block}
use Rattle.sd_collect.specs.Collect.{AreTokensOf}
use Rattle.sd_collect.specs.Whole.{AreWholeIn, Place, Token, parts_of}
use Rattle.sd_collect.proofs.WholeLemmas.{parts-append, session_whole, whole_one_list}
use Rattle.sd_label.specs.Cutting.{AreBodies, Holds, Standing, is_ended, joined}
use Rattle.sd_label.proofs.CuttingLemmas.{holds_front, holds_one}
use Rattle.sd_readback.specs.Reading.{AllHold, Reads, SpanHolds, Volumes, blocks_of}
use Rattle.sd_record.specs.Fragment.{FitTogether, Fragment, fragment_bytes, fragments_bytes}
use Rattle.sd_record.proofs.FragmentLemmas.{fragment_apart, fragments_apart, never_empty}
use Rattle.sd_scan.proofs.VolumeLemmas.{between_start}
use Rattle.sd_span.specs.declared.span.Span.{Span}
use Rattle.sd_unpack.specs.Damage.{AreWhole, BeginsWithNone}
use Rattle.sd_volume.specs.Image.{AreImages, BeginsWithBlock, Block, images}
use Rattle.sd_salvage.specs.Readable.{AreReadable, FindsInSpan, FindsInSpans, IsNext, Lost, Piece, Read, Stored, end_of, is_due, pieces_of, place}
use Rattle.sd_salvage.specs.Salvage.{Course, GiveAll, GivesIn, IsEndOf, IsTold, Salvages}
use Rattle.sd_salvage.specs.declared.session.SalvageEnd.{SalvageEnd}
use Rattle.sd_salvage.proofs.ReadableLemmas.{none_before_due, none_rest, one_size}
use Rattle.sd_salvage.proofs.SalvageLemmas.{not_empty}

-- Blocks.

-- the pieces are these blocks, and no place from which on some may be lost
abbrev AreReads : List Piece → List Block → Type 0
AreReads [] [] = Unit {0}
AreReads [] (c ∷ bs) = ⊥
AreReads (Lost at ∷ ps) bs = ⊥
AreReads (Read at b ∷ ps) [] = ⊥
AreReads (Read at b ∷ ps) (c ∷ bs) = (b.key ≡ c.key) × (b.body ≡ c.body) × AreReads ps bs

reads_then : (ps qs : List Piece) (bs cs : List Block) → AreReads ps bs → AreReads qs cs → AreReads (ps ++ qs) (bs ++ cs)
reads_then [] qs [] cs a b = b
reads_then [] qs (x ∷ bs) cs a b = absurd a
reads_then (Lost at ∷ ps) qs bs cs a b = absurd a
reads_then (Read at c ∷ ps) qs [] cs a b = absurd a
reads_then (Read at c ∷ ps) qs (d ∷ bs) cs a b = (a.0, a.1, reads_then ps qs bs cs a.2 b)

-- from a place on the bytes are the images of these blocks, up to the end
record HoldFrom (bytes : List ℕ) (at end number : ℕ) (blocks : List Block) : Type 0 where
  pub back : List ℕ
  pub there : drop at bytes ≡ images number blocks ++ back
  pub end_is : at + length (images number blocks) ≡ end
  pub are : AreImages number blocks

begins_here : (bytes : List ℕ) (at end number : ℕ) (c : Block) (cs : List Block) → HoldFrom bytes at end number (c ∷ cs) → BeginsWithBlock (drop at bytes) c.key number c.body
begins_here bytes at end number c cs h =
    let image = block_image c.key number c.body in
    let front : take (24 + length c.body) (drop at bytes) ≡ image =
    ap (take (24 + length c.body)) (h.there ∙ append_assoc image (images (number + 1) cs) h.back) ∙ take_at image (images (number + 1) cs ++ h.back) (24 + length c.body) (length-block_image c.key number c.body) in
    subst (λ (l : List ℕ). IsBlockImage most_block l c.key number c.body) (sym front) h.are.0

rest_here : (bytes : List ℕ) (at end number : ℕ) (c : Block) (cs : List Block) → HoldFrom bytes at end number (c ∷ cs) → HoldFrom bytes (at + (24 + length c.body)) end (number + 1) cs
rest_here bytes at end number c cs h =
    let image = block_image c.key number c.body in
    let rest = images (number + 1) cs in
    let long = length-block_image c.key number c.body in
    record {
      back = h.back;
      there = sym (drop-drop (24 + length c.body) at bytes) ∙ ap (drop (24 + length c.body)) (h.there ∙ append_assoc image rest h.back) ∙ drop_at image (rest ++ h.back) (24 + length c.body) long;
      end_is = let end_is = h.end_is in let both = length-append image rest in omega (arith, long, both, end_is);
      are = h.are.1;
    }

-- the block that is read next is the one that lies there
record IsThere (b : Stored) (at number : ℕ) (c : Block) : Type 0 where
  pub at_is : b.at ≡ at
  pub number_is : b.number ≡ number
  pub key_is : b.block.key ≡ c.key
  pub body_is : b.block.body ≡ c.body

next_is : (bytes : List ℕ) (at end number : ℕ) (c : Block) (cs : List Block) (b : Stored) → HoldFrom bytes at end number (c ∷ cs) → IsNext bytes at end b → IsThere b at number c
next_is bytes at end number c cs b h next =
    let here = begins_here bytes at end number c cs h in
    let same = place_same here in
    let there : BeginsWithBlock (drop at bytes) b.block.key b.number b.block.body = subst (λ n. BeginsWithBlock (drop n bytes) b.block.key b.number b.block.body) same next.there in
    let size = one_size (drop at bytes) b.block.key c.key b.number number b.block.body c.body there here in
    let there_so = subst (λ n. IsBlockImage most_block (take (24 + n) (drop at bytes)) b.block.key b.number b.block.body) size there in
    let parts = one_block most_block most_block (take (24 + length c.body) (drop at bytes)) b.block.key c.key b.number number b.block.body c.body there_so here in
    record { at_is = same; number_is = parts.1; key_is = parts.0; body_is = parts.2 }
  where
    place_same : BeginsWithBlock (drop at bytes) c.key number c.body → b.at ≡ at
    place_same here = elim (cases_lt at b.at) [
      | inl below ↦ absurd (next.none_before at (omega arith) below c.key number c.body here)
      | inr not ↦ (let behind = next.behind in omega (arith, not, behind))
    ]

span_reads : (volume bytes : List ℕ) (at end number : ℕ) (last : Option ℕ) (blocks : List Block) (stored : List Stored) → HoldFrom bytes at end number blocks → is_due last number ≡ true
    → AreReadable bytes at end stored → AreReads (pieces_of volume at last end stored) blocks
span_reads volume bytes at end number last [] [] h due are =
    let end_is = h.end_is in
    subst (λ (ps : List Piece). AreReads ps []) (sym (none_rest volume at end (omega (arith, end_is)))) tt
span_reads volume bytes at end number last [] (b ∷ bs) h due are =
    let end_is = h.end_is in
    let behind = are.0.behind in
    let within = are.0.within in
    absurd (omega (arith, end_is, behind, within))
span_reads volume bytes at end number last (c ∷ cs) [] h due are =
    let rest = rest_here bytes at end number c cs h in
    let end_is = rest.end_is in
    absurd (are (record { at = at; number = number; block = c }) (record {
      behind = omega arith;
      there = begins_here bytes at end number c cs h;
      none_before = between_start bytes at;
      within = omega (arith, end_is);
    }))
span_reads volume bytes at end number last (c ∷ cs) (b ∷ bs) h due are =
    let one = next_is bytes at end number c cs b h are.0 in
    let end_same : at + (24 + length c.body) ≡ end_of b = ap₂ (λ (n : ℕ) (l : List ℕ). n + (24 + length l)) (sym one.at_is) (sym one.body_is) in
    let rest = subst (λ n. HoldFrom bytes n end (number + 1) cs) end_same (rest_here bytes at end number c cs h) in
    let next : is_due (Some b.number) (number + 1) ≡ true = ap (λ n. nat_eq (number + 1) (n + 1)) one.number_is ∙ nat_eq_equiv.refl (number + 1) in
    subst (λ (ps : List Piece). AreReads (ps ++ (Read (place volume b.at) b.block ∷ pieces_of volume (end_of b) (Some b.number) end bs)) (c ∷ cs))
    (sym (none_before_due volume at last b one.at_is (ap (is_due last) one.number_is ∙ due)))
    (one.key_is, one.body_is, span_reads volume bytes (end_of b) end (number + 1) (Some b.number) cs bs rest next are.1)

some_is : {X : Type 0} {a b : X} → Some a ≡ Some b → a ≡ b
some_is e = cc

find_reads : (volumes : Volumes) (s : Span) (blocks : List Block) (pieces : List Piece) → SpanHolds volumes s blocks → FindsInSpan volumes s pieces → AreReads pieces blocks
find_reads volumes s blocks pieces holds (inl absent) = cc (sym absent.0 ∙ holds.there)
find_reads volumes s blocks pieces holds (inr (bytes, stored, there, are, pieces_are)) =
    let same : bytes ≡ holds.bytes = some_is (sym there ∙ holds.there) in
    let part = holds.part_is in
    let from : HoldFrom holds.bytes s.start s.end holds.number blocks = record {
      back = part.back;
      there = ap (drop s.start) part.bytes_are ∙ drop_at part.front (images holds.number blocks ++ part.back) s.start part.start_is;
      end_is = part.end_is;
      are = holds.blocks_are;
    } in
    subst (λ (ps : List Piece). AreReads ps blocks) (sym pieces_are)
    (span_reads s.volume holds.bytes s.start s.end holds.number None blocks stored from refl (subst (λ (l : List ℕ). AreReadable l s.start s.end stored) same are))

all_reads : (volumes : Volumes) (ss : List Span) (blocks : List (List Block)) (pieces : List Piece) → AllHold volumes ss blocks → FindsInSpans volumes ss pieces
    → AreReads pieces (flat_map (λ bs. bs) blocks)
all_reads volumes [] [] pieces hold found = subst (λ (ps : List Piece). AreReads ps []) (sym found) tt
all_reads volumes [] (bs ∷ blocks) pieces hold found = absurd hold
all_reads volumes (s ∷ ss) [] pieces hold found = absurd hold
all_reads volumes (s ∷ ss) (bs ∷ blocks) pieces hold (here, others, one, more, are) =
    subst (λ (ps : List Piece). AreReads ps (bs ++ flat_map (λ l. l) blocks)) (sym are)
    (reads_then here others bs (flat_map (λ l. l) blocks) (find_reads volumes s bs here hold.0 one) (all_reads volumes ss blocks others hold.1 more))

-- Bodies.

-- what whole fragments are followed by, in a body that is fragments to its end, begins with one
never_stops : (fs gs : List Fragment) (rest : List ℕ) → FitTogether fs → AreWhole gs → fragments_bytes fs ≡ fragments_bytes gs ++ rest → (rest ≡ [] → ⊥) → BeginsWithNone rest → ⊥
never_stops [] [] rest fit whole e some none = some (sym e)
never_stops (f ∷ fs) [] rest fit whole e some none =
    none f (fragments_bytes fs) (record { fragment_is = fit.0; bytes_are = sym e; last = λ goes. ap fragments_bytes (fit.1 goes) })
never_stops [] (g ∷ gs) rest fit whole e some none = never_empty g gs (front_nil (fragments_bytes (g ∷ gs)) rest (sym e))
  where
    front_nil : (xs ys : List ℕ) → xs ++ ys ≡ [] → xs ≡ []
    front_nil [] ys e = refl
    front_nil (x ∷ xs) ys e = cc e
never_stops (f ∷ fs) (g ∷ gs) rest fit whole e some none =
    let both = e ∙ append_assoc (fragment_bytes g) (fragments_bytes gs) rest in
    let apart = fragment_apart f g (fragments_bytes fs) (fragments_bytes gs ++ rest) fit.0 whole.0 (λ goes. ap fragments_bytes (fit.1 goes)) (λ goes. absurd (whole.1 goes)) both in
    never_stops fs gs rest fit.2 whole.2 apart.1 some none

tokens_one : (body : List ℕ) (fs : List Fragment) (whole : Bool) (tokens : List Token) → body ≡ fragments_bytes fs → FitTogether fs → AreTokensOf body whole tokens → (whole ≡ true) × (tokens ≡ parts_of fs)
tokens_one body fs true tokens is fit (gs, are, fits, tokens_are) =
    (refl, tokens_are ∙ ap parts_of (fragments_apart gs fs fits fit (sym are ∙ is)))
tokens_one body fs false tokens is fit (gs, rest, are, whole, some, none, tokens_are) =
    absurd (never_stops fs gs rest fit whole (sym is ∙ are) some none)

-- how the pieces give a session that is whole
record GoesThrough (key : SessionKey) (bs : List Block) (bodies : List (List ℕ)) (gs : List (List Fragment)) (after : Course) (tokens : List Token) (told : List Place) : Type 0 where
  pub after_is : after ≡ Some (bodies ++ blocks_of key bs)
  pub told_is : told ≡ []
  pub tokens_are : tokens ≡ parts_of (joined gs)

first_of : (x y : List ℕ) (xs ys : List (List ℕ)) → x ∷ xs ≡ y ∷ ys → x ≡ y
first_of x y xs ys e = cc

others_of : (x y : List ℕ) (xs ys : List (List ℕ)) → x ∷ xs ≡ y ∷ ys → xs ≡ ys
others_of x y xs ys e = cc

-- so they do, whatever bodies come first
abbrev GoesAll : SessionKey → List Piece → List Block → Type 0
GoesAll key ps bs =
    (bodies : List (List ℕ)) (gs : List (List Fragment)) (after : Course) (tokens : List Token) (told : List Place) (records : List Record) (standing : Standing)
    → GiveAll key ps (Some bodies) after tokens told → Holds (bodies ++ blocks_of key bs) records standing → blocks_of key bs ≡ map fragments_bytes gs → AreBodies gs
    → GoesThrough key bs bodies gs after tokens told

goes_one : (key : SessionKey) (at : Place) (b c : Block) (ps : List Piece) (bs : List Block) → GoesAll key ps bs → b.key ≡ c.key → b.body ≡ c.body → GoesAll key (Read at b ∷ ps) (c ∷ bs)
goes_one key at b c ps bs goes key_is body_is bodies gs after tokens told records standing (between, here, others, told_here, told_others, gives, give, tokens_are, told_are) holds is bodies_are =
    by_key (is_key key b.key) refl
  where
    all : Bool → List (List ℕ)
    all own = if own then c.body ∷ blocks_of key bs else blocks_of key bs

    other : GivesIn false at b (Some bodies) between here told_here → blocks_of key (c ∷ bs) ≡ blocks_of key bs → GoesThrough key (c ∷ bs) bodies gs after tokens told
    other none same =
        let give_so = subst (λ (course : Course). GiveAll key ps course after others told_others) none.1 give in
        let rest = goes bodies gs after others told_others records standing give_so (subst (λ (l : List (List ℕ)). Holds (bodies ++ l) records standing) same holds) (sym same ∙ is) bodies_are in
        record {
          after_is = rest.after_is ∙ ap (λ (l : List (List ℕ)). Some (bodies ++ l)) (sym same);
          told_is = told_are ∙ ap (λ (l : List Place). l ++ told_others) none.2 ∙ rest.told_is;
          tokens_are = tokens_are ∙ ap (λ (l : List Token). l ++ others) none.0 ∙ rest.tokens_are;
        }

    followed : blocks_of key (c ∷ bs) ≡ b.body ∷ blocks_of key bs → Holds ((bodies ++ b.body ∷ []) ++ blocks_of key bs) records standing
    followed same = subst (λ (l : List (List ℕ)). Holds l records standing) (ap (λ (l : List (List ℕ)). bodies ++ l) same ∙ sym (append_assoc bodies (b.body ∷ []) (blocks_of key bs))) holds

    told_so : blocks_of key (c ∷ bs) ≡ b.body ∷ blocks_of key bs → IsTold true at b.body (Some bodies) between told_here → (between ≡ Some (bodies ++ b.body ∷ [])) × (told_here ≡ [])
    told_so same (inl follows) = (follows.1, follows.2)
    told_so same (inr stops) =
        let front = holds_front (bodies ++ b.body ∷ []) (blocks_of key bs) records standing (not_empty bodies b.body) (followed same) in
        absurd (stops.0 (front.whole, front.standing, front.holds))

    own : GivesIn true at b (Some bodies) between here told_here → blocks_of key (c ∷ bs) ≡ b.body ∷ blocks_of key bs → (fs : List (List Fragment)) → gs ≡ fs → GoesThrough key (c ∷ bs) bodies gs after tokens told
    own gives same [] gs_are = cc (sym same ∙ is ∙ ap (map fragments_bytes) gs_are)
    own (whole, are_tokens, is_told) same (f ∷ fs) gs_are =
        let split : b.body ∷ blocks_of key bs ≡ fragments_bytes f ∷ map fragments_bytes fs = sym same ∙ is ∙ ap (map fragments_bytes) gs_are in
        let fit = subst AreBodies gs_are bodies_are in
        let one = tokens_one b.body f whole here (first_of b.body (fragments_bytes f) (blocks_of key bs) (map fragments_bytes fs) split) fit.1 are_tokens in
        let told_is = told_so same (subst (λ w. IsTold w at b.body (Some bodies) between told_here) one.0 is_told) in
        let give_so = subst (λ (course : Course). GiveAll key ps course after others told_others) told_is.0 give in
        let rest = goes (bodies ++ b.body ∷ []) fs after others told_others records standing give_so (followed same)
        (others_of b.body (fragments_bytes f) (blocks_of key bs) (map fragments_bytes fs) split) fit.2 in
        record {
          after_is = rest.after_is ∙ ap Some (append_assoc bodies (b.body ∷ []) (blocks_of key bs) ∙ ap (λ (l : List (List ℕ)). bodies ++ l) (sym same));
          told_is = told_are ∙ ap (λ (l : List Place). l ++ told_others) told_is.1 ∙ rest.told_is;
          tokens_are = tokens_are ∙ ap₂ (λ (l m : List Token). l ++ m) one.1 rest.tokens_are ∙ sym (parts-append f (joined fs)) ∙ ap (λ (l : List (List Fragment)). parts_of (joined l)) (sym gs_are);
        }

    by_key : (own_key : Bool) → is_key key b.key ≡ own_key → GoesThrough key (c ∷ bs) bodies gs after tokens told
    by_key false apart = other (subst (λ o. GivesIn o at b (Some bodies) between here told_here) apart gives) (ap all (ap (is_key key) (sym key_is) ∙ apart))
    by_key true same = own (subst (λ o. GivesIn o at b (Some bodies) between here told_here) same gives)
        (ap all (ap (is_key key) (sym key_is) ∙ same) ∙ ap (λ (l : List ℕ). l ∷ blocks_of key bs) (sym body_is)) gs refl

goes_through : (key : SessionKey) (ps : List Piece) (bs : List Block) → AreReads ps bs → GoesAll key ps bs
goes_through key [] [] are bodies [] after tokens told records standing give holds is bodies_are =
    record { after_is = give.1 ∙ ap Some (sym (append-nil bodies)); told_is = give.2; tokens_are = give.0 }
goes_through key [] [] are bodies (g ∷ gs) after tokens told records standing give holds is bodies_are = cc is
goes_through key [] (c ∷ bs) are bodies gs after tokens told records standing give holds is bodies_are = absurd are
goes_through key (Lost at ∷ ps) bs are bodies gs after tokens told records standing give holds is bodies_are = absurd are
goes_through key (Read at b ∷ ps) [] are bodies gs after tokens told records standing give holds is bodies_are = absurd are
goes_through key (Read at b ∷ ps) (c ∷ bs) are bodies gs after tokens told records standing give holds is bodies_are =
    goes_one key at b c ps bs (goes_through key ps bs are.2) are.0 are.1 bodies gs after tokens told records standing give holds is bodies_are

-- The law.

ends_read : (bodies : List (List ℕ)) (records : List Record) (standing : Standing) (end : SalvageEnd) (ended : Bool) → Holds bodies records standing → ended ≡ is_ended standing → IsEndOf (Some bodies) end
    → end ≡ record { sound = true; ended = ended }
ends_read bodies records standing end ended holds ended_is is =
    let (others, whole) = is.1 in
    let (other, held, end_ended) = whole in
    let one = holds_one bodies others records other standing held holds in
    ap₂ (λ (s e : Bool). record { sound = s; ended = e }) is.0 (end_ended ∙ ap is_ended one.1 ∙ sym ended_is)

-- of spans that a session reads back from just its records are salvaged, nothing is told, and it ends as it is read
pub read_salvaged : (volumes : Volumes) (key : SessionKey) (spans : List Span) (records all : List Record) (told : List Place) (end : SalvageEnd) (ended : Bool)
    → Salvages volumes key spans records told end → Reads volumes key spans all ended → (records ≡ all) × (told ≡ []) × (end ≡ record { sound = true; ended = ended })
read_salvaged volumes key spans records all told end ended s r =
    let (standing, holds, ended_is) = r.whole in
    let blocks = flat_map (λ bs. bs) r.blocks in
    let through = goes_through key s.pieces blocks (all_reads volumes spans r.blocks s.pieces r.hold s.found) [] holds.fragments s.course s.tokens told all standing s.give holds holds.holds_by.bytes_are holds.holds_by.bodies_are in
    let whole = subst (λ (l : List Token). AreWholeIn l all) (sym through.tokens_are) (session_whole (joined holds.fragments) all standing holds.holds_by.session_is) in (
      whole_one_list s.tokens records all s.whole whole,
      through.told_is,
      ends_read (blocks_of key blocks) all standing end ended holds ended_is (subst (λ (course : Course). IsEndOf course end) through.after_is s.end_is),
    )
