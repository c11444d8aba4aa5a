-- What is kept of each session, as blocks are noted and marked.
use Rattle.std.proofs.Common.{◌≡◌, ◌≢◌, ℕ, ◌+◌, ◌≤◌, ◌<◌, Bool, true, false, cond, List, [], ◌∷◌, ◌++◌, length, map, refl, ap, ap₂, sym, ◌∙◌, arith, subst}
use Rattle.std.specs.Prelude.{◌==◌, ◌||◌, ◌&&◌, nat_lt, All, AllPairs, Result, Ok, Err, Option, None, Some}
use Rattle.std.specs.List.{list_any, sum_by}
use Rattle.std.specs.Option.{MatchOption}
use Rattle.std.specs.Result.{OnErr}
use Rattle.std.specs.Str.{bytes_eq}
use Rattle.std.proofs.lemmas.Bool.{cond-true, cond-false, cond_both, ltb-true, ltb-false, lt-ltb, true≢false, false_from_ne_true}
use Rattle.std.proofs.lemmas.List.{length-map}
use Rattle.std.proofs.lemmas.List.Elements.{All-nil, All-cons, All-head, All-tail, All-weaker, All-map}
use Rattle.std.proofs.lemmas.List.Sums.{sum_by-cons}
use Rattle.std.proofs.lemmas.Slice.Eq.{bytes_eq-Decides}
use Rattle.sd_base.specs.FileIndex.{first_nonzero}
use Rattle.sd_base.specs.Key.{is_key}
use Rattle.sd_base.specs.declared.number.SessionKey.{SessionKey}
use Rattle.sd_span.specs.declared.span.Span.{Span}
use Rattle.sd_span.specs.declared.placement.Placement.{Placement}
use Rattle.sd_span.specs.Spans.{placements_of, stretch_of, in_front, stretches, grown}
use Rattle.sd_span.proofs.SpanLemmas.{stretches_grow}
use Rattle.sd_journal.specs.declared.counts.Counts.{Counts}
use Rattle.sd_journal.specs.declared.lying.Lying.{Lying}
use Rattle.sd_journal.specs.declared.mark.Mark.{Mark}
use Rattle.sd_journal.specs.declared.mark.Mark.TheVariants.{Unsynced, Synced, Lost, Purged}
use Rattle.sd_journal.specs.declared.noted.Noted.{Noted}
use Rattle.sd_journal.specs.declared.shares.Shares.{Shares}
use Rattle.sd_journal.specs.declared.stretch.Stretch.{Stretch}
use Rattle.sd_journal.specs.Journal.{Entry, placements, noted, is_unsynced, is_synced, is_lost, is_purged, placed_of, counts_of, fails, fails_with, has_on}
use Rattle.sd_journal.specs.Kept.{marked, takes}
use Rattle.sd_journal.specs.Names.{name_at, with_name, IsPlaceOf}
use Rattle.sd_journal.specs.Noted.{placement_of, index_after, last_index}
use Rattle.sd_journal.specs.ShareView.{ShareView}
use Rattle.sd_journal.specs.Share.{share_of, ChangesAt, readied, with_noted, with_marks, HasRoom, lies, marks_on, count_on, IsShareOf, AreSharesOf}
use Rattle.sd_journal.specs.Stretch.{HasName, span_of, is_on, begun_by, longer_by, grown_by, with_mark, marked_at}
use Rattle.sd_journal.proofs.CellLemmas.{index_more}
use Rattle.sd_journal.proofs.CountLemmas.{Test, on, off, one_on, marks_front, marks_more, count_front, grown_count, marks_cleared, marks_gained, marks_kept, count_cleared, count_gained, count_kept, marked_volume, none_unsynced}
use Rattle.sd_journal.proofs.EntryLemmas.{placements_more, own_more, other_more, placed_more, placed_front, marked_placements, one_if}
use Rattle.sd_journal.proofs.KeyLemmas.{key_same, key_turned}
use Rattle.sd_journal.proofs.NameLemmas.{found_is, place_is, name_stays}

-- what is kept of a session fits the entries
abbrev pub Fits : List (List ℕ) → List Noted → List Entry → SessionKey → Option ShareView → Type 0
Fits names ns es key share = MatchOption share (placed_of key es ≡ 0) (IsShareOf names ns es key)

-- A change at one session.

-- what held of each session holds where it changes, and elsewhere
moved : (P : SessionKey → Option ShareView → Type 0) (key : SessionKey) (change : Option ShareView → Option ShareView) (s s' : Shares) → ChangesAt key change s s'
    → (q : SessionKey) → (is_key key q ≡ true → P q (change (share_of s q))) → (is_key key q ≡ false → P q (share_of s q)) → P q (share_of s' q)
moved P key change s s' changes q here elsewhere =
    rw (changes q) (cond_both (is_key key q) (change (share_of s q)) (share_of s q) (P q) here elsewhere)

-- what is kept of a new session
pub insert_step : (f : SessionKey → Option ShareView) (key other : SessionKey) (b : Bool) → is_key key other ≡ b → f key ≡ None
    → cond b (readied None) (f other) ≡ cond b (readied (f other)) (f other)
insert_step f key other true same none = ap readied (sym none ∙ ap f (key_same key other same))
insert_step f key other false apart none = refl

-- what holds anyway holds after an Err
pub on_err : {T E : Type 0} (r : Result T E) (P : Type 0) → P → OnErr r P
on_err (Ok x) P p = tt
on_err (Err e) P p = p

-- Of a session without entries.

nil_of : {X : Type 0} (xs : List X) → length xs ≡ 0 → xs ≡ []
nil_of [] none = refl
nil_of (x ∷ xs) none = absurd (omega (arith, none))

one_zero : (own t k : Bool) → own ≡ false → one_if (own && (t && k)) ≡ 0
one_zero own t k other = ap (λ b. one_if (b && (t && k))) other

own_zero : (own : Bool) (n : ℕ) → cond own 1 0 + n ≡ 0 → (own ≡ false) × (n ≡ 0)
own_zero true n none = absurd (omega (arith, none))
own_zero false n none = (refl, omega (arith, none))

marks_none : (key : SessionKey) (test : Test) (kind : Mark → Bool) (es : List Entry) → placed_of key es ≡ 0 → marks_on key test kind es ≡ 0
marks_none key test kind [] none = refl
marks_none key test kind (e ∷ es) none =
    let parts = own_zero (is_key key e.placement.key) (placed_of key es) (sym (placed_front key e es) ∙ none) in
    let front = marks_front key test kind e es in
    let one = one_zero (is_key key e.placement.key) (test e.placement.volume) (kind e.mark) parts.0 in
    let rest = marks_none key test kind es parts.1 in
    omega (arith, front, one, rest)

-- the last FileIndex of a session that has no block is 0
index_none : (names : List (List ℕ)) (key : SessionKey) (ns : List Noted) → placements_of key (map (placement_of names) ns) ≡ [] → last_index key ns ≡ 0
index_none names key ns none = from 0 ns none
  where
    step : (index : ℕ) (n : Noted) (ns : List Noted) (b : Bool) → is_key key n.key ≡ b → placements_of key (map (placement_of names) (n ∷ ns)) ≡ [] → (index_after key index n ≡ index) × (placements_of key (map (placement_of names) ns) ≡ [])
    step index n ns true own none = absurd (never (sym (cond-true (is_key key n.key) (placement_of names n ∷ placements_of key (map (placement_of names) ns)) (placements_of key (map (placement_of names) ns)) own) ∙ none))
      where
        never : {p : Placement} {ps : List Placement} → p ∷ ps ≡ [] → ⊥
        never e = cc
    step index n ns false other none = (
      cond-false (is_key key n.key) (first_nonzero n.last index) index other,
      sym (cond-false (is_key key n.key) (placement_of names n ∷ placements_of key (map (placement_of names) ns)) (placements_of key (map (placement_of names) ns)) other) ∙ none,
    )

    from : (index : ℕ) (ns : List Noted) → placements_of key (map (placement_of names) ns) ≡ [] → Rattle.std.specs.List.fold (index_after key) index ns ≡ index
    from index [] none = refl
    from index (n ∷ ns) none =
        let parts = step index n ns (is_key key n.key) refl none in
        ap (λ i. Rattle.std.specs.List.fold (index_after key) i ns) parts.0 ∙ from index ns parts.1

-- Room.

fits_readied : (names : List (List ℕ)) (ns : List Noted) (es : List Entry) → map (placement_of names) ns ≡ placements es → (key : SessionKey) (o : Option ShareView) → Fits names ns es key o → Fits names ns es key (readied o)
fits_readied names ns es same key None none =
    let empty = nil_of (placements_of key (placements es)) none in
    record {
      named = All-nil (HasName names);
      spans = sym (ap stretches empty);
      placed = sym none;
      last = sym (index_none names key ns (ap (placements_of key) same ∙ empty));
      unsynced = λ test. sym (marks_none key test is_unsynced es none);
      synced = λ test. sym (marks_none key test is_synced es none);
      lost = λ test. sym (marks_none key test is_lost es none);
    }
fits_readied names ns es same key (Some s) fits =
    record { named = fits.named; spans = fits.spans; placed = fits.placed; last = fits.last; unsynced = fits.unsynced; synced = fits.synced; lost = fits.lost }

pub shares_readied : (names : List (List ℕ)) (ns : List Noted) (es : List Entry) → map (placement_of names) ns ≡ placements es → (key : SessionKey) (s s' : Shares) → ChangesAt key readied s s'
    → AreSharesOf names ns es s → AreSharesOf names ns es s'
shares_readied names ns es same key s s' changes fits = λ q.
    moved (Fits names ns es) key readied s s' changes q (λ here. fits_readied names ns es same q (share_of s q) (fits q)) (λ apart. fits q)

has_readied : (o : Option ShareView) → HasRoom (readied o)
has_readied None = refl
has_readied (Some s) = refl

pub room_readied : (key : SessionKey) (s s' : Shares) → ChangesAt key readied s s' → (q : SessionKey) → HasRoom (share_of s q) → HasRoom (share_of s' q)
room_readied key s s' changes q room = moved (λ k. HasRoom) key readied s s' changes q (λ same. has_readied (share_of s q)) (λ apart. room)

pub room_made : (key : SessionKey) (s s' : Shares) → ChangesAt key readied s s' → (q : SessionKey) → is_key key q ≡ true → HasRoom (share_of s' q)
room_made key s s' changes q same = moved (λ k. HasRoom) key readied s s' changes q (λ same'. has_readied (share_of s q)) (λ apart. absurd (true≢false (sym same ∙ apart)))

-- what is kept of a session for which there is room
pub some_with_room : (o : Option ShareView) → HasRoom o → (x : ShareView) × (o ≡ Some x)
some_with_room None room = absurd room
some_with_room (Some x) room = (x, refl)

-- One name more.

spans_stay : (name : List ℕ) (names : List (List ℕ)) (ss : List Stretch) → All (HasName names) ss → map (span_of (with_name name names)) ss ≡ map (span_of names) ss
spans_stay name names [] named = refl
spans_stay name names (s ∷ ss) named =
    ap₂ (λ (v : List ℕ) (l : List Span). (record { volume = v; vol_index = 0; first = s.first; last = s.last; start = s.start; end = s.end }) ∷ l)
    (name_stays name names s.volume (All-head (HasName names) s ss named)).1
    (spans_stay name names ss (All-tail (HasName names) s ss named))

counts_stay : (name : List ℕ) (names : List (List ℕ)) (test : Test) (count : Stretch → ℕ) (ss : List Stretch) → All (HasName names) ss → count_on (with_name name names) test count ss ≡ count_on names test count ss
counts_stay name names test count [] named = refl
counts_stay name names test count (s ∷ ss) named =
    let after = count_front (with_name name names) test count s ss in
    let before = count_front names test count s ss in
    let one = ap (λ v. cond (test v) (count s) 0) (name_stays name names s.volume (All-head (HasName names) s ss named)).1 in
    let rest = counts_stay name names test count ss (All-tail (HasName names) s ss named) in
    omega (arith, after, before, one, rest)

fits_named : (name : List ℕ) (names : List (List ℕ)) (ns : List Noted) (es : List Entry) (key : SessionKey) (s : ShareView) → IsShareOf names ns es key s → IsShareOf (with_name name names) ns es key s
fits_named name names ns es key s fits = record {
  named = All-weaker (HasName names) (HasName (with_name name names)) (λ t is. (name_stays name names t.volume is).0) s.stretches fits.named;
  spans = spans_stay name names s.stretches fits.named ∙ fits.spans;
  placed = fits.placed;
  last = fits.last;
  unsynced = λ test. counts_stay name names test (λ (t : Stretch). t.unsynced) s.stretches fits.named ∙ fits.unsynced test;
  synced = λ test. counts_stay name names test (λ (t : Stretch). t.synced) s.stretches fits.named ∙ fits.synced test;
  lost = λ test. counts_stay name names test (λ (t : Stretch). t.lost) s.stretches fits.named ∙ fits.lost test;
}

pub shares_named : (name : List ℕ) (names : List (List ℕ)) (ns : List Noted) (es : List Entry) (s : Shares) → AreSharesOf names ns es s → AreSharesOf (with_name name names) ns es s
shares_named name names ns es s fits = λ key. from key (share_of s key) (fits key)
  where
    from : (key : SessionKey) (o : Option ShareView) → Fits names ns es key o → Fits (with_name name names) ns es key o
    from key None none = none
    from key (Some x) is = fits_named name names ns es key x is

-- One block more.

-- the stretches are those of the blocks
spans_grown : (names : List (List ℕ)) → AllPairs (λ a b. a ≢ b) names → (ss : List Stretch) (n : Noted) → All (HasName names) ss → n.volume < length names
    → map (span_of names) (grown_by ss n) ≡ grown (map (span_of names) ss) (placement_of names n)
spans_grown names different [] n named here = refl
spans_grown names different (s ∷ []) n named here =
    let place : IsPlaceOf names (name_at names n.volume) (Some n.volume) = found_is names (name_at names n.volume) n.volume different (here, refl) in
    from (n.volume == s.volume) refl (place_is names (name_at names n.volume) n.volume s.volume place (All-head (HasName names) s [] named))
  where
    longer : Span
    longer = span_of names (longer_by s n)

    from : (b : Bool) → (n.volume == s.volume) ≡ b → (n.volume == s.volume) ≡ bytes_eq (name_at names s.volume) (name_at names n.volume)
        → map (span_of names) (cond (n.volume == s.volume) (longer_by s n ∷ []) (s ∷ begun_by n ∷ [])) ≡ grown (span_of names s ∷ []) (placement_of names n)
    from true is same =
        ap (map (span_of names)) (cond-true (n.volume == s.volume) (longer_by s n ∷ []) (s ∷ begun_by n ∷ []) is)
        ∙ sym (cond-true (bytes_eq (name_at names s.volume) (name_at names n.volume)) (span_of names (longer_by s n) ∷ []) (span_of names s ∷ stretch_of (placement_of names n) ∷ []) (sym same ∙ is))
    from false is same =
        ap (map (span_of names)) (cond-false (n.volume == s.volume) (longer_by s n ∷ []) (s ∷ begun_by n ∷ []) is)
        ∙ sym (cond-false (bytes_eq (name_at names s.volume) (name_at names n.volume)) (span_of names (longer_by s n) ∷ []) (span_of names s ∷ stretch_of (placement_of names n) ∷ []) (sym same ∙ is))
spans_grown names different (s ∷ t ∷ ss) n named here =
    ap (λ l. span_of names s ∷ l) (spans_grown names different (t ∷ ss) n (All-tail (HasName names) s (t ∷ ss) named) here)

named_grown : (names : List (List ℕ)) (ss : List Stretch) (n : Noted) → All (HasName names) ss → n.volume < length names → All (HasName names) (grown_by ss n)
named_grown names [] n named here = All-cons (HasName names) (begun_by n) [] here (All-nil (HasName names))
named_grown names (s ∷ []) n named here = from (n.volume == s.volume)
  where
    from : (b : Bool) → All (HasName names) (cond b (longer_by s n ∷ []) (s ∷ begun_by n ∷ []))
    from true = All-cons (HasName names) (longer_by s n) [] (All-head (HasName names) s [] named) (All-nil (HasName names))
    from false = All-cons (HasName names) s (begun_by n ∷ []) (All-head (HasName names) s [] named) (All-cons (HasName names) (begun_by n) [] here (All-nil (HasName names)))
named_grown names (s ∷ t ∷ ss) n named here =
    All-cons (HasName names) s (grown_by (t ∷ ss) n) (All-head (HasName names) s (t ∷ ss) named) (named_grown names (t ∷ ss) n (All-tail (HasName names) s (t ∷ ss) named) here)

own_if : (own t k : Bool) (n : ℕ) → own ≡ true → one_if k ≡ n → one_if (own && (t && k)) ≡ cond t n 0
own_if own true k n is one = ap (λ b. one_if (b && (true && k))) is ∙ one
own_if own false k n is one = ap (λ b. one_if (b && (false && k))) is

-- of a block of the session
own_count : (names : List (List ℕ)) (key : SessionKey) (test : Test) (kind : Mark → Bool) (count : Stretch → ℕ) (more : ℕ) → one_if (kind Unsynced) ≡ more
    → ((s : Stretch) (n : Noted) → count (longer_by s n) ≡ count s + more) → ((n : Noted) → count (begun_by n) ≡ more) → (es : List Entry) (ss : List Stretch) (n : Noted) → is_key key n.key ≡ true
    → count_on names test count ss ≡ marks_on key test kind es → count_on names test count (grown_by ss n) ≡ marks_on key test kind (es ++ noted (placement_of names n) ∷ [])
own_count names key test kind count more one longer begun es ss n own same =
    let grown_is = grown_count names test count more longer begun ss n in
    let more_is = marks_more key test kind es (noted (placement_of names n)) in
    let one_is = own_if (is_key key n.key) (test (name_at names n.volume)) (kind Unsynced) more own one in
    omega (arith, grown_is, more_is, one_is, same)

fits_own : (names : List (List ℕ)) → AllPairs (λ a b. a ≢ b) names → (ns : List Noted) (es : List Entry) (n : Noted) → n.volume < length names → (key : SessionKey) (o : Option ShareView)
    → is_key key n.key ≡ true → HasRoom o → Fits names ns es key o → Fits names (ns ++ n ∷ []) (es ++ noted (placement_of names n) ∷ []) key (with_noted n o)
fits_own names different ns es n here key None own room fits = absurd room
fits_own names different ns es n here key (Some s) own room fits =
    let p = placement_of names n in
    let ps = placements_of key (placements es) in
    record {
      named = named_grown names s.stretches n fits.named here;
      spans = spans_grown names different s.stretches n fits.named here ∙ ap (λ l. grown l p) fits.spans ∙ sym (stretches_grow ps p)
          ∙ ap stretches (sym (ap (placements_of key) (placements_more es (noted p)) ∙ own_more key (placements es) p own));
      placed = ap (λ m. m + 1) fits.placed ∙ sym (placed_more key es (noted p) ∙ ap (λ m. placed_of key es + m) (cond-true {A = ℕ} (is_key key p.key) 1 0 own));
      last = ap (first_nonzero n.last) fits.last ∙ sym (index_more key ns n ∙ cond-true (is_key key n.key) (first_nonzero n.last (last_index key ns)) (last_index key ns) own);
      unsynced = λ test. own_count names key test is_unsynced (λ (t : Stretch). t.unsynced) 1 refl (λ t m. refl) (λ m. refl) es s.stretches n own (fits.unsynced test);
      synced = λ test. own_count names key test is_synced (λ (t : Stretch). t.synced) 0 refl (λ t m. omega arith) (λ m. refl) es s.stretches n own (fits.synced test);
      lost = λ test. own_count names key test is_lost (λ (t : Stretch). t.lost) 0 refl (λ t m. omega arith) (λ m. refl) es s.stretches n own (fits.lost test);
    }

other_marks : (key : SessionKey) (test : Test) (kind : Mark → Bool) (es : List Entry) (p : Placement) → is_key key p.key ≡ false → marks_on key test kind (es ++ noted p ∷ []) ≡ marks_on key test kind es
other_marks key test kind es p other =
    let more = marks_more key test kind es (noted p) in
    let one = one_zero (is_key key p.key) (test p.volume) (kind Unsynced) other in omega (arith, more, one)

fits_other : (names : List (List ℕ)) (ns : List Noted) (es : List Entry) (n : Noted) (key : SessionKey) (o : Option ShareView)
    → is_key key n.key ≡ false → Fits names ns es key o → Fits names (ns ++ n ∷ []) (es ++ noted (placement_of names n) ∷ []) key o
fits_other names ns es n key None other fits =
    let more = placed_more key es (noted (placement_of names n)) in
    let none = cond-false {A = ℕ} (is_key key n.key) 1 0 other in omega (arith, more, none, fits)
fits_other names ns es n key (Some s) other fits =
    let p = placement_of names n in
    let same : placed_of key (es ++ noted p ∷ []) ≡ placed_of key es =
    placed_more key es (noted p) ∙ ap (λ m. placed_of key es + m) (cond-false {A = ℕ} (is_key key p.key) 1 0 other) ∙ omega arith in
    record {
      named = fits.named;
      spans = fits.spans ∙ ap stretches (sym (ap (placements_of key) (placements_more es (noted p)) ∙ other_more key (placements es) p other));
      placed = fits.placed ∙ sym same;
      last = fits.last ∙ sym (index_more key ns n ∙ cond-false (is_key key n.key) (first_nonzero n.last (last_index key ns)) (last_index key ns) other);
      unsynced = λ test. fits.unsynced test ∙ sym (other_marks key test is_unsynced es p other);
      synced = λ test. fits.synced test ∙ sym (other_marks key test is_synced es p other);
      lost = λ test. fits.lost test ∙ sym (other_marks key test is_lost es p other);
    }

pub shares_noted : (names : List (List ℕ)) → AllPairs (λ a b. a ≢ b) names → (ns : List Noted) (es : List Entry) (n : Noted) → n.volume < length names → (s s' : Shares)
    → ChangesAt n.key (with_noted n) s s' → HasRoom (share_of s n.key) → AreSharesOf names ns es s → AreSharesOf names (ns ++ n ∷ []) (es ++ noted (placement_of names n) ∷ []) s'
shares_noted names different ns es n here s s' changes room fits = λ q.
    moved (Fits names (ns ++ n ∷ []) (es ++ noted (placement_of names n) ∷ [])) n.key (with_noted n) s s' changes q
    (λ same. fits_own names different ns es n here q (share_of s q) (key_turned n.key q ∙ same) (subst (λ k. HasRoom (share_of s k)) (key_same n.key q same) room) (fits q))
    (λ apart. fits_other names ns es n q (share_of s q) (key_turned n.key q ∙ apart) (fits q))

pub room_noted : (n : Noted) (s s' : Shares) → ChangesAt n.key (with_noted n) s s' → (q : SessionKey) → is_key n.key q ≡ false → HasRoom (share_of s q) → HasRoom (share_of s' q)
room_noted n s s' changes q apart room =
    moved (λ k. HasRoom) n.key (with_noted n) s s' changes q (λ same. absurd (true≢false (sym same ∙ apart))) (λ apart'. room)

-- A call on a volume.

marked_spans : (names : List (List ℕ)) (mark : Mark) (place : ℕ) (ss : List Stretch) → map (span_of names) (map (marked_at mark place) ss) ≡ map (span_of names) ss
marked_spans names mark place [] = refl
marked_spans names mark place (s ∷ ss) = ap₂ (λ t ts. t ∷ ts) (one (place == s.volume)) (marked_spans names mark place ss)
  where
    one : (b : Bool) → span_of names (cond b (with_mark mark s) s) ≡ span_of names s
    one true = of mark
      where
        of : (m : Mark) → span_of names (with_mark m s) ≡ span_of names s
        of Unsynced = refl
        of Synced = refl
        of Lost = refl
        of Purged = refl
    one false = refl

named_marked : (names : List (List ℕ)) (mark : Mark) (place : ℕ) (ss : List Stretch) → All (HasName names) ss → All (HasName names) (map (marked_at mark place) ss)
named_marked names mark place ss named =
    All-map (HasName names) (marked_at mark place) ss (All-weaker (HasName names) (λ s. HasName names (marked_at mark place s)) (λ s is. rw (marked_volume mark place s) is) ss named)

-- what is kept of a session once its entries are marked
fits_marked : (mark : Mark) → is_unsynced mark ≡ false → (names : List (List ℕ)) (name : List ℕ) (place : ℕ) → IsPlaceOf names name (Some place) → (ns : List Noted) (es : List Entry) (key : SessionKey) (s : ShareView)
    → IsShareOf names ns es key s → IsShareOf names ns (marked mark name es) key (record s { stretches = map (marked_at mark place) s.stretches })
fits_marked Unsynced isn't names name place is ns es key s fits = absurd (true≢false isn't)
fits_marked Synced isn't names name place is ns es key s fits = record {
  named = named_marked names Synced place s.stretches fits.named;
  spans = marked_spans names Synced place s.stretches ∙ fits.spans ∙ ap (λ ps. stretches (placements_of key ps)) (sym (marked_placements (takes Synced name) Synced es));
  placed = fits.placed ∙ ap (λ ps. length (placements_of key ps)) (sym (marked_placements (takes Synced name) Synced es));
  last = fits.last;
  unsynced = λ test.
      count_cleared names test (λ (t : Stretch). t.unsynced) Synced name place is (λ t. refl) s.stretches fits.named ∙ fits.unsynced (off test name)
      ∙ sym (marks_cleared key test is_unsynced Synced name gone es);
  synced = λ test.
      let after = count_gained names test (λ (t : Stretch). t.synced) Synced name place is (λ t. refl) s.stretches fits.named in
      let entries = marks_gained key test is_synced Synced name gained es in
      let was = fits.synced test in
      let more = fits.unsynced (on test name) in
      omega (arith, after, entries, was, more);
  lost = λ test. count_kept names test (λ (t : Stretch). t.lost) Synced place (λ t. refl) s.stretches ∙ fits.lost test ∙ sym (marks_kept key test is_lost Synced name kept es);
}
  where
    gone : (was : Mark) → is_unsynced (cond ((is_purged Synced || is_unsynced was) && true) Synced was) ≡ false
    gone Unsynced = refl
    gone Synced = refl
    gone Lost = refl
    gone Purged = refl

    gained : (was : Mark) → one_if (is_synced (cond ((is_purged Synced || is_unsynced was) && true) Synced was)) ≡ one_if (is_synced was) + one_if (is_unsynced was)
    gained Unsynced = refl
    gained Synced = refl
    gained Lost = refl
    gained Purged = refl

    kept : (was : Mark) → is_lost (cond ((is_purged Synced || is_unsynced was) && true) Synced was) ≡ is_lost was
    kept Unsynced = refl
    kept Synced = refl
    kept Lost = refl
    kept Purged = refl
fits_marked Lost isn't names name place is ns es key s fits = record {
  named = named_marked names Lost place s.stretches fits.named;
  spans = marked_spans names Lost place s.stretches ∙ fits.spans ∙ ap (λ ps. stretches (placements_of key ps)) (sym (marked_placements (takes Lost name) Lost es));
  placed = fits.placed ∙ ap (λ ps. length (placements_of key ps)) (sym (marked_placements (takes Lost name) Lost es));
  last = fits.last;
  unsynced = λ test.
      count_cleared names test (λ (t : Stretch). t.unsynced) Lost name place is (λ t. refl) s.stretches fits.named ∙ fits.unsynced (off test name)
      ∙ sym (marks_cleared key test is_unsynced Lost name gone es);
  synced = λ test. count_kept names test (λ (t : Stretch). t.synced) Lost place (λ t. refl) s.stretches ∙ fits.synced test ∙ sym (marks_kept key test is_synced Lost name kept es);
  lost = λ test.
      let after = count_gained names test (λ (t : Stretch). t.lost) Lost name place is (λ t. refl) s.stretches fits.named in
      let entries = marks_gained key test is_lost Lost name gained es in
      let was = fits.lost test in
      let more = fits.unsynced (on test name) in
      omega (arith, after, entries, was, more);
}
  where
    gone : (was : Mark) → is_unsynced (cond ((is_purged Lost || is_unsynced was) && true) Lost was) ≡ false
    gone Unsynced = refl
    gone Synced = refl
    gone Lost = refl
    gone Purged = refl

    gained : (was : Mark) → one_if (is_lost (cond ((is_purged Lost || is_unsynced was) && true) Lost was)) ≡ one_if (is_lost was) + one_if (is_unsynced was)
    gained Unsynced = refl
    gained Synced = refl
    gained Lost = refl
    gained Purged = refl

    kept : (was : Mark) → is_synced (cond ((is_purged Lost || is_unsynced was) && true) Lost was) ≡ is_synced was
    kept Unsynced = refl
    kept Synced = refl
    kept Lost = refl
    kept Purged = refl
fits_marked Purged isn't names name place is ns es key s fits = record {
  named = named_marked names Purged place s.stretches fits.named;
  spans = marked_spans names Purged place s.stretches ∙ fits.spans ∙ ap (λ ps. stretches (placements_of key ps)) (sym (marked_placements (takes Purged name) Purged es));
  placed = fits.placed ∙ ap (λ ps. length (placements_of key ps)) (sym (marked_placements (takes Purged name) Purged es));
  last = fits.last;
  unsynced = λ test.
      count_cleared names test (λ (t : Stretch). t.unsynced) Purged name place is (λ t. refl) s.stretches fits.named ∙ fits.unsynced (off test name)
      ∙ sym (marks_cleared key test is_unsynced Purged name (λ was. refl) es);
  synced = λ test.
      count_cleared names test (λ (t : Stretch). t.synced) Purged name place is (λ t. refl) s.stretches fits.named ∙ fits.synced (off test name)
      ∙ sym (marks_cleared key test is_synced Purged name (λ was. refl) es);
  lost = λ test.
      count_cleared names test (λ (t : Stretch). t.lost) Purged name place is (λ t. refl) s.stretches fits.named ∙ fits.lost (off test name)
      ∙ sym (marks_cleared key test is_lost Purged name (λ was. refl) es);
}

-- what is kept of each, if each was marked that has something to mark
pub shares_marked : (mark : Mark) → is_unsynced mark ≡ false → (names : List (List ℕ)) (name : List ℕ) (place : ℕ) → IsPlaceOf names name (Some place) → (ns : List Noted) (es : List Entry) (s s' : Shares)
    → ((q : SessionKey) → share_of s' q ≡ with_marks mark place (share_of s q)) → AreSharesOf names ns es s → AreSharesOf names ns (marked mark name es) s'
shares_marked mark isn't names name place is ns es s s' changes fits = λ q. rw (changes q) (from q (share_of s q) (fits q))
  where
    from : (q : SessionKey) (o : Option ShareView) → Fits names ns es q o → Fits names ns (marked mark name es) q (with_marks mark place o)
    from q None none = ap (λ ps. length (placements_of q ps)) (marked_placements (takes mark name) mark es) ∙ none
    from q (Some x) here = fits_marked mark isn't names name place is ns es q x here

pub room_marked : (mark : Mark) (place : ℕ) (s s' : Shares) → ((q : SessionKey) → share_of s' q ≡ with_marks mark place (share_of s q)) → (q : SessionKey) → HasRoom (share_of s q) → HasRoom (share_of s' q)
room_marked mark place s s' changes q room = rw (changes q) (from (share_of s q) room)
  where
    from : (o : Option ShareView) → HasRoom o → HasRoom (with_marks mark place o)
    from None room = absurd room
    from (Some x) room = room

-- A session that has nothing to mark stays.

-- a stretch by its counts
stretch_with : Stretch → ℕ → ℕ → ℕ → Stretch
stretch_with s unsynced synced lost = record s { unsynced = unsynced; synced = synced; lost = lost }

settled_one : (mark : Mark) → is_purged mark ≡ false → (s : Stretch) → s.unsynced ≡ 0 → with_mark mark s ≡ s
unfolding stretch_with
settled_one Unsynced isn't s none = refl
settled_one Synced isn't s none = ap₂ (λ u m. stretch_with s u m s.lost) (sym none) (omega (arith, none))
settled_one Lost isn't s none = ap₂ (λ u m. stretch_with s u s.synced m) (sym none) (omega (arith, none))
settled_one Purged isn't s none = absurd (true≢false isn't)

settled_all : (mark : Mark) → is_purged mark ≡ false → (names : List (List ℕ)) (name : List ℕ) (place : ℕ) → IsPlaceOf names name (Some place) → (ss : List Stretch) → All (HasName names) ss
    → count_on names (on (λ _. true) name) (λ (t : Stretch). t.unsynced) ss ≡ 0 → map (marked_at mark place) ss ≡ ss
settled_all mark isn't names name place is [] named none = refl
settled_all mark isn't names name place is (s ∷ ss) named none =
    let front = count_front names (on (λ _. true) name) (λ (t : Stretch). t.unsynced) s ss in
    let here : one_on names (on (λ _. true) name) (λ (t : Stretch). t.unsynced) s ≡ 0 = omega (arith, front, none) in
    let rest : count_on names (on (λ _. true) name) (λ (t : Stretch). t.unsynced) ss ≡ 0 = omega (arith, front, none) in
    ap₂ (λ t ts. t ∷ ts) (one (place == s.volume) (place_is names name place s.volume is (All-head (HasName names) s ss named)) here)
    (settled_all mark isn't names name place is ss (All-tail (HasName names) s ss named) rest)
  where
    one : (b : Bool) → b ≡ bytes_eq (name_at names s.volume) name → one_on names (on (λ _. true) name) (λ (t : Stretch). t.unsynced) s ≡ 0 → cond b (with_mark mark s) s ≡ s
    one true same none = settled_one mark isn't s (ap (λ b. cond b s.unsynced 0) same ∙ none)
    one false same none = refl

-- if the session has no unsynced entry on the volume
pub sync_stays : (mark : Mark) → is_purged mark ≡ false → (names : List (List ℕ)) (name : List ℕ) (place : ℕ) → IsPlaceOf names name (Some place) → (ns : List Noted) (es : List Entry) (key : SessionKey) (o : Option ShareView)
    → Fits names ns es key o → fails_with key name es ≡ false → o ≡ with_marks mark place o
sync_stays mark isn't names name place is ns es key None fits none = refl
sync_stays mark isn't names name place is ns es key (Some s) fits none =
    ap (λ ss. Some (record s { stretches = ss }))
    (sym (settled_all mark isn't names name place is s.stretches fits.named (fits.unsynced (on (λ _. true) name) ∙ none_unsynced key name es none)))

-- The volumes of a session.

either_again : (a b : Bool) → (a || (a || b)) ≡ (a || b)
either_again true b = refl
either_again false b = refl

-- stretches are on the volumes that their placements are on
front_on : (name : List ℕ) (p : Placement) (ss : List Span) → list_any (λ (s : Span). bytes_eq s.volume name) (in_front p ss) ≡ (bytes_eq p.volume name || list_any (λ (s : Span). bytes_eq s.volume name) ss)
front_on name p [] = refl
front_on name p (s ∷ ss) = from (bytes_eq p.volume s.volume) refl
  where
    longer : Span
    longer = record s { first = first_nonzero p.first s.first; last = first_nonzero s.last p.last; start = p.start }

    on_it : Span → Bool
    on_it x = bytes_eq x.volume name

    from : (b : Bool) → bytes_eq p.volume s.volume ≡ b → list_any on_it (in_front p (s ∷ ss)) ≡ (bytes_eq p.volume name || list_any on_it (s ∷ ss))
    from true is =
        let same : p.volume ≡ s.volume = (bytes_eq-Decides p.volume s.volume).0 is in
        ap (list_any on_it) (cond-true (bytes_eq p.volume s.volume) (longer ∷ ss) (stretch_of p ∷ s ∷ ss) is)
        ∙ sym (ap (λ v. bytes_eq v name || (bytes_eq s.volume name || list_any on_it ss)) same ∙ either_again (bytes_eq s.volume name) (list_any on_it ss))
    from false is = ap (list_any on_it) (cond-false (bytes_eq p.volume s.volume) (longer ∷ ss) (stretch_of p ∷ s ∷ ss) is)

pub stretches_on : (name : List ℕ) (ps : List Placement) → list_any (λ (s : Span). bytes_eq s.volume name) (stretches ps) ≡ list_any (λ (p : Placement). bytes_eq p.volume name) ps
stretches_on name [] = refl
stretches_on name (p ∷ ps) = front_on name p (stretches ps) ∙ ap (λ b. bytes_eq p.volume name || b) (stretches_on name ps)

-- the places that spans have among names
spans_on : (names : List (List ℕ)) (name : List ℕ) (place : ℕ) → IsPlaceOf names name (Some place) → (ss : List Stretch) → All (HasName names) ss
    → list_any (is_on place) ss ≡ list_any (λ (s : Span). bytes_eq s.volume name) (map (span_of names) ss)
spans_on names name place is [] named = refl
spans_on names name place is (s ∷ ss) named =
    ap₂ (λ a b. a || b) (place_is names name place s.volume is (All-head (HasName names) s ss named)) (spans_on names name place is ss (All-tail (HasName names) s ss named))

pub share_on : (names : List (List ℕ)) (name : List ℕ) (place : ℕ) → IsPlaceOf names name (Some place) → (ns : List Noted) (es : List Entry) (key : SessionKey) (s : ShareView)
    → IsShareOf names ns es key s → list_any (is_on place) s.stretches ≡ has_on key name es
share_on names name place is ns es key s fits =
    spans_on names name place is s.stretches fits.named ∙ ap (list_any (λ (x : Span). bytes_eq x.volume name)) fits.spans ∙ stretches_on name (placements_of key (placements es))

off_all : (mark : Mark) (place : ℕ) (ss : List Stretch) → list_any (is_on place) ss ≡ false → map (marked_at mark place) ss ≡ ss
off_all mark place [] none = refl
off_all mark place (s ∷ ss) none =
    let parts = either (place == s.volume) (list_any (is_on place) ss) none in
    ap₂ (λ t ts. t ∷ ts) (cond-false (place == s.volume) (with_mark mark s) s parts.0) (off_all mark place ss parts.1)
  where
    either : (a b : Bool) → (a || b) ≡ false → (a ≡ false) × (b ≡ false)
    either true b e = absurd (true≢false e)
    either false b e = (refl, e)

-- if the session has no entry on the volume
pub purge_stays : (mark : Mark) (names : List (List ℕ)) (name : List ℕ) (place : ℕ) → IsPlaceOf names name (Some place) → (ns : List Noted) (es : List Entry) (key : SessionKey) (o : Option ShareView)
    → Fits names ns es key o → has_on key name es ≡ false → o ≡ with_marks mark place o
purge_stays mark names name place is ns es key None fits none = refl
purge_stays mark names name place is ns es key (Some s) fits none =
    ap (λ ss. Some (record s { stretches = ss })) (sym (off_all mark place s.stretches (share_on names name place is ns es key s fits ∙ none)))

-- What is asked of a session.

-- what is kept of it
pub share_fits : (names : List (List ℕ)) (ns : List Noted) (es : List Entry) (key : SessionKey) (s : Shares) (x : ShareView) → AreSharesOf names ns es s → share_of s key ≡ Some x → IsShareOf names ns es key x
share_fits names ns es key s x fits is = subst (Fits names ns es key) is (fits key)

-- if nothing is, it has no block
pub none_placed : (names : List (List ℕ)) (ns : List Noted) (es : List Entry) (key : SessionKey) (s : Shares) → AreSharesOf names ns es s → share_of s key ≡ None → placed_of key es ≡ 0
none_placed names ns es key s fits is = subst (Fits names ns es key) is (fits key)

pub counts_with : ℕ → ℕ → Counts
counts_with placed synced = record { placed = placed; synced = synced }

pub counts_none : (key : SessionKey) (es : List Entry) → placed_of key es ≡ 0 → record { placed = 0; synced = 0 } ≡ counts_of key es
unfolding counts_with
counts_none key es none = ap₂ counts_with (sym none) (sym (marks_none key (λ _. true) is_synced es none))

pub counts_share : (names : List (List ℕ)) (ns : List Noted) (es : List Entry) (key : SessionKey) (x : ShareView) (counts : Counts) → IsShareOf names ns es key x
    → counts.placed ≡ x.placed → counts.synced ≡ sum_by (λ (t : Stretch). t.synced) x.stretches → counts ≡ counts_of key es
unfolding counts_with
counts_share names ns es key x counts fits placed synced = ap₂ counts_with (placed ∙ fits.placed) (synced ∙ fits.synced (λ _. true))

-- a sum is more than nothing if a part of it is
pos_sum : (a n : ℕ) → nat_lt 0 (a + n) ≡ (nat_lt 0 a || nat_lt 0 n)
pos_sum a n = from (nat_lt 0 a) refl
  where
    from : (b : Bool) → nat_lt 0 a ≡ b → nat_lt 0 (a + n) ≡ (nat_lt 0 a || nat_lt 0 n)
    from true is = (let some = ltb-true 0 a is in lt-ltb 0 (a + n) (omega (arith, some))) ∙ sym (ap (λ b. b || nat_lt 0 n) is)
    from false is = (let none = ltb-false 0 a is in ap (nat_lt 0) (omega (arith, none))) ∙ sym (ap (λ b. b || nat_lt 0 n) is)

any_lost : (ss : List Stretch) → list_any (λ (t : Stretch). nat_lt 0 t.lost) ss ≡ nat_lt 0 (sum_by (λ (t : Stretch). t.lost) ss)
any_lost [] = refl
any_lost (s ∷ ss) =
    ap (λ b. nat_lt 0 s.lost || b) (any_lost ss) ∙ sym (pos_sum s.lost (sum_by (λ (t : Stretch). t.lost) ss)) ∙ ap (nat_lt 0) (sym (sum_by-cons (λ (t : Stretch). t.lost) s ss))

one_pos : (b : Bool) → nat_lt 0 (one_if b) ≡ b
one_pos true = refl
one_pos false = refl

any_fails : (key : SessionKey) (es : List Entry) → fails key es ≡ nat_lt 0 (marks_on key (λ _. true) is_lost es)
any_fails key [] = refl
any_fails key (e ∷ es) =
    ap₂ (λ a b. a || b) (sym (one_pos (is_key key e.placement.key && is_lost e.mark))) (any_fails key es)
    ∙ sym (pos_sum (one_if (is_key key e.placement.key && is_lost e.mark)) (marks_on key (λ _. true) is_lost es))
    ∙ ap (nat_lt 0) (sym (marks_front key (λ _. true) is_lost e es))

pub share_fails : (names : List (List ℕ)) (ns : List Noted) (es : List Entry) (key : SessionKey) (x : ShareView) → IsShareOf names ns es key x → list_any (λ (t : Stretch). nat_lt 0 t.lost) x.stretches ≡ fails key es
share_fails names ns es key x fits = any_lost x.stretches ∙ ap (nat_lt 0) (fits.lost (λ _. true)) ∙ sym (any_fails key es)

pub none_fails : (key : SessionKey) (es : List Entry) → placed_of key es ≡ 0 → false ≡ fails key es
none_fails key es none = sym (any_fails key es ∙ ap (nat_lt 0) (marks_none key (λ _. true) is_lost es none))

pub none_on : (key : SessionKey) (name : List ℕ) (es : List Entry) → placed_of key es ≡ 0 → false ≡ has_on key name es
none_on key name es none = sym (ap (list_any (λ (p : Placement). bytes_eq p.volume name)) (nil_of (placements_of key (placements es)) none))

-- it has no more blocks than there are
pub placed_le : (names : List (List ℕ)) (ns : List Noted) (es : List Entry) (key : SessionKey) (x : ShareView) → map (placement_of names) ns ≡ placements es → IsShareOf names ns es key x → x.placed ≤ length ns
placed_le names ns es key x same fits =
    let own = own_le (placements es) in
    let long = ap length (sym same) ∙ length-map ns (placement_of names) in
    let placed = fits.placed in
    omega (arith, own, long, placed)
  where
    own_le : (ps : List Placement) → length (placements_of key ps) ≤ length ps
    own_le [] = omega arith
    own_le (p ∷ ps) = (let rest = own_le ps in one (is_key key p.key) rest)
      where
        one : (b : Bool) → length (placements_of key ps) ≤ length ps → length (cond b (p ∷ placements_of key ps) (placements_of key ps)) ≤ length (p ∷ ps)
        one true rest = omega (arith, rest)
        one false rest = omega (arith, rest)

-- What is kept of each session after a call, whichever sessions it looked at: it looked at those that have something to mark.
pub all_marked : (mark : Mark) (names : List (List ℕ)) (name : List ℕ) (place : ℕ) → IsPlaceOf names name (Some place) → (ns : List Noted) (es : List Entry) (ls awaiting : List Lying) (s s' : Shares) → AreSharesOf names ns es s
    → ((key : SessionKey) → lies key place awaiting ≡ fails_with key (name_at names place) es) → ((key : SessionKey) → has_on key (name_at names place) es ≡ true → lies key place ls ≡ true)
    → ((key : SessionKey) → share_of s' key ≡ cond (lies key place (cond (is_purged mark) ls awaiting)) (with_marks mark place (share_of s key)) (share_of s key))
    → (key : SessionKey) → share_of s' key ≡ with_marks mark place (share_of s key)
all_marked mark names name place is ns es ls awaiting s s' fits awaits lie changes key = changes key ∙ from (is_purged mark) refl
  where
    at : name_at names place ≡ name
    at = (is.there place refl).1

    marks : Option ShareView
    marks = with_marks mark place (share_of s key)

    purge : (b : Bool) → lies key place ls ≡ b → cond (lies key place ls) marks (share_of s key) ≡ marks
    purge true e = cond-true (lies key place ls) marks (share_of s key) e
    purge false e =
        cond-false (lies key place ls) marks (share_of s key) e
        ∙ purge_stays mark names name place is ns es key (share_of s key) (fits key)
        (false_from_ne_true (has_on key name es) (λ there. true≢false (sym (lie key (ap (λ v. has_on key v es) at ∙ there)) ∙ e)))

    sync : is_purged mark ≡ false → (b : Bool) → lies key place awaiting ≡ b → cond (lies key place awaiting) marks (share_of s key) ≡ marks
    sync isn't true e = cond-true (lies key place awaiting) marks (share_of s key) e
    sync isn't false e =
        cond-false (lies key place awaiting) marks (share_of s key) e
        ∙ sync_stays mark isn't names name place is ns es key (share_of s key) (fits key) (ap (λ v. fails_with key v es) (sym at) ∙ sym (awaits key) ∙ e)

    from : (b : Bool) → is_purged mark ≡ b → cond (lies key place (cond (is_purged mark) ls awaiting)) marks (share_of s key) ≡ marks
    from true e = ap (λ b. cond (lies key place (cond b ls awaiting)) marks (share_of s key)) e ∙ purge (lies key place ls) refl
    from false e = ap (λ b. cond (lies key place (cond b ls awaiting)) marks (share_of s key)) e ∙ sync e (lies key place awaiting) refl
