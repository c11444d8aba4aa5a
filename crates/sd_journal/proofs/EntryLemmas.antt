-- What holds of entries.
use Rattle.std.proofs.Common.{◌≡◌, ◌≢◌, ℕ, ◌+◌, ◌≤◌, Bool, true, false, cond, List, [], ◌∷◌, ◌++◌, length, map, refl, ap, ap₂, sym, ◌∙◌, arith, length-append}
use Rattle.std.specs.Prelude.{◌||◌, ◌&&◌, IsTrue, All}
use Rattle.std.specs.List.{count_by, list_any}
use Rattle.std.specs.Str.{bytes_eq}
use Rattle.std.proofs.lemmas.Bool.{cond-true, cond-false, and_right, and_left, and_parts, true≢false}
use Rattle.std.proofs.lemmas.List.{map-append, append-nil}
use Rattle.std.proofs.lemmas.List.Elements.{All-nil, All-cons, All-head, All-tail}
use Rattle.std.proofs.lemmas.List.Folds.{list_any-append}
use Rattle.std.proofs.lemmas.List.Sums.{sum_by-append}
use Rattle.sd_base.specs.Key.{is_key}
use Rattle.sd_base.specs.declared.number.SessionKey.{SessionKey}
use Rattle.sd_span.specs.Spans.{placements_of}
use Rattle.sd_span.specs.declared.placement.Placement.{Placement}
use Rattle.sd_span.proofs.SpanLemmas.{placements_of-append}
use Rattle.sd_journal.specs.declared.mark.Mark.{Mark}
use Rattle.sd_journal.specs.declared.counts.Counts.{Counts}
use Rattle.sd_journal.specs.declared.mark.Mark.TheVariants.{Unsynced, Synced, Lost, Purged}
use Rattle.sd_journal.specs.Journal.{Entry, Item, placements, noted, is_unsynced, is_synced, is_lost, is_purged, awaits_sync, any_awaits_sync, settled_one, settled, purged_one, purged, is_synced_of, is_lost_of, is_purged_of, placed_of, synced_of, fails, fails_with, has_purged, has_on, item_of, items_of, Follows}
use Rattle.sd_journal.specs.Laws.{NotingAppends, SettlingMarks, PurgingMarks, SyncsFail, SyncedWithinPlaced}

-- One entry more.

pub placements_more : (es : List Entry) (e : Entry) → placements (es ++ e ∷ []) ≡ placements es ++ e.placement ∷ []
placements_more es e = map-append (λ x. x.placement) es (e ∷ [])

pub own_more : (key : SessionKey) (ps : List Placement) (p : Placement) → is_key key p.key ≡ true → placements_of key (ps ++ p ∷ []) ≡ placements_of key ps ++ p ∷ []
own_more key ps p own =
    placements_of-append key ps (p ∷ []) ∙ ap (λ l. placements_of key ps ++ l) (cond-true (is_key key p.key) (p ∷ []) [] own)

pub other_more : (key : SessionKey) (ps : List Placement) (p : Placement) → is_key key p.key ≡ false → placements_of key (ps ++ p ∷ []) ≡ placements_of key ps
other_more key ps p other =
    placements_of-append key ps (p ∷ []) ∙ ap (λ l. placements_of key ps ++ l) (cond-false (is_key key p.key) (p ∷ []) [] other)
    ∙ append-nil (placements_of key ps)

length_cond : {X : Type 0} (b : Bool) (x : X) → length (cond b (x ∷ []) []) ≡ cond b 1 0
length_cond true x = refl
length_cond false x = refl

pub placed_more : (key : SessionKey) (es : List Entry) (e : Entry) → placed_of key (es ++ e ∷ []) ≡ placed_of key es + cond (is_key key e.placement.key) 1 0
placed_more key es e =
    ap (λ l. length (placements_of key l)) (placements_more es e) ∙ ap length (placements_of-append key (placements es) (e.placement ∷ []))
    ∙ length-append (placements_of key (placements es)) _
    ∙ ap (λ n. length (placements_of key (placements es)) + n) (length_cond (is_key key e.placement.key) e.placement)

pub synced_more : (key : SessionKey) (es : List Entry) (e : Entry) → synced_of key (es ++ e ∷ []) ≡ synced_of key es + cond (is_synced_of key e) 1 0
synced_more key es e =
    sum_by-append (λ x. cond (is_synced_of key x) 1 0) es (e ∷ []) ∙ ap (λ n. synced_of key es + n) (omega arith)

or_false : (x y : Bool) → y ≡ false → (x || (y || false)) ≡ x
or_false true y none = refl
or_false false y none = ap (λ b. b || false) none

follows_more : (es : List Entry) (p : Placement) (pieces : List Item) → Follows es pieces → Follows (es ++ noted p ∷ []) (pieces ++ item_of p ∷ [])
follows_more es p pieces follows =
    ap items_of (placements_more es (noted p)) ∙ map-append item_of (placements es) (p ∷ []) ∙ ap (λ l. l ++ item_of p ∷ []) follows

pub noting : (es : List Entry) (p : Placement) → NotingAppends es p
noting es p = record {
  placements = placements_more es (noted p);
  follows = follows_more es p;
  placed = λ key. placed_more key es (noted p);
  synced = λ key. synced_more key es (noted p)
      ∙ ap (λ n. synced_of key es + n) (cond-false (is_synced_of key (noted p)) 1 0 (and_right (is_key key p.key) false refl)) ∙ omega arith;
  fails = λ key. list_any-append (is_lost_of key) es (noted p ∷ [])
      ∙ or_false (fails key es) (is_lost_of key (noted p)) (and_right (is_key key p.key) false refl);
}

-- Syncs.

-- entries that get a mark if a test holds of them
abbrev pub MarkedWhere : (Entry → Bool) → Mark → List Entry → List Entry
MarkedWhere test mark es = map (λ e. cond (test e) (record e { mark = mark }) e) es

marked_placement : (mark : Mark) (e : Entry) (b : Bool) → (cond b (record e { mark = mark }) e).placement ≡ e.placement
marked_placement mark e true = refl
marked_placement mark e false = refl

pub marked_placements : (test : Entry → Bool) (mark : Mark) (es : List Entry) → placements (MarkedWhere test mark es) ≡ placements es
marked_placements test mark [] = refl
marked_placements test mark (e ∷ es) = ap₂ (λ p ps. p ∷ ps) (marked_placement mark e (test e)) (marked_placements test mark es)

pub settled_placements : (mark : Mark) (volume : List ℕ) (es : List Entry) → placements (settled mark volume es) ≡ placements es
settled_placements mark volume es = marked_placements (awaits_sync volume) mark es

pub purged_placements : (volume : List ℕ) (es : List Entry) → placements (purged volume es) ≡ placements es
purged_placements volume es = marked_placements (λ e. bytes_eq e.placement.volume volume) Purged es

-- a mark that is set is no longer unsynced
settled_mark : (mark : Mark) → mark ≢ Unsynced → is_unsynced mark ≡ false
settled_mark Unsynced isn't = absurd (isn't refl)
settled_mark Synced isn't = refl
settled_mark Lost isn't = refl
settled_mark Purged isn't = refl

one_awaits : (mark : Mark) (volume : List ℕ) (e : Entry) (b : Bool) → awaits_sync volume e ≡ b → mark ≢ Unsynced → awaits_sync volume (settled_one mark volume e) ≡ false
one_awaits mark volume e true awaits isn't =
    ap (awaits_sync volume) (cond-true (awaits_sync volume e) (record e { mark = mark }) e awaits) ∙ and_left (is_unsynced mark) _ (settled_mark mark isn't)
one_awaits mark volume e false awaits isn't =
    ap (awaits_sync volume) (cond-false (awaits_sync volume e) (record e { mark = mark }) e awaits) ∙ awaits

none_awaits : (mark : Mark) (volume : List ℕ) (es : List Entry) → mark ≢ Unsynced → any_awaits_sync volume (settled mark volume es) ≡ false
none_awaits mark volume [] isn't = refl
none_awaits mark volume (e ∷ es) isn't =
    ap₂ (λ a b. a || b) (one_awaits mark volume e (awaits_sync volume e) refl isn't) (none_awaits mark volume es isn't)

pub settling : (mark : Mark) (volume : List ℕ) (es : List Entry) → SettlingMarks mark volume es
settling mark volume es = record {
  placements = settled_placements mark volume es;
  none_awaits = none_awaits mark volume es;
}

-- Who fails by a sync.

and_true : (b : Bool) → (b && true) ≡ b
and_true true = refl
and_true false = refl

or_none : (b : Bool) → (b || false) ≡ b
or_none true = refl
or_none false = refl

unsynced_not_lost : (m : Mark) → is_unsynced m ≡ true → is_lost m ≡ false
unsynced_not_lost Unsynced is = refl
unsynced_not_lost Synced is = refl
unsynced_not_lost Lost is = absurd (true≢false (sym is))
unsynced_not_lost Purged is = absurd (true≢false (sym is))

one_synced : (key : SessionKey) (volume : List ℕ) (e : Entry) (b : Bool) → awaits_sync volume e ≡ b → is_lost_of key (settled_one Synced volume e) ≡ is_lost_of key e
one_synced key volume e true awaits =
    ap (is_lost_of key) (cond-true (awaits_sync volume e) (record e { mark = Synced }) e awaits) ∙ and_right (is_key key e.placement.key) false refl
    ∙ sym (and_right (is_key key e.placement.key) (is_lost e.mark) (unsynced_not_lost e.mark (and_parts _ _ awaits).0))
one_synced key volume e false awaits = ap (is_lost_of key) (cond-false (awaits_sync volume e) (record e { mark = Synced }) e awaits)

synced_fail : (key : SessionKey) (volume : List ℕ) (es : List Entry) → fails key (settled Synced volume es) ≡ fails key es
synced_fail key volume [] = refl
synced_fail key volume (e ∷ es) = ap₂ (λ a b. a || b) (one_synced key volume e (awaits_sync volume e) refl) (synced_fail key volume es)

or_and : (own lost : Bool) → lost ≡ false → own ≡ ((own && lost) || own)
or_and true lost none = ap (λ b. b || true) (sym none)
or_and false lost none = refl

one_lost : (key : SessionKey) (volume : List ℕ) (e : Entry) (b : Bool) → awaits_sync volume e ≡ b
    → is_lost_of key (settled_one Lost volume e) ≡ (is_lost_of key e || (is_key key e.placement.key && awaits_sync volume e))
one_lost key volume e true awaits =
    let own = is_key key e.placement.key in
    ap (is_lost_of key) (cond-true (awaits_sync volume e) (record e { mark = Lost }) e awaits) ∙ and_true own
    ∙ or_and own (is_lost e.mark) (unsynced_not_lost e.mark (and_parts _ _ awaits).0) ∙ ap (λ b. is_lost_of key e || b) (sym (ap (λ b. own && b) awaits ∙ and_true own))
one_lost key volume e false awaits =
    ap (is_lost_of key) (cond-false (awaits_sync volume e) (record e { mark = Lost }) e awaits)
    ∙ sym (ap (λ b. is_lost_of key e || b) (and_right (is_key key e.placement.key) (awaits_sync volume e) awaits) ∙ or_none (is_lost_of key e))

regroup : (a b c d : Bool) → ((a || b) || (c || d)) ≡ ((a || c) || (b || d))
regroup true b c d = refl
regroup false true true d = refl
regroup false true false d = refl
regroup false false c d = refl

lost_fail : (key : SessionKey) (volume : List ℕ) (es : List Entry) → fails key (settled Lost volume es) ≡ (fails key es || fails_with key volume es)
lost_fail key volume [] = refl
lost_fail key volume (e ∷ es) =
    ap₂ (λ a b. a || b) (one_lost key volume e (awaits_sync volume e) refl) (lost_fail key volume es)
    ∙ regroup (is_lost_of key e) (is_key key e.placement.key && awaits_sync volume e) (fails key es) (fails_with key volume es)

pub failing : (volume : List ℕ) (es : List Entry) → SyncsFail volume es
failing volume es = record {
  synced = λ key. synced_fail key volume es;
  failed = λ key. lost_fail key volume es;
}

-- Counts.

-- the entry is synced if it is the session's
abbrev IsSyncedWhereOwn : SessionKey → Entry → Type 0
IsSyncedWhereOwn key e = IsTrue (is_key key e.placement.key) → e.mark ≡ Synced

is_synced_mark : (m : Mark) → is_synced m ≡ true → m ≡ Synced
is_synced_mark Unsynced is = absurd (true≢false (sym is))
is_synced_mark Synced is = refl
is_synced_mark Lost is = absurd (true≢false (sym is))
is_synced_mark Purged is = absurd (true≢false (sym is))

-- what counts if a test holds
abbrev pub one_if : Bool → ℕ
one_if b = cond b 1 0

length_front : {X : Type 0} (b : Bool) (x : X) (xs : List X) → length (cond b (x ∷ xs) xs) ≡ one_if b + length xs
length_front true x xs = omega arith
length_front false x xs = omega arith

-- the counts of a list by its front
pub placed_front : (key : SessionKey) (e : Entry) (es : List Entry) → placed_of key (e ∷ es) ≡ one_if (is_key key e.placement.key) + placed_of key es
placed_front key e es = length_front (is_key key e.placement.key) e.placement (placements_of key (placements es))

-- the entries of the session whose mark is of a kind
abbrev pub OfKind : (Mark → Bool) → SessionKey → Entry → Bool
OfKind test key e = is_key key e.placement.key && test e.mark

kind_front : (test : Mark → Bool) (key : SessionKey) (e : Entry) (es : List Entry) → count_by (OfKind test key) (e ∷ es) ≡ one_if (OfKind test key e) + count_by (OfKind test key) es
kind_front test key e es = sum_by-append (λ x. cond (OfKind test key x) 1 0) (e ∷ []) es ∙ ap (λ n. n + count_by (OfKind test key) es) (omega arith)

synced_front : (key : SessionKey) (e : Entry) (es : List Entry) → synced_of key (e ∷ es) ≡ one_if (is_key key e.placement.key && is_synced e.mark) + synced_of key es
synced_front = kind_front is_synced

pub lost_front : (key : SessionKey) (e : Entry) (es : List Entry) → count_by (is_lost_of key) (e ∷ es) ≡ one_if (is_lost_of key e) + count_by (is_lost_of key) es
lost_front = kind_front is_lost

-- a placement that is noted is not lost
pub lost_more : (key : SessionKey) (es : List Entry) (p : Placement) → count_by (is_lost_of key) (es ++ noted p ∷ []) ≡ count_by (is_lost_of key) es
lost_more key es p =
    let none : cond {A = ℕ} (is_lost_of key (noted p)) 1 0 ≡ 0 = ap one_if (and_right (is_key key p.key) false refl) in
    let last : 0 + cond {A = ℕ} (is_lost_of key (noted p)) 1 0 ≡ 0 = omega (arith, none) in
    sum_by-append (λ x. cond (is_lost_of key x) 1 0) es (noted p ∷ []) ∙ ap (λ n. count_by (is_lost_of key) es + n) last ∙ omega arith

one_within : (a b : Bool) → one_if (a && b) ≤ one_if a
one_within true true = omega arith
one_within true false = omega arith
one_within false b = omega arith

one_whole : (a b : Bool) → one_if (a && b) ≡ one_if a → a ≡ true → b ≡ true
one_whole true true e own = refl
one_whole true false e own = absurd (omega (arith, e))
one_whole false b e own = absurd (true≢false (sym own))

whole_one : (a b : Bool) → (a ≡ true → b ≡ true) → one_if (a && b) ≡ one_if a
whole_one true true h = refl
whole_one true false h = absurd (true≢false (sym (h refl)))
whole_one false b h = refl

abbrev counts_with : ℕ → ℕ → Counts
counts_with placed synced = record { placed = placed; synced = synced }

pub kind_within : (test : Mark → Bool) (key : SessionKey) (es : List Entry) → count_by (OfKind test key) es ≤ placed_of key es
kind_within test key [] = omega arith
kind_within test key (e ∷ es) =
    let front = placed_front key e es in
    let front' = kind_front test key e es in
    let one = one_within (is_key key e.placement.key) (test e.mark) in
    let rest = kind_within test key es in omega (arith, front, front', one, rest)

pub within : (key : SessionKey) (es : List Entry) → synced_of key es ≤ placed_of key es
within = kind_within is_synced

all_synced : (key : SessionKey) (es : List Entry) → synced_of key es ≡ placed_of key es → All (IsSyncedWhereOwn key) es
all_synced key [] same = All-nil (IsSyncedWhereOwn key)
all_synced key (e ∷ es) same =
    let front = placed_front key e es in
    let front' = synced_front key e es in
    let one = one_within (is_key key e.placement.key) (is_synced e.mark) in
    let rest = within key es in
    let here : one_if (is_key key e.placement.key && is_synced e.mark) ≡ one_if (is_key key e.placement.key) = omega (arith, same, front, front', one, rest) in
    let behind : synced_of key es ≡ placed_of key es = omega (arith, same, front, front', one, rest) in
    All-cons (IsSyncedWhereOwn key) e es (λ own. is_synced_mark e.mark (one_whole (is_key key e.placement.key) (is_synced e.mark) here own)) (all_synced key es behind)

synced_all : (key : SessionKey) (es : List Entry) → All (IsSyncedWhereOwn key) es → synced_of key es ≡ placed_of key es
synced_all key [] all = refl
synced_all key (e ∷ es) all =
    let front = placed_front key e es in
    let front' = synced_front key e es in
    let here = whole_one (is_key key e.placement.key) (is_synced e.mark) (λ own. ap is_synced (All-head (IsSyncedWhereOwn key) e es all own)) in
    let behind = synced_all key es (All-tail (IsSyncedWhereOwn key) e es all) in
    omega (arith, front, front', here, behind)

-- if each of its entries is synced, no block of the session is gone
none_purged : (key : SessionKey) (es : List Entry) → All (IsSyncedWhereOwn key) es → has_purged key es ≡ false
none_purged key [] all = refl
none_purged key (e ∷ es) all =
    ap₂ (λ a b. a || b) (own_there (is_key key e.placement.key) e.mark (All-head (IsSyncedWhereOwn key) e es all)) (none_purged key es (All-tail (IsSyncedWhereOwn key) e es all))
  where
    own_there : (own : Bool) (m : Mark) → (own ≡ true → m ≡ Synced) → (own && is_purged m) ≡ false
    own_there true m synced = ap is_purged (synced refl)
    own_there false m synced = refl

unequal_less : (a b : ℕ) → a ≤ b → a ≢ b → a + 1 ≤ b
unequal_less a b le other = omega (arith, le, other)

pub counting : (key : SessionKey) (es : List Entry) → SyncedWithinPlaced key es
counting key es = record {
  within = within key es;
  whole = (all_synced key es, synced_all key es);
  gone = λ gone. unequal_less (synced_of key es) (placed_of key es) (within key es) (λ same. true≢false (sym gone ∙ none_purged key es (all_synced key es same)));
}

-- Purges.

-- the entry, and whether it lies on the volume
abbrev on : List ℕ → Entry → Bool
on volume e = bytes_eq e.placement.volume volume

purged_here : (volume : List ℕ) (e : Entry) → on volume e ≡ true → purged_one volume e ≡ record e { mark = Purged }
purged_here volume e is = cond-true (on volume e) (record e { mark = Purged }) e is

purged_elsewhere : (volume : List ℕ) (e : Entry) → on volume e ≡ false → purged_one volume e ≡ e
purged_elsewhere volume e is = cond-false (on volume e) (record e { mark = Purged }) e is

none_awaits_purged : (volume : List ℕ) (es : List Entry) → any_awaits_sync volume (purged volume es) ≡ false
none_awaits_purged volume [] = refl
none_awaits_purged volume (e ∷ es) = ap₂ (λ a b. a || b) (here (on volume e) refl) (none_awaits_purged volume es)
  where
    here : (b : Bool) → on volume e ≡ b → awaits_sync volume (purged_one volume e) ≡ false
    here true is = ap (awaits_sync volume) (purged_here volume e is)
    here false is = ap (awaits_sync volume) (purged_elsewhere volume e is) ∙ and_right (is_unsynced e.mark) (on volume e) is

-- whether the session has an entry on the volume, by the first entry
on_front : (key : SessionKey) (volume : List ℕ) (e : Entry) (es : List Entry) → has_on key volume (e ∷ es) ≡ ((is_key key e.placement.key && on volume e) || has_on key volume es)
on_front key volume e es = from (is_key key e.placement.key) refl
  where
    from : (b : Bool) → is_key key e.placement.key ≡ b → has_on key volume (e ∷ es) ≡ ((is_key key e.placement.key && on volume e) || has_on key volume es)
    from true is =
        ap (list_any (λ p. bytes_eq p.volume volume)) (cond-true (is_key key e.placement.key) (e.placement ∷ placements_of key (placements es)) (placements_of key (placements es)) is)
        ∙ sym (ap (λ b. (b && on volume e) || has_on key volume es) is)
    from false is =
        ap (list_any (λ p. bytes_eq p.volume volume)) (cond-false (is_key key e.placement.key) (e.placement ∷ placements_of key (placements es)) (placements_of key (placements es)) is)
        ∙ sym (ap (λ b. (b && on volume e) || has_on key volume es) is)

gone_one : (own here gone : Bool) → (own && true) ≡ ((own && gone) || (own && true))
gone_one true here true = refl
gone_one true here false = refl
gone_one false here gone = refl

purged_one_of : (key : SessionKey) (volume : List ℕ) (e : Entry) → is_purged_of key (purged_one volume e) ≡ (is_purged_of key e || (is_key key e.placement.key && on volume e))
purged_one_of key volume e = from (on volume e) refl
  where
    own : Bool
    own = is_key key e.placement.key

    from : (b : Bool) → on volume e ≡ b → is_purged_of key (purged_one volume e) ≡ (is_purged_of key e || (own && on volume e))
    from true is = ap (is_purged_of key) (purged_here volume e is) ∙ gone_one own true (is_purged e.mark) ∙ sym (ap (λ b. is_purged_of key e || (own && b)) is)
    from false is =
        ap (is_purged_of key) (purged_elsewhere volume e is)
        ∙ sym (ap (λ b. is_purged_of key e || b) (and_right own (on volume e) is) ∙ or_none (is_purged_of key e))

purged_of : (key : SessionKey) (volume : List ℕ) (es : List Entry) → has_purged key (purged volume es) ≡ (has_purged key es || has_on key volume es)
purged_of key volume [] = refl
purged_of key volume (e ∷ es) =
    ap₂ (λ a b. a || b) (purged_one_of key volume e) (purged_of key volume es)
    ∙ regroup (is_purged_of key e) (is_key key e.placement.key && on volume e) (has_purged key es) (has_on key volume es)
    ∙ ap (λ b. (is_purged_of key e || has_purged key es) || b) (sym (on_front key volume e es))

either_none : (a b : Bool) → (a || b) ≡ false → (a ≡ false) × (b ≡ false)
either_none true b none = absurd (true≢false none)
either_none false b none = (refl, none)

-- the entry of another session, or on another volume, has the kind that it had
kind_stays : (test : Mark → Bool) (key : SessionKey) (volume : List ℕ) (e : Entry) → (is_key key e.placement.key && on volume e) ≡ false → OfKind test key (purged_one volume e) ≡ OfKind test key e
kind_stays test key volume e apart = from (on volume e) refl (is_key key e.placement.key) refl
  where
    from : (b : Bool) → on volume e ≡ b → (own : Bool) → is_key key e.placement.key ≡ own → OfKind test key (purged_one volume e) ≡ OfKind test key e
    from true is true own = absurd (true≢false (sym (ap₂ (λ x y. x && y) own is) ∙ apart))
    from true is false own =
        ap (OfKind test key) (purged_here volume e is) ∙ ap (λ k. k && test Purged) own ∙ sym (ap (λ k. k && test e.mark) own)
    from false is own' own = ap (OfKind test key) (purged_elsewhere volume e is)

kinds_stay : (test : Mark → Bool) (key : SessionKey) (volume : List ℕ) (es : List Entry) → has_on key volume es ≡ false → count_by (OfKind test key) (purged volume es) ≡ count_by (OfKind test key) es
kinds_stay test key volume [] none = refl
kinds_stay test key volume (e ∷ es) none =
    let parts = either_none (is_key key e.placement.key && on volume e) (has_on key volume es) (sym (on_front key volume e es) ∙ none) in
    kind_front test key (purged_one volume e) (purged volume es)
    ∙ ap₂ (λ b n. one_if b + n) (kind_stays test key volume e parts.0) (kinds_stay test key volume es parts.1)
    ∙ sym (kind_front test key e es)

fails_stay : (key : SessionKey) (volume : List ℕ) (es : List Entry) → has_on key volume es ≡ false → fails key (purged volume es) ≡ fails key es
fails_stay key volume [] none = refl
fails_stay key volume (e ∷ es) none =
    let parts = either_none (is_key key e.placement.key && on volume e) (has_on key volume es) (sym (on_front key volume e es) ∙ none) in
    ap₂ (λ a b. a || b) (kind_stays is_lost key volume e parts.0) (fails_stay key volume es parts.1)

pub purging : (volume : List ℕ) (es : List Entry) → PurgingMarks volume es
purging volume es = record {
  placements = purged_placements volume es;
  none_awaits = none_awaits_purged volume es;
  gone = λ key. purged_of key volume es;
  counts = λ key none. ap₂ counts_with (ap (λ ps. length (placements_of key ps)) (purged_placements volume es)) (kinds_stay is_synced key volume es none);
  fails = λ key none. fails_stay key volume es none;
}
