-- Which sessions await a sync of a volume, and which have entries on one.
use Rattle.std.proofs.Common.{◌≡◌, ◌≢◌, ℕ, ◌+◌, ◌≤◌, ◌<◌, Bool, true, false, cond, List, [], ◌∷◌, ◌++◌, length, map, refl, ap, ap₂, sym, ◌∙◌, arith, subst, inl, inr, ◌⊎◌}
use Rattle.std.specs.Prelude.{◌==◌, ◌||◌, ◌&&◌, not, filter, All, AllPairs, Some}
use Rattle.std.specs.List.{list_any}
use Rattle.std.specs.Str.{bytes_eq}
use Rattle.std.proofs.lemmas.Bool.{cond-true, cond-false, and_left, and_right, and_parts, or_cases, or_left, or_right, eqb-true, eqb-false, eq-eqb, ne_eqb, true≢false, false_from_ne_true}
use Rattle.std.proofs.lemmas.List.{get_or_push, length_push}
use Rattle.std.proofs.lemmas.List.Elements.{All-nil, All-cons, All-head, All-tail, All-push, All-weaker}
use Rattle.std.proofs.lemmas.List.Folds.{list_any-append}
use Rattle.std.proofs.lemmas.Slice.Eq.{bytes_eq-Decides}
use Rattle.sd_base.specs.Key.{is_key}
use Rattle.sd_base.specs.declared.number.SessionKey.{SessionKey}
use Rattle.sd_span.specs.declared.placement.Placement.{Placement}
use Rattle.sd_span.specs.Spans.{placements_of}
use Rattle.sd_journal.specs.declared.lying.Lying.{Lying}
use Rattle.sd_journal.specs.declared.mark.Mark.{Mark}
use Rattle.sd_journal.specs.declared.noted.Noted.{Noted}
use Rattle.sd_journal.specs.Journal.{Entry, placements, noted, is_unsynced, is_purged, awaits_sync, any_awaits_sync, fails_with, has_on}
use Rattle.sd_journal.specs.Kept.{takes, marked, LiesNamed}
use Rattle.sd_journal.specs.Names.{name_at, with_name, IsPlaceOf}
use Rattle.sd_journal.specs.Noted.{IsNamed, placement_of}
use Rattle.sd_journal.specs.Share.{lies}
use Rattle.sd_journal.proofs.EntryLemmas.{placements_more, own_more, other_more, marked_placements}
use Rattle.sd_journal.proofs.KeyLemmas.{key_same, key_same_self}
use Rattle.sd_journal.proofs.NameLemmas.{one_is, one_place, name_stays}

either : (a b : Bool) → (a || b) ≡ false → (a ≡ false) × (b ≡ false)
either true b e = absurd (true≢false e)
either false b e = (refl, e)

or_none : (b : Bool) → (b || false) ≡ b
or_none true = refl
or_none false = refl

-- A volume of which no name is there.

-- none of the names is that
abbrev pub IsNone : List (List ℕ) → List ℕ → Type 0
IsNone names name = (place : ℕ) → place < length names → bytes_eq (name_at names place) name ≡ false

-- no placement is on the volume
abbrev pub IsOff : List ℕ → List Placement → Type 0
IsOff name ps = list_any (λ (p : Placement). bytes_eq p.volume name) ps ≡ false

off_named : (names : List (List ℕ)) (name : List ℕ) (ns : List Noted) → IsNone names name → All (IsNamed names) ns → IsOff name (map (placement_of names) ns)
off_named names name [] none named = refl
off_named names name (n ∷ ns) none named =
    ap₂ (λ a b. a || b) (none n.volume (All-head (IsNamed names) n ns named)) (off_named names name ns none (All-tail (IsNamed names) n ns named))

-- so no entry is on it
pub entries_off : (names : List (List ℕ)) (name : List ℕ) (ns : List Noted) (es : List Entry) → IsNone names name → All (IsNamed names) ns → map (placement_of names) ns ≡ placements es → IsOff name (placements es)
entries_off names name ns es none named same = subst (IsOff name) same (off_named names name ns none named)

pub marked_off : (mark : Mark) (name : List ℕ) (es : List Entry) → IsOff name (placements es) → marked mark name es ≡ es
marked_off mark name [] off = refl
marked_off mark name (e ∷ es) off =
    let parts = either (bytes_eq e.placement.volume name) (list_any (λ (p : Placement). bytes_eq p.volume name) (placements es)) off in
    ap₂ (λ x xs. x ∷ xs)
    (cond-false (takes mark name e) (record e { mark = mark }) e (and_right (is_purged mark || is_unsynced e.mark) (bytes_eq e.placement.volume name) parts.0))
    (marked_off mark name es parts.1)

pub awaits_off : (name : List ℕ) (es : List Entry) → IsOff name (placements es) → any_awaits_sync name es ≡ false
awaits_off name [] off = refl
awaits_off name (e ∷ es) off =
    let parts = either (bytes_eq e.placement.volume name) (list_any (λ (p : Placement). bytes_eq p.volume name) (placements es)) off in
    ap₂ (λ a b. a || b) (and_right (is_unsynced e.mark) (bytes_eq e.placement.volume name) parts.0) (awaits_off name es parts.1)

pub fails_off : (key : SessionKey) (name : List ℕ) (es : List Entry) → IsOff name (placements es) → fails_with key name es ≡ false
fails_off key name [] off = refl
fails_off key name (e ∷ es) off =
    let parts = either (bytes_eq e.placement.volume name) (list_any (λ (p : Placement). bytes_eq p.volume name) (placements es)) off in
    ap₂ (λ a b. a || b)
    (and_right (is_key key e.placement.key) (awaits_sync name e) (and_right (is_unsynced e.mark) (bytes_eq e.placement.volume name) parts.0))
    (fails_off key name es parts.1)

pub has_off : (key : SessionKey) (name : List ℕ) (es : List Entry) → IsOff name (placements es) → has_on key name es ≡ false
has_off key name es off = from (placements es) off
  where
    from : (ps : List Placement) → IsOff name ps → list_any (λ (p : Placement). bytes_eq p.volume name) (placements_of key ps) ≡ false
    from [] off = refl
    from (p ∷ ps) off =
        let parts = either (bytes_eq p.volume name) (list_any (λ (x : Placement). bytes_eq x.volume name) ps) off in
        one (is_key key p.key) parts.0 (from ps parts.1)
      where
        one : (b : Bool) → bytes_eq p.volume name ≡ false → list_any (λ (x : Placement). bytes_eq x.volume name) (placements_of key ps) ≡ false
            → list_any (λ (x : Placement). bytes_eq x.volume name) (cond b (p ∷ placements_of key ps) (placements_of key ps)) ≡ false
        one true here rest = ap₂ (λ a b. a || b) here rest
        one false here rest = rest

-- One more.

pub lies_more : (key : SessionKey) (volume : ℕ) (ls : List Lying) (l : Lying) → lies key volume (ls ++ l ∷ []) ≡ (lies key volume ls || ((volume == l.volume) && is_key key l.key))
lies_more key volume ls l =
    list_any-append (λ (x : Lying). (volume == x.volume) && is_key key x.key) ls (l ∷ []) ∙ ap (λ b. lies key volume ls || b) (or_none ((volume == l.volume) && is_key key l.key))

pub fails_more : (key : SessionKey) (name : List ℕ) (es : List Entry) (p : Placement) → fails_with key name (es ++ noted p ∷ []) ≡ (fails_with key name es || (is_key key p.key && bytes_eq p.volume name))
fails_more key name es p =
    list_any-append (λ (e : Entry). is_key key e.placement.key && awaits_sync name e) es (noted p ∷ []) ∙ ap (λ b. fails_with key name es || b) (or_none (is_key key p.key && bytes_eq p.volume name))

pub has_more : (key : SessionKey) (name : List ℕ) (es : List Entry) (p : Placement) → has_on key name (es ++ noted p ∷ []) ≡ (has_on key name es || (is_key key p.key && bytes_eq p.volume name))
has_more key name es p = from (is_key key p.key) refl
  where
    on_it : Placement → Bool
    on_it x = bytes_eq x.volume name

    ps : List Placement
    ps = placements_of key (placements es)

    from : (b : Bool) → is_key key p.key ≡ b → has_on key name (es ++ noted p ∷ []) ≡ (has_on key name es || (is_key key p.key && bytes_eq p.volume name))
    from true own =
        ap (list_any on_it) (ap (placements_of key) (placements_more es (noted p)) ∙ own_more key (placements es) p own)
        ∙ list_any-append on_it ps (p ∷ []) ∙ ap (λ b. list_any on_it ps || b) (or_none (on_it p) ∙ sym (ap (λ b. b && on_it p) own))
    from false other =
        ap (list_any on_it) (ap (placements_of key) (placements_more es (noted p)) ∙ other_more key (placements es) p other)
        ∙ sym (ap (λ b. list_any on_it ps || (b && on_it p)) other ∙ or_none (list_any on_it ps))

-- Places and names.

-- a place is that of a name if the name there is that one
pub same_volume : (names : List (List ℕ)) (name : List ℕ) (found place : ℕ) → AllPairs (λ a b. a ≢ b) names → found < length names → name_at names found ≡ name → place < length names
    → (place == found) ≡ bytes_eq name (name_at names place)
same_volume names name found place different below is below' = from (place == found) refl
  where
    from : (b : Bool) → (place == found) ≡ b → (place == found) ≡ bytes_eq name (name_at names place)
    from true e = e ∙ sym ((bytes_eq-Decides name (name_at names place)).1 (sym is ∙ ap (name_at names) (sym (eqb-true place found e))))
    from false e = e ∙ sym (false_from_ne_true (bytes_eq name (name_at names place))
        (λ same. eqb-false place found e (sym (one_place names found place different below below' (is ∙ (bytes_eq-Decides name (name_at names place)).0 same)))))

-- a place was there before the name came, or it is the new one
pub old_or_new : (name : List ℕ) (names : List (List ℕ)) (place : ℕ) → place < length (with_name name names)
    → (place < length names) ⊎ (IsNone names name × (name_at (with_name name names) place ≡ name))
old_or_new name names place below = from (list_any (λ n. bytes_eq n name) names) refl
  where
    from : (b : Bool) → list_any (λ n. bytes_eq n name) names ≡ b → (place < length names) ⊎ (IsNone names name × (name_at (with_name name names) place ≡ name))
    from true is = inl (subst (λ l. place < length l) (cond-true (list_any (λ n. bytes_eq n name) names) names (names ++ name ∷ []) is) below)
    from false is =
        let grown = cond-false (list_any (λ n. bytes_eq n name) names) names (names ++ name ∷ []) is in
        let long = length_push names name in
        let low : place < length (names ++ name ∷ []) = subst (λ l. place < length l) grown below in
        last grown long low
      where
        none : IsNone names name
        none i low = false_from_ne_true (bytes_eq (name_at names i) name) (λ same. true≢false (sym (among i low same) ∙ is))
          where
            among : (i : ℕ) → i < length names → bytes_eq (name_at names i) name ≡ true → list_any (λ n. bytes_eq n name) names ≡ true
            among i low same = one_is (λ n. bytes_eq n name) names i (name_at names i) (Rattle.std.proofs.lemmas.List.get_or_default names i [] (name_at names i) low) low same

        last : with_name name names ≡ names ++ name ∷ [] → length (names ++ name ∷ []) ≡ length names + 1 → place < length (names ++ name ∷ [])
            → (place < length names) ⊎ (IsNone names name × (name_at (with_name name names) place ≡ name))
        last grown long low = elim (Rattle.std.proofs.lemmas.Bool.cases_lt place (length names)) [
          | inl before ↦ inl before
          | inr behind ↦ inr (none, ap (λ l. name_at l place) grown ∙ get_or_push names name [] place (omega (arith, long, low, behind)))
        ]

-- Awaiting a sync.

-- of a place that has no name none is there
unnamed_lies : (names : List (List ℕ)) (key : SessionKey) (place : ℕ) (ls : List Lying) → All (LiesNamed names) ls → length names ≤ place → lies key place ls ≡ false
unnamed_lies names key place [] named over = refl
unnamed_lies names key place (l ∷ ls) named over =
    let low = All-head (LiesNamed names) l ls named in
    ap₂ (λ a b. a || b) (and_left (place == l.volume) (is_key key l.key) (ne_eqb place l.volume (λ same. omega (arith, low, over, same))))
    (unnamed_lies names key place ls (All-tail (LiesNamed names) l ls named) over)

-- one more, unless it is there
abbrev pub with_lying : Bool → List Lying → Lying → List Lying
with_lying there ls l = cond there ls (ls ++ l ∷ [])

lies_with : (key : SessionKey) (place : ℕ) (ls : List Lying) (l : Lying) (there : Bool) → lies l.key l.volume ls ≡ there
    → lies key place (with_lying there ls l) ≡ (lies key place ls || ((place == l.volume) && is_key key l.key))
lies_with key place ls l false none = lies_more key place ls l
lies_with key place ls l true is = from ((place == l.volume) && is_key key l.key) refl
  where
    from : (b : Bool) → ((place == l.volume) && is_key key l.key) ≡ b → lies key place ls ≡ (lies key place ls || ((place == l.volume) && is_key key l.key))
    from true same =
        let parts = and_parts (place == l.volume) (is_key key l.key) same in
        let here : lies key place ls ≡ true = ap₂ (λ k v. lies k v ls) (key_same key l.key parts.1) (eqb-true place l.volume parts.0) ∙ is in
        here ∙ sym (or_left (lies key place ls) ((place == l.volume) && is_key key l.key) here)
    from false apart = sym (ap (λ b. lies key place ls || b) apart ∙ or_none (lies key place ls))

-- just those await a sync, with one name and one entry more
pub awaits_noted : (names : List (List ℕ)) (ns : List Noted) (es : List Entry) (ls : List Lying) (p : Placement) (found : ℕ) (there : Bool) → AllPairs (λ a b. a ≢ b) (with_name p.volume names)
    → found < length (with_name p.volume names) → name_at (with_name p.volume names) found ≡ p.volume → All (IsNamed names) ns → map (placement_of names) ns ≡ placements es → All (LiesNamed names) ls
    → ((key : SessionKey) (place : ℕ) → place < length names → lies key place ls ≡ fails_with key (name_at names place) es)
    → lies p.key found ls ≡ there → (key : SessionKey) (place : ℕ) → place < length (with_name p.volume names)
    → lies key place (with_lying there ls (record { volume = found; key = p.key })) ≡ fails_with key (name_at (with_name p.volume names) place) (es ++ noted p ∷ [])
awaits_noted names ns es ls p found there different below is named same lying awaits among key place below' =
    lies_with key place ls (record { volume = found; key = p.key }) there among
    ∙ ap₂ (λ a b. a || b) before
    (ap (λ b. b && is_key key p.key) (same_volume names' p.volume found place different below is below') ∙ turned (bytes_eq p.volume (name_at names' place)) (is_key key p.key))
    ∙ sym (fails_more key (name_at names' place) es p)
  where
    names' : List (List ℕ)
    names' = with_name p.volume names

    turned : (a b : Bool) → (a && b) ≡ (b && a)
    turned true true = refl
    turned true false = refl
    turned false true = refl
    turned false false = refl

    before : lies key place ls ≡ fails_with key (name_at names' place) es
    before = elim (old_or_new p.volume names place below') [
      | inl old ↦ awaits key place old ∙ ap (λ v. fails_with key v es) (sym (name_stays p.volume names place old).1)
      | inr new ↦ new_one new.0 new.1
    ]
      where
        new_one : IsNone names p.volume → name_at names' place ≡ p.volume → lies key place ls ≡ fails_with key (name_at names' place) es
        new_one none at = unnamed_lies names key place ls lying (over (Rattle.std.proofs.lemmas.Bool.cases_lt place (length names)))
            ∙ sym (ap (λ v. fails_with key v es) at ∙ fails_off key p.volume es (entries_off names p.volume ns es none named same))
          where
            over : (place < length names) ⊎ (length names ≤ place) → length names ≤ place
            over (inl low) = absurd (true≢false (sym ((bytes_eq-Decides (name_at names place) p.volume).1 (sym (name_stays p.volume names place low).1 ∙ at)) ∙ none place low))
            over (inr high) = high

pub lying_noted : (names : List (List ℕ)) (name : List ℕ) (ls : List Lying) (l : Lying) (there : Bool) → l.volume < length (with_name name names) → All (LiesNamed names) ls → All (LiesNamed (with_name name names)) (with_lying there ls l)
lying_noted names name ls l there below named = from there
  where
    stay : All (LiesNamed (with_name name names)) ls
    stay = All-weaker (LiesNamed names) (LiesNamed (with_name name names)) (λ x is. (name_stays name names x.volume is).0) ls named

    from : (b : Bool) → All (LiesNamed (with_name name names)) (with_lying b ls l)
    from true = stay
    from false = All-push (LiesNamed (with_name name names)) ls l stay below

-- On a volume.

-- those that have an entry on a volume are among those that began a stretch there, with one name and one entry more
pub lie_noted : (names : List (List ℕ)) (ns : List Noted) (es : List Entry) (ls : List Lying) (p : Placement) (found : ℕ) (begins : Bool) → AllPairs (λ a b. a ≢ b) (with_name p.volume names)
    → found < length (with_name p.volume names) → name_at (with_name p.volume names) found ≡ p.volume → All (IsNamed names) ns → map (placement_of names) ns ≡ placements es
    → ((key : SessionKey) (place : ℕ) → place < length names → has_on key (name_at names place) es ≡ true → lies key place ls ≡ true)
    → (begins ≡ false → has_on p.key p.volume es ≡ true) → (key : SessionKey) (place : ℕ) → place < length (with_name p.volume names)
    → has_on key (name_at (with_name p.volume names) place) (es ++ noted p ∷ []) ≡ true → lies key place (cond begins (ls ++ (record { volume = found; key = p.key }) ∷ []) ls) ≡ true
lie_noted names ns es ls p found begins different below is named same lie ends key place below' there =
    elim (or_cases (has_on key (name_at names' place) es) (is_key key p.key && bytes_eq p.volume (name_at names' place)) (sym (has_more key (name_at names' place) es p) ∙ there)) [
      | inl was ↦ among begins (old place below' was)
      | inr now ↦ here (and_parts (is_key key p.key) (bytes_eq p.volume (name_at names' place)) now)
    ]
  where
    names' : List (List ℕ)
    names' = with_name p.volume names

    l : Lying
    l = record { volume = found; key = p.key }

    among : (b : Bool) → lies key place ls ≡ true → lies key place (cond b (ls ++ l ∷ []) ls) ≡ true
    among true is = lies_more key place ls l ∙ or_left (lies key place ls) ((place == found) && is_key key p.key) is
    among false is = is

    old_of : (key : SessionKey) (place : ℕ) → place < length names' → has_on key (name_at names' place) es ≡ true → lies key place ls ≡ true
    old_of key place below was = elim (old_or_new p.volume names place below) [
      | inl low ↦ lie key place low (ap (λ v. has_on key v es) (sym (name_stays p.volume names place low).1) ∙ was)
      | inr new ↦ absurd (true≢false (sym was ∙ ap (λ v. has_on key v es) new.1 ∙ has_off key p.volume es (entries_off names p.volume ns es new.0 named same)))
    ]

    old : (place : ℕ) → place < length names' → has_on key (name_at names' place) es ≡ true → lies key place ls ≡ true
    old place below was = old_of key place below was

    here : (is_key key p.key ≡ true) × (bytes_eq p.volume (name_at names' place) ≡ true) → lies key place (cond begins (ls ++ l ∷ []) ls) ≡ true
    here parts = from begins refl
      where
        at : (place == found) ≡ true
        at = same_volume names' p.volume found place different below is below' ∙ parts.1

        from : (b : Bool) → begins ≡ b → lies key place (cond b (ls ++ l ∷ []) ls) ≡ true
        from true e = lies_more key place ls l ∙ or_right (lies key place ls) ((place == found) && is_key key p.key) (ap₂ (λ a b. a && b) at parts.0)
        from false e =
            ap₂ (λ k v. lies k v ls) (key_same key p.key parts.0) (eqb-true place found at)
            ∙ old_of p.key found below (ap (λ v. has_on p.key v es) is ∙ ends e)

-- A call on a volume.

-- none awaits a sync of it any more
marked_none : (mark : Mark) → is_unsynced mark ≡ false → (key : SessionKey) (name : List ℕ) (es : List Entry) → fails_with key name (marked mark name es) ≡ false
marked_none mark isn't key name [] = refl
marked_none mark isn't key name (e ∷ es) = ap₂ (λ a b. a || b) (one (is_purged mark || is_unsynced e.mark) (bytes_eq e.placement.volume name) refl refl) (marked_none mark isn't key name es)
  where
    one : (a b : Bool) → (is_purged mark || is_unsynced e.mark) ≡ a → bytes_eq e.placement.volume name ≡ b
        → (is_key key (cond (takes mark name e) (record e { mark = mark }) e).placement.key && awaits_sync name (cond (takes mark name e) (record e { mark = mark }) e)) ≡ false
    one true true a b =
        ap (λ (x : Entry). is_key key x.placement.key && awaits_sync name x) (cond-true (takes mark name e) (record e { mark = mark }) e (ap₂ (λ x y. x && y) a b))
        ∙ and_right (is_key key e.placement.key) (is_unsynced mark && bytes_eq e.placement.volume name) (and_left (is_unsynced mark) (bytes_eq e.placement.volume name) isn't)
    one false true a b =
        ap (λ (x : Entry). is_key key x.placement.key && awaits_sync name x) (cond-false (takes mark name e) (record e { mark = mark }) e (and_left (is_purged mark || is_unsynced e.mark) (bytes_eq e.placement.volume name) a))
        ∙ and_right (is_key key e.placement.key) (is_unsynced e.mark && bytes_eq e.placement.volume name) (and_left (is_unsynced e.mark) (bytes_eq e.placement.volume name) (either (is_purged mark) (is_unsynced e.mark) a).1)
    one a false a' b =
        ap (λ (x : Entry). is_key key x.placement.key && awaits_sync name x) (cond-false (takes mark name e) (record e { mark = mark }) e (and_right (is_purged mark || is_unsynced e.mark) (bytes_eq e.placement.volume name) b))
        ∙ and_right (is_key key e.placement.key) (is_unsynced e.mark && bytes_eq e.placement.volume name) (and_right (is_unsynced e.mark) (bytes_eq e.placement.volume name) b)

-- and of another volume those that did
marked_others : (mark : Mark) (key : SessionKey) (name other : List ℕ) → (other ≡ name → ⊥) → (es : List Entry) → fails_with key other (marked mark name es) ≡ fails_with key other es
marked_others mark key name other apart [] = refl
marked_others mark key name other apart (e ∷ es) = ap₂ (λ a b. a || b) (one (bytes_eq e.placement.volume name) refl) (marked_others mark key name other apart es)
  where
    one : (b : Bool) → bytes_eq e.placement.volume name ≡ b
        → (is_key key (cond (takes mark name e) (record e { mark = mark }) e).placement.key && awaits_sync other (cond (takes mark name e) (record e { mark = mark }) e))
        ≡ (is_key key e.placement.key && awaits_sync other e)
    one true on = changed (takes mark name e)
      where
        off : bytes_eq e.placement.volume other ≡ false
        off = false_from_ne_true (bytes_eq e.placement.volume other) (λ same. apart (sym ((bytes_eq-Decides e.placement.volume other).0 same) ∙ (bytes_eq-Decides e.placement.volume name).0 on))

        changed : (b : Bool) → (is_key key (cond b (record e { mark = mark }) e).placement.key && awaits_sync other (cond b (record e { mark = mark }) e)) ≡ (is_key key e.placement.key && awaits_sync other e)
        changed true = ap (λ b. is_key key e.placement.key && b) (and_right (is_unsynced mark) (bytes_eq e.placement.volume other) off ∙ sym (and_right (is_unsynced e.mark) (bytes_eq e.placement.volume other) off))
        changed false = refl
    one false off =
        ap (λ (x : Entry). is_key key x.placement.key && awaits_sync other x) (cond-false (takes mark name e) (record e { mark = mark }) e (and_right (is_purged mark || is_unsynced e.mark) (bytes_eq e.placement.volume name) off))

-- without those of a place
abbrev pub without_place : ℕ → List Lying → List Lying
without_place place ls = filter (λ (l : Lying). not (place == l.volume)) ls

lies_without : (key : SessionKey) (place volume : ℕ) (ls : List Lying) → lies key volume (without_place place ls) ≡ (not (place == volume) && lies key volume ls)
lies_without key place volume [] = sym (and_right (not (place == volume)) false refl)
lies_without key place volume (l ∷ ls) = from (lies_without key place volume ls) (place == l.volume) refl (volume == l.volume) refl
  where
    from : lies key volume (without_place place ls) ≡ (not (place == volume) && lies key volume ls) → (a : Bool) → (place == l.volume) ≡ a → (b : Bool) → (volume == l.volume) ≡ b
        → lies key volume (cond (not (place == l.volume)) (l ∷ without_place place ls) (without_place place ls)) ≡ (not (place == volume) && (((volume == l.volume) && is_key key l.key) || lies key volume ls))
    from rest true a true b =
        let here : (place == volume) ≡ true = eq-eqb place volume (eqb-true place l.volume a ∙ sym (eqb-true volume l.volume b)) in
        ap (lies key volume) (cond-false (not (place == l.volume)) (l ∷ without_place place ls) (without_place place ls) (ap not a)) ∙ rest
        ∙ ap (λ x. not x && lies key volume ls) here ∙ sym (ap (λ x. not x && (((volume == l.volume) && is_key key l.key) || lies key volume ls)) here)
    from rest true a false b =
        ap (lies key volume) (cond-false (not (place == l.volume)) (l ∷ without_place place ls) (without_place place ls) (ap not a)) ∙ rest
        ∙ sym (ap (λ x. not (place == volume) && ((x && is_key key l.key) || lies key volume ls)) b)
    from rest false a true b =
        let here : (place == volume) ≡ false = ap (λ v. place == v) (eqb-true volume l.volume b) ∙ a in
        ap (lies key volume) (cond-true (not (place == l.volume)) (l ∷ without_place place ls) (without_place place ls) (ap not a))
        ∙ ap (λ x. ((volume == l.volume) && is_key key l.key) || x) (rest ∙ ap (λ x. not x && lies key volume ls) here)
        ∙ sym (ap (λ x. not x && (((volume == l.volume) && is_key key l.key) || lies key volume ls)) here)
    from rest false a false b =
        ap (lies key volume) (cond-true (not (place == l.volume)) (l ∷ without_place place ls) (without_place place ls) (ap not a))
        ∙ ap (λ x. (x && is_key key l.key) || lies key volume (without_place place ls)) b ∙ rest
        ∙ sym (ap (λ x. not (place == volume) && ((x && is_key key l.key) || lies key volume ls)) b)

pub awaits_marked : (mark : Mark) → is_unsynced mark ≡ false → (names : List (List ℕ)) (es : List Entry) (ls : List Lying) (name : List ℕ) (found : ℕ) → IsPlaceOf names name (Some found)
    → ((key : SessionKey) (place : ℕ) → place < length names → lies key place ls ≡ fails_with key (name_at names place) es)
    → (key : SessionKey) (place : ℕ) → place < length names → lies key place (without_place found ls) ≡ fails_with key (name_at names place) (marked mark name es)
awaits_marked mark isn't names es ls name found is awaits key place below =
    lies_without key found place ls ∙ from (found == place) refl
  where
    from : (b : Bool) → (found == place) ≡ b → (not (found == place) && lies key place ls) ≡ fails_with key (name_at names place) (marked mark name es)
    from true same =
        ap (λ b. not b && lies key place ls) same
        ∙ sym (ap (λ v. fails_with key v (marked mark name es)) (ap (name_at names) (sym (eqb-true found place same)) ∙ (is.there found refl).1) ∙ marked_none mark isn't key name es)
    from false apart =
        ap (λ b. not b && lies key place ls) apart ∙ awaits key place below
        ∙ sym (marked_others mark key name (name_at names place) (λ same. never (is.only place below same)) es)
      where
        never : Some found ≡ Some place → ⊥
        never e = eqb-false found place apart (some_is e)
          where
            some_is : {X : Type 0} {x y : X} → Some x ≡ Some y → x ≡ y
            some_is e = cc

pub lying_without : (names : List (List ℕ)) (place : ℕ) (ls : List Lying) → All (LiesNamed names) ls → All (LiesNamed names) (without_place place ls)
lying_without names place [] named = All-nil (LiesNamed names)
lying_without names place (l ∷ ls) named = from (lying_without names place ls (All-tail (LiesNamed names) l ls named)) (not (place == l.volume))
  where
    from : All (LiesNamed names) (without_place place ls) → (b : Bool) → All (LiesNamed names) (cond b (l ∷ without_place place ls) (without_place place ls))
    from rest true = All-cons (LiesNamed names) l (without_place place ls) (All-head (LiesNamed names) l ls named) rest
    from rest false = rest

pub has_marked : (mark : Mark) (key : SessionKey) (name volume : List ℕ) (es : List Entry) → has_on key volume (marked mark name es) ≡ has_on key volume es
has_marked mark key name volume es = ap (λ ps. list_any (λ (p : Placement). bytes_eq p.volume volume) (placements_of key ps)) (marked_placements (takes mark name) mark es)

-- Whether any session awaits a sync.

pub any_awaits : (name : List ℕ) (place : ℕ) (ls : List Lying) (es : List Entry) → ((key : SessionKey) → lies key place ls ≡ fails_with key name es)
    → list_any (λ (l : Lying). place == l.volume) ls ≡ any_awaits_sync name es
any_awaits name place ls es awaits = from (list_any (λ (l : Lying). place == l.volume) ls) refl (any_awaits_sync name es) refl
  where
    who_lies : (ls : List Lying) → list_any (λ (l : Lying). place == l.volume) ls ≡ true → (key : SessionKey) × (lies key place ls ≡ true)
    who_lies [] is = absurd (true≢false (sym is))
    who_lies (l ∷ ls) is = elim (or_cases (place == l.volume) (list_any (λ (x : Lying). place == x.volume) ls) is) [
      | inl here ↦ (l.key, or_left ((place == l.volume) && is_key l.key l.key) (lies l.key place ls) (ap₂ (λ a b. a && b) here (key_same_self l.key)))
      | inr there ↦ (let rest = who_lies ls there in (rest.0, or_right ((place == l.volume) && is_key rest.0 l.key) (lies rest.0 place ls) rest.1))
    ]

    lies_any : (key : SessionKey) (ls : List Lying) → lies key place ls ≡ true → list_any (λ (l : Lying). place == l.volume) ls ≡ true
    lies_any key [] is = absurd (true≢false (sym is))
    lies_any key (l ∷ ls) is = elim (or_cases ((place == l.volume) && is_key key l.key) (lies key place ls) is) [
      | inl here ↦ or_left (place == l.volume) (list_any (λ (x : Lying). place == x.volume) ls) (and_parts (place == l.volume) (is_key key l.key) here).0
      | inr there ↦ or_right (place == l.volume) (list_any (λ (x : Lying). place == x.volume) ls) (lies_any key ls there)
    ]

    who_awaits : (es : List Entry) → any_awaits_sync name es ≡ true → (key : SessionKey) × (fails_with key name es ≡ true)
    who_awaits [] is = absurd (true≢false (sym is))
    who_awaits (e ∷ es) is = elim (or_cases (awaits_sync name e) (any_awaits_sync name es) is) [
      | inl here ↦ (e.placement.key, or_left (is_key e.placement.key e.placement.key && awaits_sync name e) (fails_with e.placement.key name es) (ap₂ (λ a b. a && b) (key_same_self e.placement.key) here))
      | inr there ↦ (let rest = who_awaits es there in (rest.0, or_right (is_key rest.0 e.placement.key && awaits_sync name e) (fails_with rest.0 name es) rest.1))
    ]

    awaits_any : (key : SessionKey) (es : List Entry) → fails_with key name es ≡ true → any_awaits_sync name es ≡ true
    awaits_any key [] is = absurd (true≢false (sym is))
    awaits_any key (e ∷ es) is = elim (or_cases (is_key key e.placement.key && awaits_sync name e) (fails_with key name es) is) [
      | inl here ↦ or_left (awaits_sync name e) (any_awaits_sync name es) (and_parts (is_key key e.placement.key) (awaits_sync name e) here).1
      | inr there ↦ or_right (awaits_sync name e) (any_awaits_sync name es) (awaits_any key es there)
    ]

    from : (a : Bool) → list_any (λ (l : Lying). place == l.volume) ls ≡ a → (b : Bool) → any_awaits_sync name es ≡ b → list_any (λ (l : Lying). place == l.volume) ls ≡ any_awaits_sync name es
    from true a true b = a ∙ sym b
    from false a false b = a ∙ sym b
    from true a false b = (let who = who_lies ls a in absurd (true≢false (sym (awaits_any who.0 es (sym (awaits who.0) ∙ who.1)) ∙ b)))
    from false a true b = (let who = who_awaits es b in absurd (true≢false (sym (lies_any who.0 ls (awaits who.0 ∙ who.1)) ∙ a)))
