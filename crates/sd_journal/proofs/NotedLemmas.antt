-- What the parts of a journal keep, as blocks are noted.
use Rattle.std.proofs.Common.{◌≡◌, ℕ, ◌+◌, ◌≤◌, ◌<◌, Bool, true, false, cond, List, [], ◌∷◌, ◌++◌, length, length-append, map, refl, ap, ap₂, sym, ◌∙◌, arith, inl, inr}
use Rattle.std.specs.Prelude.{◌||◌, All, filter, not}
use Rattle.std.specs.List.{list_any}
use Rattle.std.proofs.lemmas.Bool.{cond-true, cond-false, or_cases, or_left, or_right, true≢false}
use Rattle.std.proofs.lemmas.List.{map-append}
use Rattle.std.proofs.lemmas.List.Elements.{All-head, All-tail, All-push, All-weaker}
use Rattle.std.proofs.lemmas.List.Filters.{length-filter_both}
use Rattle.std.proofs.lemmas.List.Folds.{list_any-append}
use Rattle.sd_base.specs.Key.{is_key}
use Rattle.sd_base.specs.declared.number.SessionKey.{SessionKey}
use Rattle.sd_span.specs.declared.placement.Placement.{Placement}
use Rattle.sd_journal.specs.declared.noted.Noted.{Noted}
use Rattle.sd_journal.specs.declared.shares.Shares.{Shares}
use Rattle.sd_journal.specs.Journal.{Entry, JournalView, placements, noted, without_key}
use Rattle.sd_journal.specs.Names.{with_name}
use Rattle.sd_journal.specs.Noted.{IsNamed, placement_of}
use Rattle.sd_journal.specs.Share.{share_of, ChangesAt, readied, HasRoom}
use Rattle.sd_journal.proofs.EntryLemmas.{placements_more}
use Rattle.sd_journal.proofs.KeyLemmas.{key_same, key_turned}
use Rattle.sd_journal.proofs.NameLemmas.{name_stays}
use Rattle.sd_journal.proofs.ShareLemmas.{room_readied, room_made}

-- One name more.

pub placed_still : (name : List ℕ) (names : List (List ℕ)) (ns : List Noted) → All (IsNamed names) ns → map (placement_of (with_name name names)) ns ≡ map (placement_of names) ns
placed_still name names [] named = refl
placed_still name names (n ∷ ns) named =
    ap₂ (λ (v : List ℕ) (ps : List Placement). (record { key = n.key; volume = v; start = n.start; length = n.length; first = n.first; last = n.last }) ∷ ps)
    (name_stays name names n.volume (All-head (IsNamed names) n ns named)).1
    (placed_still name names ns (All-tail (IsNamed names) n ns named))

-- the blocks are those of the entries, with one more
pub placed_more : (name : List ℕ) (names : List (List ℕ)) (ns : List Noted) (es : List Entry) (n : Noted) (p : Placement) → All (IsNamed names) ns → map (placement_of names) ns ≡ placements es
    → placement_of (with_name name names) n ≡ p → map (placement_of (with_name name names)) (ns ++ n ∷ []) ≡ placements (es ++ noted p ∷ [])
placed_more name names ns es n p named same is =
    map-append (placement_of (with_name name names)) ns (n ∷ []) ∙ ap₂ (λ ps q. ps ++ q ∷ []) (placed_still name names ns named ∙ same) is ∙ sym (placements_more es (noted p))

pub named_more : (name : List ℕ) (names : List (List ℕ)) (ns : List Noted) (n : Noted) → All (IsNamed names) ns → n.volume < length (with_name name names) → All (IsNamed (with_name name names)) (ns ++ n ∷ [])
named_more name names ns n named one =
    All-push (IsNamed (with_name name names)) ns n (All-weaker (IsNamed names) (IsNamed (with_name name names)) (λ m is. (name_stays name names m.volume is).0) ns named) one

-- Sessions that are ready.

-- a session that was ready is one less if it is not any more
passes_front : {X : Type 0} (b : Bool) (x : X) (ys : List X) (rest : Bool) → (b || rest) ≡ true → (rest ≡ true → 1 ≤ length ys) → 1 ≤ length (cond b (x ∷ ys) ys)
passes_front true x ys rest is_so front = omega arith
passes_front false x ys rest is_so front = front is_so

one_passes : {X : Type 0} (test : X → Bool) (xs : List X) → list_any test xs ≡ true → 1 ≤ length (filter test xs)
one_passes test [] is_so = absurd (true≢false (sym is_so))
one_passes test (x ∷ xs) is_so = passes_front (test x) x (filter test xs) (list_any test xs) is_so (one_passes test xs)

pub without_one : (key : SessionKey) (keys : List SessionKey) → list_any (is_key key) keys ≡ true → length (without_key key keys) + 1 ≤ length keys
without_one key keys is_so =
    let both = length-filter_both (is_key key) (λ k. not (is_key key k)) (λ k. refl) keys in
    let one = one_passes (is_key key) keys is_so in omega (arith, both, one)

-- a view by its parts
abbrev pub view_with : List Entry → List SessionKey → JournalView
view_with entries ready = record { entries = entries; ready = ready }

without_front : (key q k : SessionKey) (ks : List SessionKey) (b : Bool) → is_key key k ≡ b → list_any (is_key q) (without_key key (k ∷ ks)) ≡ true
    → (list_any (is_key q) (without_key key ks) ≡ true → (is_key key q ≡ false) × (list_any (is_key q) ks ≡ true))
    → (is_key key q ≡ false) × (list_any (is_key q) (k ∷ ks) ≡ true)
without_front key q k ks true is among behind =
    let rest = behind (sym (ap (list_any (is_key q)) (cond-false (not (is_key key k)) (k ∷ without_key key ks) (without_key key ks) (ap not is))) ∙ among) in
    (rest.0, or_right (is_key q k) (list_any (is_key q) ks) rest.1)
without_front key q k ks false is among behind =
    let kept : (is_key q k || list_any (is_key q) (without_key key ks)) ≡ true =
    sym (ap (list_any (is_key q)) (cond-true (not (is_key key k)) (k ∷ without_key key ks) (without_key key ks) (ap not is))) ∙ among in
    elim (or_cases (is_key q k) (list_any (is_key q) (without_key key ks)) kept) [
      | inl here ↦ (ap (is_key key) (key_same q k here) ∙ is, or_left (is_key q k) (list_any (is_key q) ks) here)
      | inr there ↦ (let rest = behind there in (rest.0, or_right (is_key q k) (list_any (is_key q) ks) rest.1))
    ]

-- a session that is ready without another is not the other, and was ready
pub without_other : (key q : SessionKey) (keys : List SessionKey) → list_any (is_key q) (without_key key keys) ≡ true → (is_key key q ≡ false) × (list_any (is_key q) keys ≡ true)
without_other key q [] among = absurd (true≢false (sym among))
without_other key q (k ∷ ks) among = without_front key q k ks (is_key key k) refl among (without_other key q ks)

or_last : (b : Bool) → (b || false) ≡ true → b ≡ true
or_last true e = refl
or_last false e = e

-- room is made for one session more
pub rooms_more : (key : SessionKey) (keys : List SessionKey) (s s' : Shares) → ChangesAt key readied s s' → ((q : SessionKey) → list_any (is_key q) keys ≡ true → HasRoom (share_of s q))
    → (q : SessionKey) → list_any (is_key q) (keys ++ key ∷ []) ≡ true → HasRoom (share_of s' q)
rooms_more key keys s s' changes rooms q among =
    elim (or_cases (list_any (is_key q) keys) (is_key q key || false) (sym (list_any-append (is_key q) keys (key ∷ [])) ∙ among)) [
      | inl here ↦ room_readied key s s' changes q (rooms q here)
      | inr last ↦ room_made key s s' changes q (key_turned q key ∙ or_last (is_key q key) last)
    ]

pub length_more : {X : Type 0} (xs ys : List X) (x : X) → ys ≡ xs ++ x ∷ [] → length ys ≡ length xs + 1
length_more xs ys x e = ap length e ∙ length-append xs (x ∷ [])
