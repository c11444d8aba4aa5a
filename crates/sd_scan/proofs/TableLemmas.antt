-- What is kept of all sessions, with one block more.
use Rattle.std.proofs.Common.{◌≡◌, ◌≢◌, ◌⊎◌, inl, inr, ℕ, zero, suc, ◌+◌, Bool, true, false, List, [], ◌∷◌, ◌++◌, map, refl, sym, ap, ap₂, subst, ◌∙◌, arith, slice_get, slice_set}
use Rattle.std.specs.Prelude.{IfOk, Option, Some, None, Result, Ok, Err, ◌||◌}
use Rattle.std.specs.List.{list_any}
use Rattle.std.proofs.lemmas.Bool.{cond-true, cond-false, true≢false}
use Rattle.std.proofs.lemmas.List.{map-append}
use Rattle.std.proofs.lemmas.List.Folds.{list_any-append}
use Rattle.std.proofs.lemmas.Map.Keys.{any_passes_from_place}
use Rattle.sd_base.specs.Key.{is_key}
use Rattle.sd_base.specs.declared.number.SessionKey.{SessionKey}
use Rattle.sd_readback.proofs.ReaderLemmas.{body_more, body_other}
use Rattle.sd_readback.specs.Reading.{blocks_of}
use Rattle.sd_span.specs.Spans.{numbered_from, placements_of, spans_of, stretches}
use Rattle.sd_span.specs.declared.placement.Placement.{Placement}
use Rattle.sd_journal.proofs.KeyLemmas.{key_same, key_turned, key_same_self}
use Rattle.sd_journal.proofs.EntryLemmas.{own_more, other_more}
use Rattle.sd_scan.specs.Found.{Found, ArePlacements, IsPlacementOf, blocks_in, bodies_of}
use Rattle.sd_scan.specs.Session.{Breaks, IsStartOf, ReadsTo, StandsFor}
use Rattle.sd_scan.specs.declared.report.Report.{Report}
use Rattle.sd_scan.specs.Sessions.{KeepsBy, Reports, Stands, keys_behind, keys_of}
use Rattle.sd_journal.specs.Journal.{with_key}
use Rattle.sd_scan.specs.declared.session.Session.{Session}

-- Keys.

key_same_to : (a b : SessionKey) → a ≡ b → is_key a b ≡ true
key_same_to a b same = ap (is_key a) (sym same) ∙ key_same_self a

or_parts : (a b : Bool) → (a || b) ≡ false → (a ≡ false) × (b ≡ false)
or_parts true b e = absurd (true≢false e)
or_parts false b e = (refl, e)

or_none : (a b : Bool) → a ≡ false → b ≡ false → (a || b) ≡ false
or_none a b none none' = ap₂ (λ x y. x || y) none none'

none_push : (key other : SessionKey) (keys : List SessionKey) → list_any (is_key key) (keys ++ other ∷ []) ≡ false → (list_any (is_key key) keys ≡ false) × (is_key key other ≡ false)
none_push key other keys none =
    let parts = or_parts (list_any (is_key key) keys) (list_any (is_key key) (other ∷ [])) (sym (list_any-append (is_key key) keys (other ∷ [])) ∙ none) in
    (parts.0, (or_parts (is_key key other) false parts.1).0)

-- no two of them are one
abbrev Distinct : List SessionKey → Type 0
Distinct [] = Unit {0}
Distinct (key ∷ keys) = (list_any (is_key key) keys ≡ false) × Distinct keys

distinct_push : (keys : List SessionKey) (key : SessionKey) → Distinct keys → list_any (is_key key) keys ≡ false → Distinct (keys ++ key ∷ [])
distinct_push [] key d none = (refl, tt)
distinct_push (one ∷ keys) key d none =
    let parts = or_parts (is_key key one) (list_any (is_key key) keys) none in
    let apart : is_key one key ≡ false = key_turned key one ∙ parts.0 in (
      list_any-append (is_key one) keys (key ∷ []) ∙ or_none (list_any (is_key one) keys) (list_any (is_key one) (key ∷ [])) d.0 (or_none (is_key one key) false apart refl),
      distinct_push keys key d.1 parts.1,
    )

distinct_with : (keys : List SessionKey) (key : SessionKey) (among : Bool) → list_any (is_key key) keys ≡ among → Distinct keys → Distinct (with_key key keys)
distinct_with keys key true is d = subst Distinct (sym (cond-true (list_any (is_key key) keys) keys (keys ++ key ∷ []) is)) d
distinct_with keys key false is d = subst Distinct (sym (cond-false (list_any (is_key key) keys) keys (keys ++ key ∷ []) is)) (distinct_push keys key d is)

distinct_behind : (keys : List SessionKey) (found : List Found) → Distinct keys → Distinct (keys_behind keys found)
distinct_behind keys [] d = d
distinct_behind keys (f ∷ found) d = distinct_behind (with_key f.block.key keys) found (distinct_with keys f.block.key (list_any (is_key f.block.key) keys) refl d)

some_same : {X : Type 0} {a b : X} → Some a ≡ Some b → a ≡ b
some_same e = cc

none_some : {X : Type 0} {P : Type 0} {a : X} → ◌≡◌ {A = Option X} None (Some a) → P
none_some e = absurd cc

-- each is at one place
one_place : (keys : List SessionKey) (at other : ℕ) (a b : SessionKey) → Distinct keys → slice_get keys at ≡ Some a → slice_get keys other ≡ Some b → is_key a b ≡ true → at ≡ other
one_place [] at other a b d here there same = none_some here
one_place (key ∷ keys) zero zero a b d here there same = refl
one_place (key ∷ keys) zero (suc other) a b d here there same =
    let among = any_passes_from_place (is_key key) keys other b there (ap (λ k. is_key k b) (some_same here) ∙ same) in
    absurd (true≢false (sym among ∙ d.0))
one_place (key ∷ keys) (suc at) zero a b d here there same =
    let among = any_passes_from_place (is_key key) keys at a here (ap (λ k. is_key k a) (some_same there) ∙ key_turned a b ∙ same) in
    absurd (true≢false (sym among ∙ d.0))
one_place (key ∷ keys) (suc at) (suc other) a b d here there same = ap suc (one_place keys at other a b d.1 here there same)

-- the keys of blocks with one more
keys_behind-more : (keys : List SessionKey) (found : List Found) (f : Found) → keys_behind keys (found ++ f ∷ []) ≡ with_key f.block.key (keys_behind keys found)
keys_behind-more keys [] f = refl
keys_behind-more keys (g ∷ found) f = keys_behind-more (with_key g.block.key keys) found f

-- of a session that is not among them there is no block
absent : (keys : List SessionKey) (found : List Found) (key : SessionKey) → list_any (is_key key) (keys_behind keys found) ≡ false
    → (list_any (is_key key) keys ≡ false) × (bodies_of key found ≡ [])
absent keys [] key none = (none, refl)
absent keys (f ∷ found) key none =
    let rest = absent (with_key f.block.key keys) found key none in
    let first = absent_first (list_any (is_key f.block.key) keys) refl rest.0 in
    (first.0, cond-false (is_key key f.block.key) (f.block.body ∷ bodies_of key found) (bodies_of key found) first.1 ∙ rest.1)
  where
    absent_first : (among : Bool) → list_any (is_key f.block.key) keys ≡ among → list_any (is_key key) (with_key f.block.key keys) ≡ false
        → (list_any (is_key key) keys ≡ false) × (is_key key f.block.key ≡ false)
    absent_first true is other =
        let none_there : list_any (is_key key) keys ≡ false = ap (list_any (is_key key)) (sym (cond-true (list_any (is_key f.block.key) keys) keys (keys ++ f.block.key ∷ []) is)) ∙ other in
        (none_there, apart (is_key key f.block.key) refl none_there)
      where
        apart : (b : Bool) → is_key key f.block.key ≡ b → list_any (is_key key) keys ≡ false → is_key key f.block.key ≡ false
        apart true same never = absurd (true≢false (sym is ∙ ap (λ k. list_any (is_key k) keys) (sym (key_same key f.block.key same)) ∙ never))
        apart false same never = same
    absent_first false is other =
        none_push key f.block.key keys (ap (list_any (is_key key)) (sym (cond-false (list_any (is_key f.block.key) keys) keys (keys ++ f.block.key ∷ []) is)) ∙ other)

-- The placements of blocks with one more.

pub placements_more : (found : List Found) (ps : List Placement) (f : Found) (p : Placement) → ArePlacements found ps → IsPlacementOf f p → ArePlacements (found ++ f ∷ []) (ps ++ p ∷ [])
placements_more [] [] f p are is = (is, tt)
placements_more [] (q ∷ ps) f p are is = absurd are
placements_more (g ∷ found) [] f p are is = absurd are
placements_more (g ∷ found) (q ∷ ps) f p are is = (are.0, placements_more found ps f p are.1 is)

-- a session without a block has no placement
pub none_placed : (found : List Found) (ps : List Placement) (key : SessionKey) → ArePlacements found ps → bodies_of key found ≡ [] → placements_of key ps ≡ []
none_placed [] [] key are none = refl
none_placed [] (q ∷ ps) key are none = absurd are
none_placed (g ∷ found) [] key are none = absurd are
none_placed (g ∷ found) (q ∷ ps) key are none = by (is_key key g.block.key) refl (λ rest. none_placed found ps key are.1 rest)
  where
    by : (b : Bool) → is_key key g.block.key ≡ b → (bodies_of key found ≡ [] → placements_of key ps ≡ []) → placements_of key (q ∷ ps) ≡ []
    by true is others = not_nil (sym (cond-true (is_key key g.block.key) (g.block.body ∷ bodies_of key found) (bodies_of key found) is) ∙ none)
      where
        not_nil : {P : Type 0} → g.block.body ∷ bodies_of key found ≡ [] → P
        not_nil e = absurd cc
    by false is others =
        let other : is_key key q.key ≡ false = ap (is_key key) are.0.key_is ∙ is in
        let rest = sym (cond-false (is_key key g.block.key) (g.block.body ∷ bodies_of key found) (bodies_of key found) is) ∙ none in
        cond-false (is_key key q.key) (q ∷ placements_of key ps) (placements_of key ps) other ∙ others rest

-- The bodies of a session with one block more.

own_body : (key : SessionKey) (found : List Found) (f : Found) → is_key key f.block.key ≡ true → bodies_of key (found ++ f ∷ []) ≡ bodies_of key found ++ f.block.body ∷ []
own_body key found f own = ap (blocks_of key) (map-append (λ (g : Found). g.block) found (f ∷ [])) ∙ body_more key (blocks_in found) f.block own

other_body : (key : SessionKey) (found : List Found) (f : Found) → is_key key f.block.key ≡ false → bodies_of key (found ++ f ∷ []) ≡ bodies_of key found
other_body key found f other = ap (blocks_of key) (map-append (λ (g : Found). g.block) found (f ∷ [])) ∙ body_other key (blocks_in found) f.block other

-- One session.

-- another session's block changes nothing of it
stands_other : (found : List Found) (ps : List Placement) (f : Found) (p : Placement) (s : Session) → IsPlacementOf f p → is_key s.key f.block.key ≡ false → Stands found ps s
    → Stands (found ++ f ∷ []) (ps ++ p ∷ []) s
stands_other found ps f p s is other stands =
    let bodies = other_body s.key found f other in
    let own = other_more s.key ps p (ap (is_key s.key) is.key_is ∙ other) in
    record {
      first = stands.first;
      rest = stands.rest;
      bodies_are = bodies ∙ stands.bodies_are;
      stands = subst (λ l. StandsFor stands.first l (bodies_of s.key (found ++ f ∷ [])) s) (sym own)
          (subst (λ l. StandsFor stands.first (placements_of s.key ps) l s) (sym bodies) stands.stands);
    }

-- whoever takes a block after others, of the same session
abbrev pub TakesOn : Placement → List ℕ → Session → Session → Type 0
TakesOn p body old new =
    (first : List ℕ) (own : List Placement) (bodies : List (List ℕ)) → StandsFor first own bodies old → StandsFor first (own ++ p ∷ []) (bodies ++ body ∷ []) new

-- a block of its own
stands_own : (found : List Found) (ps : List Placement) (f : Found) (p : Placement) (old new : Session) → IsPlacementOf f p → new.key ≡ old.key → old.key ≡ f.block.key
    → TakesOn p f.block.body old new → Stands found ps old → Stands (found ++ f ∷ []) (ps ++ p ∷ []) new
stands_own found ps f p old new is key_is own_is takes stands =
    let own : is_key old.key f.block.key ≡ true = key_same_to old.key f.block.key own_is in
    let bodies : bodies_of new.key (found ++ f ∷ []) ≡ bodies_of old.key found ++ f.block.body ∷ [] = ap (λ k. bodies_of k (found ++ f ∷ [])) key_is ∙ own_body old.key found f own in
    let places : placements_of new.key (ps ++ p ∷ []) ≡ placements_of old.key ps ++ p ∷ [] =
    ap (λ k. placements_of k (ps ++ p ∷ [])) key_is ∙ own_more old.key ps p (ap (is_key old.key) is.key_is ∙ own) in
    record {
      first = stands.first;
      rest = stands.rest ++ f.block.body ∷ [];
      bodies_are = bodies ∙ ap (λ (l : List (List ℕ)). l ++ f.block.body ∷ []) stands.bodies_are;
      stands = subst (λ l. StandsFor stands.first l (bodies_of new.key (found ++ f ∷ [])) new) (sym places)
          (subst (λ l. StandsFor stands.first (placements_of old.key ps ++ p ∷ []) l new) (sym bodies) (takes stands.first _ _ stands.stands));
    }

-- the first block of a session
stands_first : (found : List Found) (ps : List Placement) (f : Found) (p : Placement) (s : Session) → IsPlacementOf f p → s.key ≡ f.block.key
    → bodies_of s.key found ≡ [] → placements_of s.key ps ≡ [] → StandsFor f.block.body (p ∷ []) (f.block.body ∷ []) s → Stands (found ++ f ∷ []) (ps ++ p ∷ []) s
stands_first found ps f p s is own_is none none' stands =
    let own : is_key s.key f.block.key ≡ true = key_same_to s.key f.block.key own_is in
    let bodies : bodies_of s.key (found ++ f ∷ []) ≡ f.block.body ∷ [] = own_body s.key found f own ∙ ap (λ (l : List (List ℕ)). l ++ f.block.body ∷ []) none in
    let places : placements_of s.key (ps ++ p ∷ []) ≡ p ∷ [] = own_more s.key ps p (ap (is_key s.key) is.key_is ∙ own) ∙ ap (λ (l : List Placement). l ++ p ∷ []) none' in
    record {
      first = f.block.body;
      rest = [];
      bodies_are = bodies;
      stands = subst (λ l. StandsFor f.block.body l (bodies_of s.key (found ++ f ∷ [])) s) (sym places) (subst (λ l. StandsFor f.block.body (p ∷ []) l s) (sym bodies) stands);
    }

-- All of them.

get_map : {X Y : Type 0} (v : X → Y) (xs : List X) (at : ℕ) (x : X) → slice_get xs at ≡ Some x → slice_get (map v xs) at ≡ Some (v x)
get_map v [] at x e = none_some e
get_map v (y ∷ xs) zero x e = ap (λ z. Some (v z)) (some_same e)
get_map v (y ∷ xs) (suc at) x e = get_map v xs at x e

keys_set : {X Y : Type 0} (v : X → Y) (xs : List X) (at : ℕ) (old new : X) → slice_get xs at ≡ Some old → v new ≡ v old → map v (slice_set xs at new) ≡ map v xs
keys_set v [] at old new e same = none_some e
keys_set v (y ∷ xs) zero old new e same = ap (λ z. z ∷ map v xs) (same ∙ ap v (sym (some_same e)))
keys_set v (y ∷ xs) (suc at) old new e same = ap (λ l. v y ∷ l) (keys_set v xs at old new e same)

-- what is at a place of a list that was changed at one place
at_set : {X : Type 0} (xs : List X) (at place : ℕ) (new x : X) → slice_get (slice_set xs at new) place ≡ Some x → ((place ≡ at) × (x ≡ new)) ⊎ ((place ≢ at) × (slice_get xs place ≡ Some x))
at_set [] at place new x e = none_some e
at_set (y ∷ xs) zero zero new x e = inl (refl, sym (some_same e))
at_set (y ∷ xs) zero (suc place) new x e = inr (λ same. cc, e)
at_set (y ∷ xs) (suc at) zero new x e = inr (λ same. cc, e)
at_set (y ∷ xs) (suc at) (suc place) new x e = elim (at_set xs at place new x e) [
  | inl here ↦ inl (ap suc here.0, here.1)
  | inr there ↦ inr (λ same. there.0 (suc_same place at same), there.1)
]
  where
    suc_same : (a b : ℕ) → suc a ≡ suc b → a ≡ b
    suc_same a b e = omega arith

-- and of one with one more at its end
at_push : {X : Type 0} (xs : List X) (place : ℕ) (new x : X) → slice_get (xs ++ new ∷ []) place ≡ Some x → (x ≡ new) ⊎ (slice_get xs place ≡ Some x)
at_push [] zero new x e = inl (sym (some_same e))
at_push [] (suc place) new x e = none_some e
at_push (y ∷ xs) zero new x e = inr e
at_push (y ∷ xs) (suc place) new x e = at_push xs place new x e

abbrev key_of : Session → SessionKey
key_of s = s.key

-- a block of a session that is kept
pub keeps_own : (found : List Found) (ps : List Placement) (f : Found) (p : Placement) (sessions : List Session) (at : ℕ) (old new : Session) → KeepsBy found ps sessions → IsPlacementOf f p
    → slice_get sessions at ≡ Some old → old.key ≡ f.block.key → new.key ≡ old.key → TakesOn p f.block.body old new → KeepsBy (found ++ f ∷ []) (ps ++ p ∷ []) (slice_set sessions at new)
keeps_own found ps f p sessions at old new keeps is there own_is key_is takes =
    let keys = keeps.keys_are in
    let placed : slice_get (map key_of sessions) at ≡ Some old.key = get_map key_of sessions at old there in
    let among : list_any (is_key f.block.key) (keys_of found) ≡ true =
    ap (list_any (is_key f.block.key)) (sym keys) ∙ any_passes_from_place (is_key f.block.key) (map key_of sessions) at old.key placed (key_same_to f.block.key old.key (sym own_is)) in
    record {
      placements_are = placements_more found ps f p keeps.placements_are is;
      keys_are = keys_set key_of sessions at old new there key_is ∙ keys ∙ sym (keys_behind-more [] found f ∙ cond-true (list_any (is_key f.block.key) (keys_of found)) (keys_of found) (keys_of found ++ f.block.key ∷ []) among);
      each = λ place one e. elim (at_set sessions at place new one e) [
        | inl here ↦ subst (Stands (found ++ f ∷ []) (ps ++ p ∷ [])) (sym here.1) (stands_own found ps f p old new is key_is own_is takes (keeps.each at old there))
        | inr other ↦ stands_other found ps f p one is (apart place one other.0 other.1 (is_key one.key f.block.key) refl) (keeps.each place one other.1)
      ];
    }
  where
    apart : (place : ℕ) (one : Session) → place ≢ at → slice_get sessions place ≡ Some one → (b : Bool) → is_key one.key f.block.key ≡ b → is_key one.key f.block.key ≡ false
    apart place one other there' true same =
        let distinct = subst Distinct (sym keeps.keys_are) (distinct_behind [] found tt) in
        absurd (other (one_place (map key_of sessions) place at one.key old.key distinct (get_map key_of sessions place one there') (get_map key_of sessions at old there)
        (ap (is_key one.key) own_is ∙ same)))
    apart place one other there' false same = same

none_among : (sessions : List Session) (key : SessionKey) → ((at : ℕ) (one : Session) → slice_get sessions at ≡ Some one → is_key key one.key ≡ false) → list_any (is_key key) (map key_of sessions) ≡ false
none_among [] key none = refl
none_among (s ∷ sessions) key none = or_none (is_key key s.key) _ (none 0 s refl) (none_among sessions key (λ at one e. none (suc at) one e))

-- the first block of a session
pub keeps_first : (found : List Found) (ps : List Placement) (f : Found) (p : Placement) (sessions : List Session) (one : Session) → KeepsBy found ps sessions → IsPlacementOf f p
    → ((at : ℕ) (s : Session) → slice_get sessions at ≡ Some s → is_key f.block.key s.key ≡ false)
    → one.key ≡ f.block.key → StandsFor f.block.body (p ∷ []) (f.block.body ∷ []) one → KeepsBy (found ++ f ∷ []) (ps ++ p ∷ []) (sessions ++ one ∷ [])
keeps_first found ps f p sessions one keeps is none own_is stands =
    let none_there : list_any (is_key f.block.key) (keys_of found) ≡ false = ap (list_any (is_key f.block.key)) (sym keeps.keys_are) ∙ none_among sessions f.block.key none in
    let no_body : bodies_of one.key found ≡ [] = ap (λ k. bodies_of k found) own_is ∙ (absent [] found f.block.key none_there).1 in
    record {
      placements_are = placements_more found ps f p keeps.placements_are is;
      keys_are = map-append key_of sessions (one ∷ []) ∙ ap₂ (λ (l : List SessionKey) (k : SessionKey). l ++ k ∷ []) keeps.keys_are own_is
          ∙ sym (keys_behind-more [] found f ∙ cond-false (list_any (is_key f.block.key) (keys_of found)) (keys_of found) (keys_of found ++ f.block.key ∷ []) none_there);
      each = λ place s e. elim (at_push sessions place one s e) [
        | inl same ↦ subst (Stands (found ++ f ∷ []) (ps ++ p ∷ [])) (sym same) (stands_first found ps f p one is own_is no_body (none_placed found ps one.key keeps.placements_are no_body) stands)
        | inr there ↦ stands_other found ps f p s is (key_turned f.block.key s.key ∙ none place s there) (keeps.each place s there)
      ];
    }

-- What was read at a place.

pub same_item : {X : Type 0} (xs : List X) (at place : ℕ) (a b : X) → place ≡ at → slice_get xs at ≡ Some a → slice_get xs place ≡ Some b → a ≡ b
same_item xs at place a b same here there = some_same (sym here ∙ ap (slice_get xs) (sym same) ∙ there)

-- what is told of a session that is kept
pub told_of : {E : Type 0} (answer : Result Report E) (sessions : List Session) (at : ℕ) (s : Session) → slice_get sessions at ≡ Some s
    → IfOk answer (λ report. report.key ≡ s.key)
    → IfOk answer (λ report. (first : List ℕ) (own : List Placement) (bodies : List (List ℕ)) → StandsFor first own bodies s → report.spans ≡ numbered_from 1 (stretches own))
    → IfOk answer (λ report. report.start ≡ s.start)
    → IfOk answer (λ report. (first : List ℕ) (own : List Placement) (bodies : List (List ℕ)) → StandsFor first own bodies s → ReadsTo bodies report.records report.bytes report.ended)
    → IfOk answer (λ report. (first : List ℕ) (own : List Placement) (bodies : List (List ℕ)) → StandsFor first own bodies s → Breaks bodies report.broken)
    → IfOk answer (λ report. (found : List Found) (placements : List Placement) → KeepsBy found placements sessions → Reports found placements report)
told_of (Err e) sessions at s there key spans start reads breaks = tt
told_of (Ok report) sessions at s there key spans start reads breaks = λ found placements keeps.
    let stands = keeps.each at s there in record {
      first = stands.first;
      rest = stands.rest;
      bodies_are = ap (λ k. bodies_of k found) key ∙ stands.bodies_are;
      start_is = subst (IsStartOf stands.first) (sym start) stands.stands.start_is;
      spans_are = spans stands.first _ _ stands.stands ∙ ap (λ k. spans_of k placements) (sym key);
      reads = subst (λ k. ReadsTo (bodies_of k found) report.records report.bytes report.ended) (sym key) (reads stands.first _ _ stands.stands);
      breaks = subst (λ k. Breaks (bodies_of k found) report.broken) (sym key) (breaks stands.first _ _ stands.stands);
    }
