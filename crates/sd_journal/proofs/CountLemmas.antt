-- How many entries of a session have a mark, and how many that are by its stretches: as blocks are noted and marked.
use Rattle.std.proofs.Common.{◌≡◌, ℕ, ◌+◌, Bool, true, false, cond, List, [], ◌∷◌, ◌++◌, map, refl, ap, ap₂, sym, ◌∙◌, arith}
use Rattle.std.specs.Prelude.{◌==◌, ◌&&◌, ◌||◌, not, All, Some}
use Rattle.std.specs.Str.{bytes_eq}
use Rattle.std.proofs.lemmas.Bool.{cond-false, eqb-true, and_right, and_left}
use Rattle.std.proofs.lemmas.List.Elements.{All-head, All-tail}
use Rattle.std.proofs.lemmas.List.Sums.{sum_by-cons, sum_by_push}
use Rattle.sd_base.specs.Key.{is_key}
use Rattle.sd_base.specs.declared.number.SessionKey.{SessionKey}
use Rattle.sd_span.specs.declared.placement.Placement.{Placement}
use Rattle.sd_journal.specs.declared.mark.Mark.{Mark}
use Rattle.sd_journal.specs.declared.mark.Mark.TheVariants.{Unsynced, Synced, Lost, Purged}
use Rattle.sd_journal.specs.declared.noted.Noted.{Noted}
use Rattle.sd_journal.specs.declared.stretch.Stretch.{Stretch}
use Rattle.sd_journal.specs.Journal.{Entry, is_unsynced, is_purged, fails_with}
use Rattle.sd_journal.specs.Kept.{takes, marked}
use Rattle.sd_journal.specs.Names.{name_at, IsPlaceOf}
use Rattle.sd_journal.specs.Share.{marks_on, count_on}
use Rattle.sd_journal.specs.Stretch.{HasName, begun_by, longer_by, grown_by, with_mark, marked_at}
use Rattle.sd_journal.proofs.NameLemmas.{place_is}
use Rattle.sd_journal.proofs.EntryLemmas.{one_if}

abbrev pub Test : Type 0
Test = List ℕ → Bool

-- one stretch, if it is on such a volume
abbrev pub one_on : List (List ℕ) → Test → (Stretch → ℕ) → Stretch → ℕ
one_on names test count s = cond (test (name_at names s.volume)) (count s) 0

-- one entry, if it has such a mark
abbrev pub one_of : SessionKey → Test → (Mark → Bool) → Entry → ℕ
one_of key test kind e = one_if (is_key key e.placement.key && (test e.placement.volume && kind e.mark))

pub marks_front : (key : SessionKey) (test : Test) (kind : Mark → Bool) (e : Entry) (es : List Entry) → marks_on key test kind (e ∷ es) ≡ one_of key test kind e + marks_on key test kind es
marks_front key test kind e es = sum_by-cons (one_of key test kind) e es

pub marks_more : (key : SessionKey) (test : Test) (kind : Mark → Bool) (es : List Entry) (e : Entry) → marks_on key test kind (es ++ e ∷ []) ≡ marks_on key test kind es + one_of key test kind e
marks_more key test kind es e = sum_by_push (one_of key test kind) es e

pub count_front : (names : List (List ℕ)) (test : Test) (count : Stretch → ℕ) (s : Stretch) (ss : List Stretch) → count_on names test count (s ∷ ss) ≡ one_on names test count s + count_on names test count ss
count_front names test count s ss = sum_by-cons (one_on names test count) s ss

-- One block more.

cond_sum : (b : Bool) (x y z : ℕ) → x ≡ y + z → cond b x 0 ≡ cond b y 0 + cond b z 0
cond_sum true x y z e = e
cond_sum false x y z e = omega arith

one_grown : (names : List (List ℕ)) (test : Test) (count : Stretch → ℕ) (more : ℕ) → ((s : Stretch) (n : Noted) → count (longer_by s n) ≡ count s + more) → ((n : Noted) → count (begun_by n) ≡ more)
    → (s : Stretch) (n : Noted) (b : Bool) → (n.volume == s.volume) ≡ b
    → count_on names test count (cond b (longer_by s n ∷ []) (s ∷ begun_by n ∷ [])) ≡ one_on names test count s + cond (test (name_at names n.volume)) more 0
one_grown names test count more longer begun s n true on =
    let all = count_front names test count (longer_by s n) [] in
    let one = cond_sum (test (name_at names s.volume)) (count (longer_by s n)) (count s) more (longer s n) in
    let place = ap (λ v. cond (test (name_at names v)) more 0) (eqb-true n.volume s.volume on) in
    omega (arith, all, one, place)
one_grown names test count more longer begun s n false off =
    let all = count_front names test count s (begun_by n ∷ []) in
    let last = count_front names test count (begun_by n) [] in
    let one = ap (λ m. cond (test (name_at names n.volume)) m 0) (begun n) in
    omega (arith, all, last, one)

-- a block more counts in its stretch
pub grown_count : (names : List (List ℕ)) (test : Test) (count : Stretch → ℕ) (more : ℕ) → ((s : Stretch) (n : Noted) → count (longer_by s n) ≡ count s + more) → ((n : Noted) → count (begun_by n) ≡ more)
    → (ss : List Stretch) (n : Noted) → count_on names test count (grown_by ss n) ≡ count_on names test count ss + cond (test (name_at names n.volume)) more 0
grown_count names test count more longer begun [] n =
    let all = count_front names test count (begun_by n) [] in
    let one = ap (λ m. cond (test (name_at names n.volume)) m 0) (begun n) in
    omega (arith, all, one)
grown_count names test count more longer begun (s ∷ []) n =
    let front = count_front names test count s [] in
    let one = one_grown names test count more longer begun s n (n.volume == s.volume) refl in
    omega (arith, front, one)
grown_count names test count more longer begun (s ∷ t ∷ ss) n =
    let after = count_front names test count s (grown_by (t ∷ ss) n) in
    let before = count_front names test count s (t ∷ ss) in
    let rest = grown_count names test count more longer begun (t ∷ ss) n in
    omega (arith, after, before, rest)

-- Marks.

-- the mark of an entry after a call
abbrev new_mark : Mark → Bool → Mark → Mark
new_mark mark on was = cond ((is_purged mark || is_unsynced was) && on) mark was

marked_mark : (mark : Mark) (e : Entry) (b : Bool) → (cond b (record e { mark = mark }) e).mark ≡ cond b mark e.mark
marked_mark mark e true = refl
marked_mark mark e false = refl

marked_place : (mark : Mark) (e : Entry) (b : Bool) → (cond b (record e { mark = mark }) e).placement ≡ e.placement
marked_place mark e true = refl
marked_place mark e false = refl

-- one entry after a call
one_marked : (key : SessionKey) (test : Test) (kind : Mark → Bool) (mark : Mark) (volume : List ℕ) (e : Entry)
    → one_of key test kind (cond (takes mark volume e) (record e { mark = mark }) e)
    ≡ one_if (is_key key e.placement.key && (test e.placement.volume && kind (new_mark mark (bytes_eq e.placement.volume volume) e.mark)))
one_marked key test kind mark volume e =
    ap₂ (λ (p : Placement) (m : Mark). one_if (is_key key p.key && (test p.volume && kind m)))
    (marked_place mark e (takes mark volume e)) (marked_mark mark e (takes mark volume e))

off_mark : (mark was : Mark) → new_mark mark false was ≡ was
off_mark mark was = cond-false ((is_purged mark || is_unsynced was) && false) mark was (and_right (is_purged mark || is_unsynced was) false refl)

-- no entry on the volume has such a mark any more
clear_one : (kind : Mark → Bool) (mark : Mark) → ((was : Mark) → kind (new_mark mark true was) ≡ false) → (own t on : Bool) (was : Mark)
    → one_if (own && (t && kind (new_mark mark on was))) ≡ one_if (own && ((t && not on) && kind was))
clear_one kind mark clear own t true was =
    ap (λ k. one_if (own && (t && k))) (clear was) ∙ ap (λ k. one_if (own && k)) (and_right t false refl ∙ sym (and_left (t && false) (kind was) (and_right t false refl)))
clear_one kind mark clear own t false was =
    ap (λ m. one_if (own && (t && kind m))) (off_mark mark was) ∙ ap (λ k. one_if (own && (k && kind was))) (sym (true_right t))
  where
    true_right : (b : Bool) → (b && true) ≡ b
    true_right true = refl
    true_right false = refl

abbrev pub off : Test → List ℕ → Test
off test volume name = test name && not (bytes_eq name volume)

abbrev pub on : Test → List ℕ → Test
on test volume name = test name && bytes_eq name volume

pub marks_cleared : (key : SessionKey) (test : Test) (kind : Mark → Bool) (mark : Mark) (volume : List ℕ) → ((was : Mark) → kind (new_mark mark true was) ≡ false) → (es : List Entry)
    → marks_on key test kind (marked mark volume es) ≡ marks_on key (off test volume) kind es
marks_cleared key test kind mark volume clear [] = refl
marks_cleared key test kind mark volume clear (e ∷ es) =
    let after = marks_front key test kind (cond (takes mark volume e) (record e { mark = mark }) e) (marked mark volume es) in
    let before = marks_front key (off test volume) kind e es in
    let one = one_marked key test kind mark volume e ∙ clear_one kind mark clear (is_key key e.placement.key) (test e.placement.volume) (bytes_eq e.placement.volume volume) e.mark in
    let rest = marks_cleared key test kind mark volume clear es in
    omega (arith, after, before, one, rest)

-- those that were unsynced there have such a mark now
gain_one : (kind : Mark → Bool) (mark : Mark) → ((was : Mark) → one_if (kind (new_mark mark true was)) ≡ one_if (kind was) + one_if (is_unsynced was)) → (own t on : Bool) (was : Mark)
    → one_if (own && (t && kind (new_mark mark on was))) ≡ one_if (own && (t && kind was)) + one_if (own && ((t && on) && is_unsynced was))
gain_one kind mark gain true true true was = gain was
gain_one kind mark gain true true false was = ap (λ m. one_if (kind m)) (off_mark mark was) ∙ omega arith
gain_one kind mark gain true false on was = refl
gain_one kind mark gain false t on was = refl

pub marks_gained : (key : SessionKey) (test : Test) (kind : Mark → Bool) (mark : Mark) (volume : List ℕ)
    → ((was : Mark) → one_if (kind (new_mark mark true was)) ≡ one_if (kind was) + one_if (is_unsynced was)) → (es : List Entry)
    → marks_on key test kind (marked mark volume es) ≡ marks_on key test kind es + marks_on key (on test volume) is_unsynced es
marks_gained key test kind mark volume gain [] = refl
marks_gained key test kind mark volume gain (e ∷ es) =
    let after = marks_front key test kind (cond (takes mark volume e) (record e { mark = mark }) e) (marked mark volume es) in
    let before = marks_front key test kind e es in
    let more = marks_front key (on test volume) is_unsynced e es in
    let one = one_marked key test kind mark volume e ∙ gain_one kind mark gain (is_key key e.placement.key) (test e.placement.volume) (bytes_eq e.placement.volume volume) e.mark in
    let rest = marks_gained key test kind mark volume gain es in
    omega (arith, after, before, more, one, rest)

-- as many have such a mark as before
keep_one : (kind : Mark → Bool) (mark : Mark) → ((was : Mark) → kind (new_mark mark true was) ≡ kind was) → (on : Bool) (was : Mark) → kind (new_mark mark on was) ≡ kind was
keep_one kind mark keep true was = keep was
keep_one kind mark keep false was = ap kind (off_mark mark was)

pub marks_kept : (key : SessionKey) (test : Test) (kind : Mark → Bool) (mark : Mark) (volume : List ℕ) → ((was : Mark) → kind (new_mark mark true was) ≡ kind was) → (es : List Entry)
    → marks_on key test kind (marked mark volume es) ≡ marks_on key test kind es
marks_kept key test kind mark volume keep [] = refl
marks_kept key test kind mark volume keep (e ∷ es) =
    let after = marks_front key test kind (cond (takes mark volume e) (record e { mark = mark }) e) (marked mark volume es) in
    let before = marks_front key test kind e es in
    let one = one_marked key test kind mark volume e
    ∙ ap (λ k. one_if (is_key key e.placement.key && (test e.placement.volume && k))) (keep_one kind mark keep (bytes_eq e.placement.volume volume) e.mark) in
    let rest = marks_kept key test kind mark volume keep es in
    omega (arith, after, before, one, rest)

-- The same of stretches.

with_mark_volume : (mark : Mark) (s : Stretch) → (with_mark mark s).volume ≡ s.volume
with_mark_volume Unsynced s = refl
with_mark_volume Synced s = refl
with_mark_volume Lost s = refl
with_mark_volume Purged s = refl

pub marked_volume : (mark : Mark) (volume : ℕ) (s : Stretch) → (marked_at mark volume s).volume ≡ s.volume
marked_volume mark volume s = from (volume == s.volume)
  where
    from : (b : Bool) → (cond b (with_mark mark s) s).volume ≡ s.volume
    from true = with_mark_volume mark s
    from false = refl

one_at : (names : List (List ℕ)) (test : Test) (count : Stretch → ℕ) (mark : Mark) (volume : ℕ) (s : Stretch)
    → one_on names test count (marked_at mark volume s) ≡ cond (test (name_at names s.volume)) (cond (volume == s.volume) (count (with_mark mark s)) (count s)) 0
one_at names test count mark volume s =
    ap₂ (λ v n. cond (test (name_at names v)) n 0) (marked_volume mark volume s) (from (volume == s.volume))
  where
    from : (b : Bool) → count (cond b (with_mark mark s) s) ≡ cond b (count (with_mark mark s)) (count s)
    from true = refl
    from false = refl

clear_at : (t on : Bool) (new was : ℕ) → new ≡ 0 → cond t (cond on new was) 0 ≡ cond (t && not on) was 0
clear_at true true new was none = none
clear_at true false new was none = refl
clear_at false on new was none = refl

-- a place is that of the name
same_place : (names : List (List ℕ)) (name : List ℕ) (place : ℕ) (s : Stretch) → IsPlaceOf names name (Some place) → HasName names s → (place == s.volume) ≡ bytes_eq (name_at names s.volume) name
same_place names name place s is named = place_is names name place s.volume is named

pub count_cleared : (names : List (List ℕ)) (test : Test) (count : Stretch → ℕ) (mark : Mark) (name : List ℕ) (place : ℕ) → IsPlaceOf names name (Some place) → ((s : Stretch) → count (with_mark mark s) ≡ 0)
    → (ss : List Stretch) → All (HasName names) ss → count_on names test count (map (marked_at mark place) ss) ≡ count_on names (off test name) count ss
count_cleared names test count mark name place is clear [] named = refl
count_cleared names test count mark name place is clear (s ∷ ss) named =
    let after = count_front names test count (marked_at mark place s) (map (marked_at mark place) ss) in
    let before = count_front names (off test name) count s ss in
    let one = one_at names test count mark place s ∙ clear_at (test (name_at names s.volume)) (place == s.volume) (count (with_mark mark s)) (count s) (clear s)
    ∙ ap (λ b. cond (test (name_at names s.volume) && not b) (count s) 0) (same_place names name place s is (All-head (HasName names) s ss named)) in
    let rest = count_cleared names test count mark name place is clear ss (All-tail (HasName names) s ss named) in
    omega (arith, after, before, one, rest)

gain_at : (t on : Bool) (new was more : ℕ) → new ≡ was + more → cond t (cond on new was) 0 ≡ cond t was 0 + cond (t && on) more 0
gain_at true true new was more e = e
gain_at true false new was more e = omega arith
gain_at false on new was more e = refl

pub count_gained : (names : List (List ℕ)) (test : Test) (count : Stretch → ℕ) (mark : Mark) (name : List ℕ) (place : ℕ) → IsPlaceOf names name (Some place)
    → ((s : Stretch) → count (with_mark mark s) ≡ count s + s.unsynced) → (ss : List Stretch) → All (HasName names) ss
    → count_on names test count (map (marked_at mark place) ss) ≡ count_on names test count ss + count_on names (on test name) (λ (s : Stretch). s.unsynced) ss
count_gained names test count mark name place is gain [] named = refl
count_gained names test count mark name place is gain (s ∷ ss) named =
    let after = count_front names test count (marked_at mark place s) (map (marked_at mark place) ss) in
    let before = count_front names test count s ss in
    let more = count_front names (on test name) (λ (x : Stretch). x.unsynced) s ss in
    let one = one_at names test count mark place s ∙ gain_at (test (name_at names s.volume)) (place == s.volume) (count (with_mark mark s)) (count s) s.unsynced (gain s)
    ∙ ap (λ b. cond (test (name_at names s.volume)) (count s) 0 + cond (test (name_at names s.volume) && b) s.unsynced 0) (same_place names name place s is (All-head (HasName names) s ss named)) in
    let rest = count_gained names test count mark name place is gain ss (All-tail (HasName names) s ss named) in
    omega (arith, after, before, more, one, rest)

keep_at : (t on : Bool) (new was : ℕ) → new ≡ was → cond t (cond on new was) 0 ≡ cond t was 0
keep_at true true new was e = e
keep_at true false new was e = refl
keep_at false on new was e = refl

pub count_kept : (names : List (List ℕ)) (test : Test) (count : Stretch → ℕ) (mark : Mark) (place : ℕ) → ((s : Stretch) → count (with_mark mark s) ≡ count s)
    → (ss : List Stretch) → count_on names test count (map (marked_at mark place) ss) ≡ count_on names test count ss
count_kept names test count mark place keep [] = refl
count_kept names test count mark place keep (s ∷ ss) =
    let after = count_front names test count (marked_at mark place s) (map (marked_at mark place) ss) in
    let before = count_front names test count s ss in
    let one = one_at names test count mark place s ∙ keep_at (test (name_at names s.volume)) (place == s.volume) (count (with_mark mark s)) (count s) (keep s) in
    let rest = count_kept names test count mark place keep ss in
    omega (arith, after, before, one, rest)

-- Nothing to mark.

-- if no entry of the session awaits a sync of the volume, none is unsynced there
pub none_unsynced : (key : SessionKey) (volume : List ℕ) (es : List Entry) → fails_with key volume es ≡ false → marks_on key (on (λ _. true) volume) is_unsynced es ≡ 0
none_unsynced key volume [] none = refl
none_unsynced key volume (e ∷ es) none =
    let front = marks_front key (on (λ _. true) volume) is_unsynced e es in
    let parts = either (is_key key e.placement.key && (is_unsynced e.mark && bytes_eq e.placement.volume volume)) (fails_with key volume es) none in
    let one = turned (is_key key e.placement.key) (is_unsynced e.mark) (bytes_eq e.placement.volume volume) parts.0 in
    let rest = none_unsynced key volume es parts.1 in
    omega (arith, front, one, rest)
  where
    either : (a b : Bool) → (a || b) ≡ false → (a ≡ false) × (b ≡ false)
    either true b e = absurd cc
    either false b e = (refl, e)

    turned : (own u on' : Bool) → (own && (u && on')) ≡ false → one_if (own && (on' && u)) ≡ 0
    turned true true true e = absurd cc
    turned true true false e = refl
    turned true false true e = refl
    turned true false false e = refl
    turned false u on' e = refl
