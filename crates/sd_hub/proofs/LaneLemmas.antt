-- The sessions of the lanes of a line, lane after lane.
use Rattle.std.proofs.Common.{◌≡◌, ℕ, zero, suc, ◌+◌, ◌<◌, ◌≤◌, cond, refl, ap, subst, ◌∙◌, inl, inr, arith, Some, List, [], ◌∷◌, ◌++◌, slice_get}
use Rattle.std.proofs.lemmas.Bool.{cases_lt}
use Rattle.std.proofs.lemmas.List.Sums.{sum_by-append}
use Rattle.sd_base.specs.Choice.{NoneOf}
use Rattle.sd_base.specs.Key.{is_key}
use Rattle.sd_base.specs.declared.number.SessionKey.{SessionKey}
use Rattle.sd_drive.proofs.Places.{get_front}
use Rattle.sd_journal.specs.Journal.{Entry}
use Rattle.sd_line.specs.Ends.{EndIs, ToldSession}
use Rattle.sd_hub.specs.Settles.{AreDistinct, HasUnsettled, sessions_at, sessions_to, times_of}

-- what comes after other elements
get_behind : {A : Type 0} (xs ys : List A) (at : ℕ) (x : A) → slice_get ys at ≡ Some x → (place : ℕ) × (slice_get (xs ++ ys) place ≡ Some x)
get_behind [] ys at x there = (at, there)
get_behind (y ∷ xs) ys at x there = let behind = get_behind xs ys at x there in (suc behind.0, behind.1)

none_of_both : {A : Type 0} (P : A → Type 0) (xs ys : List A) → NoneOf P xs → NoneOf P ys → NoneOf P (xs ++ ys)
none_of_both P [] ys front back place x there is = back place x there is
none_of_both P (y ∷ xs) ys front back zero x there is = front zero x there is
none_of_both P (y ∷ xs) ys front back (suc place) x there is = none_of_both P xs ys (λ k z stands. front (suc k) z stands) back place x there is

-- no session of the lanes from 1 to this one is such
abbrev pub NoneTo : (ToldSession → Type 0) → ℕ → ℕ → List EndIs → Type 0
NoneTo P own most ends = (lane : ℕ) → 1 ≤ lane → lane ≤ most → NoneOf P (sessions_at own lane ends)

pub none_to : (P : ToldSession → Type 0) (own most : ℕ) (ends : List EndIs) → NoneTo P own most ends → NoneOf P (sessions_to own most ends)
none_to P own zero ends none = λ at s there is. cc there
none_to P own (suc most) ends none =
    none_of_both P (sessions_to own most ends) (sessions_at own (suc most) ends) (none_to P own most ends (λ lane least below. none lane least (omega arith)))
    (none (suc most) (omega arith) (omega arith))

pub none_to_more : (P : ToldSession → Type 0) (own most : ℕ) (ends : List EndIs) → NoneTo P own most ends → NoneOf P (sessions_at own (most + 1) ends) → NoneTo P own (most + 1) ends
none_to_more P own most ends none here lane least below = elim (cases_lt lane (most + 1)) [
  | inl less ↦ none lane least (omega arith)
  | inr same ↦ (let e : most + 1 ≡ lane = omega arith in subst (λ (l : ℕ). NoneOf P (sessions_at own l ends)) e here)
]

-- a session of one of these lanes is among all of theirs
session_to : (own most lane : ℕ) (ends : List EndIs) (at : ℕ) (s : ToldSession) → 1 ≤ lane → lane ≤ most → slice_get (sessions_at own lane ends) at ≡ Some s
    → (place : ℕ) × (slice_get (sessions_to own most ends) place ≡ Some s)
session_to own zero lane ends at s least below there = absurd (omega arith)
session_to own (suc most) lane ends at s least below there = elim (cases_lt lane (suc most)) [
  | inl less ↦ (let front = session_to own most lane ends at s least (omega arith) there in (front.0, get_front (sessions_to own most ends) (sessions_at own (suc most) ends) front.0 s front.1))
  | inr same ↦ (let e : lane ≡ suc most = omega arith in
      get_behind (sessions_to own most ends) (sessions_at own (suc most) ends) at s (subst (λ (l : ℕ). slice_get (sessions_at own l ends) at ≡ Some s) e there))
]

pub unsettled_to : (journal : List Entry) (own most at : ℕ) (ends : List EndIs) (key : SessionKey) → at < most → HasUnsettled journal (sessions_at own (at + 1) ends) key
    → HasUnsettled journal (sessions_to own most ends) key
unsettled_to journal own most at ends key below (place, s, there, same, unsettled) =
    let among = session_to own most (at + 1) ends place s (omega arith) (omega arith) there in (among.0, s, among.1, same, unsettled)

-- Keys.

pub to_more : (own most : ℕ) (ends : List EndIs) → sessions_to own (most + 1) ends ≡ sessions_to own most ends ++ sessions_at own (most + 1) ends
to_more own most ends =
    let e : suc most ≡ most + 1 = omega arith in
    subst (λ (n : ℕ). sessions_to own n ends ≡ sessions_to own most ends ++ sessions_at own n ends) e refl

pub times_more : (key : SessionKey) (own most : ℕ) (ends : List EndIs) → times_of key (sessions_to own (most + 1) ends) ≡ times_of key (sessions_to own most ends) + times_of key (sessions_at own (most + 1) ends)
times_more key own most ends =
    ap (times_of key) (to_more own most ends)
    ∙ sum_by-append (λ (s : ToldSession). cond (is_key s.session.key key) 1 0) (sessions_to own most ends) (sessions_at own (most + 1) ends)

-- at most once is not more often than once
at_most_once : (n : ℕ) → (1 < n → ⊥) → n ≤ 1
at_most_once n not = elim (cases_lt 1 n) [ inl more ↦ absurd (not more) | inr once ↦ once ]

pub distinct : (all : List ToldSession) → NoneOf (λ (s : ToldSession). 1 < times_of s.session.key all) all → AreDistinct all
distinct all none at s there = at_most_once (times_of s.session.key all) (none at s there)
