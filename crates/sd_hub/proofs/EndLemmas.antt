-- Which end of a lane is found among the ends of a line.
use Rattle.std.proofs.Common.{◌≡◌, ◌≢◌, ℕ, zero, suc, ◌+◌, ◌<◌, ◌≤◌, Bool, true, false, if◌then◌else◌, refl, sym, ap, ◌∙◌, arith, Option, Some, None, List, [], ◌∷◌, ◌==◌, slice_get}
use Rattle.std.specs.Prelude.{◌&&◌, IfNone, IfSome, IsSome, IsTrue, is_some}
use Rattle.std.specs.List.{remove}
use Rattle.std.proofs.lemmas.Bool.{and_parts, and_right, eqb-true, false_from_ne_true, ne_eqb}
use Rattle.sd_base.specs.Choice.{NoneOf}
use Rattle.sd_base.proofs.ChoiceLemmas.{NoneBelow}
use Rattle.sd_line.specs.Ends.{EndIs}
use Rattle.sd_hub.specs.Settles.{IsMissing, StandsAt, end_at, is_end}

-- the end is of this drive and of this lane
abbrev pub IsOf : ℕ → ℕ → EndIs → Type 0
IsOf own lane e = is_end own lane e ≡ true

-- the first of these, by what the one in front is
abbrev first_by : Bool → EndIs → Option EndIs → Option EndIs
first_by b e rest = if b then Some e else rest

first_found : (own lane : ℕ) (es : List EndIs) (at : ℕ) (e : EndIs) → NoneBelow (IsOf own lane) es at → slice_get es at ≡ Some e → IsOf own lane e → end_at own lane es ≡ Some e
first_found own lane [] at e none there is = absurd (cc there)
first_found own lane (x ∷ es) zero e none there is =
    let same : x ≡ e = cc there in
    ap (λ (b : Bool). first_by b x (end_at own lane es)) (ap (is_end own lane) same ∙ is) ∙ ap Some same
first_found own lane (x ∷ es) (suc at) e none there is =
    let apart : is_end own lane x ≡ false = false_from_ne_true (is_end own lane x) (none zero x (omega arith) refl) in
    ap (λ (b : Bool). first_by b x (end_at own lane es)) apart
    ∙ first_found own lane es at e (λ k y below stands. none (suc k) y (omega arith) stands) there is

pub stands : (own lane : ℕ) (es : List EndIs) (at : ℕ) (e : EndIs) → NoneBelow (IsOf own lane) es at → slice_get es at ≡ Some e → IsOf own lane e → StandsAt own lane es at
stands own lane es at e none there is = record { end = e; there = there; is = is; first = first_found own lane es at e none there is }

pub none_found : (own lane : ℕ) (es : List EndIs) → NoneOf (IsOf own lane) es → end_at own lane es ≡ None
none_found own lane [] none = refl
none_found own lane (x ∷ es) none =
    let apart : is_end own lane x ≡ false = false_from_ne_true (is_end own lane x) (none zero x refl) in
    ap (λ (b : Bool). first_by b x (end_at own lane es)) apart ∙ none_found own lane es (λ k y stands. none (suc k) y stands)

-- Whether one is found.

pub found_or_none : (own lane : ℕ) (es : List EndIs) (place : Option ℕ) → IfSome place (λ at. StandsAt own lane es at) → IfNone place (end_at own lane es ≡ None)
    → is_some place ≡ is_some (end_at own lane es)
found_or_none own lane es (Some at) found absent = sym (ap is_some found.first)
found_or_none own lane es None found absent = sym (ap is_some absent)

none_from : {A : Type 0} (o : Option A) → is_some o ≡ false → o ≡ None
none_from (Some x) e = absurd (cc e)
none_from None e = refl

pub is_missing : (own lanes : ℕ) (es : List EndIs) (at : ℕ) → at < lanes → ((other : ℕ) → 1 ≤ other → other ≤ at → IsSome (end_at own other es))
    → is_some (end_at own (at + 1) es) ≡ false → IsMissing own lanes es (at + 1)
is_missing own lanes es at below there none = record {
  least = omega arith;
  most = omega arith;
  missing = none_from (end_at own (at + 1) es) none;
  before = λ other least less. there other least (omega arith);
}

-- Of which lane an end is.

-- an end that is found is of the drive and of the lane
found_by : (own lane : ℕ) (x e : EndIs) (rest : Option EndIs) (b : Bool) → is_end own lane x ≡ b → (rest ≡ Some e → IsOf own lane e) → first_by b x rest ≡ Some e → IsOf own lane e
found_by own lane x e rest true is more found = let same : x ≡ e = cc found in ap (is_end own lane) (sym same) ∙ is
found_by own lane x e rest false is more found = more found

pub found_is : (own lane : ℕ) (es : List EndIs) (e : EndIs) → end_at own lane es ≡ Some e → IsOf own lane e
found_is own lane [] e found = absurd (cc found)
found_is own lane (x ∷ es) e found = found_by own lane x e (end_at own lane es) (is_end own lane x) refl (found_is own lane es e) found

both_are : (own lane : ℕ) (e : EndIs) → IsOf own lane e → (((e.seat.no == own) && (e.seat.seat.lane == lane)) ≡ true) × (e.whole ≡ true)
both_are own lane e is = and_parts ((e.seat.no == own) && (e.seat.seat.lane == lane)) e.whole is

pub no_is : (own lane : ℕ) (e : EndIs) → IsOf own lane e → e.seat.no ≡ own
no_is own lane e is = eqb-true e.seat.no own (and_parts (e.seat.no == own) (e.seat.seat.lane == lane) (both_are own lane e is).0).0

pub lane_is : (own lane : ℕ) (e : EndIs) → IsOf own lane e → e.seat.seat.lane ≡ lane
lane_is own lane e is = eqb-true e.seat.seat.lane lane (and_parts (e.seat.no == own) (e.seat.seat.lane == lane) (both_are own lane e is).0).1

pub whole_is : (own lane : ℕ) (e : EndIs) → IsOf own lane e → IsTrue e.whole
whole_is own lane e is = (both_are own lane e is).1

not_other : (own lane other : ℕ) (e : EndIs) → IsOf own lane e → other ≢ lane → is_end own other e ≡ false
not_other own lane other e is apart =
    ap (λ (b : Bool). b && e.whole) (and_right (e.seat.no == own) (e.seat.seat.lane == other) (ne_eqb e.seat.seat.lane other (λ same. apart (sym same ∙ lane_is own lane e is))))

-- One end less.

removed : (own lane other : ℕ) (es : List EndIs) (at : ℕ) (e : EndIs) → slice_get es at ≡ Some e → IsOf own lane e → other ≢ lane → end_at own other (remove es at) ≡ end_at own other es
removed own lane other [] at e there is apart = absurd (cc there)
removed own lane other (x ∷ es) zero e there is apart =
    let same : x ≡ e = cc there in
    sym (ap (λ (b : Bool). first_by b x (end_at own other es)) (not_other own lane other x (ap (is_end own lane) same ∙ is) apart))
removed own lane other (x ∷ es) (suc at) e there is apart =
    ap (λ (rest : Option EndIs). first_by (is_end own other x) x rest) (removed own lane other es at e there is apart)

pub others_stay : (own lane : ℕ) (es : List EndIs) (at : ℕ) → StandsAt own lane es at → (other : ℕ) → other ≢ lane → end_at own other (remove es at) ≡ end_at own other es
others_stay own lane es at s other apart = removed own lane other es at s.end s.there s.is apart
