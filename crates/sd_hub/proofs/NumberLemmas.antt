-- The numbers of the sessions of a settled world rise.
use Rattle.std.proofs.Common.{◌≡◌, ◌≢◌, ℕ, zero, suc, ◌+◌, ◌<◌, ◌≤◌, refl, sym, ap, ap₂, subst, ◌∙◌, arith, Some, List, [], ◌∷◌, slice_get}
use Rattle.std.specs.List.{AllByRecursion}
use Rattle.std.specs.List.Sorted.{IsNonDecreasingBy}
use Rattle.sd_base.specs.Limits.{most_number}
use Rattle.sd_base.specs.declared.number.SessionKey.{SessionKey}
use Rattle.sd_journal.specs.Journal.{Entry}
use Rattle.sd_line.specs.Ends.{ToldSession}
use Rattle.sd_hub.specs.Settles.{AreDistinct, times_of}
use Rattle.sd_world.specs.Rules.{NumbersRise}
use Rattle.sd_world.specs.World.{WorldSession}
use Rattle.sd_hub.specs.Worlds.{SettlesEach, next_number}
use Rattle.sd_hub.proofs.Entries.{stays_of}
use Rattle.sd_hub.proofs.Lanes.{distinct_behind, times_first, times_least}

-- the number of a session
abbrev pub number : ToldSession → ℕ
number s = s.session.key.id

-- The key is of the run of this time, and its number is one that sessions may have.
pub record IsOfRun (run : ℕ) (key : SessionKey) : Type 0 where
  pub time_is : key.time ≡ run
  pub id_least : 1 ≤ key.id
  pub id_most : key.id ≤ most_number

-- so is each session's
abbrev pub AreOfRun : ℕ → List ToldSession → Type 0
AreOfRun run ss = AllByRecursion (λ (s : ToldSession). IsOfRun run s.session.key) ss

-- the number after these, if the first is this one or greater
abbrev next_from : ℕ → List ToldSession → ℕ
next_from least [] = least
next_from least (s ∷ ss) = next_from (number s + 1) ss

-- if there is a session, it is the number after the last
next_last : (least : ℕ) (s : ToldSession) (ss : List ToldSession) → next_from least (s ∷ ss) ≡ next_number (s ∷ ss)
next_last least s [] = refl
next_last least s (t ∷ ss) = next_last (number s + 1) t ss

-- so the next number is that after all of them
next_is : (ss : List ToldSession) → next_from 1 ss ≡ next_number ss
next_is [] = refl
next_is (s ∷ ss) = next_last 1 s ss

-- the first of the sessions, if there is one, has this number or a greater one
abbrev Begins : ℕ → List ToldSession → Type 0
Begins least [] = Unit {0}
Begins least (s ∷ ss) = least ≤ number s

-- those after the first don't fall either
falls_not_behind : (s : ToldSession) (ss : List ToldSession) → IsNonDecreasingBy number (s ∷ ss) → IsNonDecreasingBy number ss
falls_not_behind s ss rise i j d up below = rise (suc i) (suc j) d (omega (arith, up)) (omega (arith, below))

-- keys of one run with one number are one
key_is : (run : ℕ) (a b : SessionKey) → IsOfRun run a → IsOfRun run b → a.id ≡ b.id → a ≡ b
key_is run a b of of' same = ap₂ (λ (time id : ℕ). key_with time id) (of.time_is ∙ sym of'.time_is) same
  where
    key_with : ℕ → ℕ → SessionKey
    key_with time id = record { time = time; id = id }

-- the second of sessions with distinct keys has a greater number than the first
begins_behind : (run : ℕ) (s : ToldSession) (ss : List ToldSession) → AreOfRun run (s ∷ ss) → AreDistinct (s ∷ ss) → IsNonDecreasingBy number (s ∷ ss) → Begins (number s + 1) ss
begins_behind run s [] of apart rise = tt
begins_behind run s (t ∷ ss) of apart rise =
    let up : number s ≤ number t = rise 0 1 s (omega arith) (omega arith) in
    let differ : number s ≢ number t = λ same. (let key = key_is run s.session.key t.session.key of.0 of.1.0 same in
    let first = times_first s (t ∷ ss) in
    let again = subst (λ (k : SessionKey). 1 ≤ times_of k (t ∷ ss)) (sym key) (times_least (t ∷ ss) 0 t refl) in
    let most = apart 0 s refl in
    absurd (omega (arith, first, again, most))) in
    omega (arith, up, differ)

-- the numbers of such sessions rise in the world, from the least on
rises : (run least : ℕ) (journal : List Entry) (ss : List ToldSession) (es : List WorldSession) → SettlesEach journal ss es → AreOfRun run ss → AreDistinct ss
    → IsNonDecreasingBy number ss → Begins least ss → NumbersRise run least (next_from least ss) es
rises run least journal [] [] each of apart rise from = omega arith
rises run least journal [] (e ∷ es) each of apart rise from = absurd each
rises run least journal (s ∷ ss) [] each of apart rise from = absurd each
rises run least journal (s ∷ ss) (e ∷ es) each of apart rise from =
    let key : e.session.key ≡ s.session.key = (stays_of journal s e each.0).key_is in
    let id : e.session.key.id ≡ number s = ap (λ (k : SessionKey). k.id) key in (
      ap (λ (k : SessionKey). k.time) key ∙ of.0.time_is,
      omega (arith, from, id),
      subst (λ (n : ℕ). NumbersRise run (n + 1) (next_from (number s + 1) ss) es) (sym id)
          (rises run (number s + 1) journal ss es each.1 of.1 (distinct_behind s ss apart) (falls_not_behind s ss rise) (begins_behind run s ss of apart rise)),
    )

-- the first number is 1 or greater
begins : (run : ℕ) (ss : List ToldSession) → AreOfRun run ss → Begins 1 ss
begins run [] of = tt
begins run (s ∷ ss) of = of.0.id_least

-- so they rise up to the next one
pub numbers_rise : (run : ℕ) (journal : List Entry) (ss : List ToldSession) (es : List WorldSession) → SettlesEach journal ss es → AreOfRun run ss → AreDistinct ss
    → IsNonDecreasingBy number ss → NumbersRise run 1 (next_number ss) es
numbers_rise run journal ss es each of apart rise =
    subst (λ (n : ℕ). NumbersRise run 1 n es) (next_is ss) (rises run 1 journal ss es each of apart rise (begins run ss of))

-- The next number.

-- it is one more than a session may have at most
pub next_most : (run : ℕ) (ss : List ToldSession) → AreOfRun run ss → next_number ss ≤ most_number + 1
next_most run [] of = omega arith
next_most run (s ∷ []) of = let most = of.0.id_most in omega (arith, most)
next_most run (s ∷ t ∷ ss) of = next_most run (t ∷ ss) of.1

-- each number is below it
pub number_below : (ss : List ToldSession) (at : ℕ) (s : ToldSession) → IsNonDecreasingBy number ss → slice_get ss at ≡ Some s → number s < next_number ss
number_below [] at s rise there = absurd (cc there)
number_below (x ∷ []) zero s rise there =
    let same : x ≡ s = cc there in
    subst (λ (y : ToldSession). number y < number x + 1) same (omega arith)
number_below (x ∷ []) (suc at) s rise there = absurd (cc there)
number_below (x ∷ t ∷ ss) zero s rise there =
    let same : x ≡ s = cc there in
    let up : number x ≤ number t = rise 0 1 x (omega arith) (omega arith) in
    let rest = number_below (t ∷ ss) 0 t (falls_not_behind x (t ∷ ss) rise) refl in
    subst (λ (y : ToldSession). number y < next_number (t ∷ ss)) same (omega (arith, up, rest))
number_below (x ∷ t ∷ ss) (suc at) s rise there = number_below (t ∷ ss) at s (falls_not_behind x (t ∷ ss) rise) there
