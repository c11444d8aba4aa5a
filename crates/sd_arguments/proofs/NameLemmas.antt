-- Words that are to be names.
use Rattle.std.proofs.Common.{◌≡◌, zero, suc, ap, subst, ◌∙◌, arith, List, [], ◌∷◌, ◌++◌, All, map}
use Rattle.std.specs.Borrow.{Bor}
use Rattle.std.proofs.lemmas.List.{map-append}
use Rattle.clap.specs.Walk.{Text}
use Rattle.sd_base.specs.Name.{IsName}
use Rattle.sd_arguments.specs.Daemon.{IsBadName}
use Rattle.sd_arguments.specs.declared.misuse.Misuse.{Misuse}
use Rattle.sd_arguments.specs.declared.misuse.Misuse.TheVariants as misuse

front_all : {X : Type 0} (P : X → Type 0) (xs : List X) (x : X) → All P (xs ++ x ∷ []) → All P xs
front_all P [] x h k d lt = absurd (omega (arith, lt))
front_all P (y ∷ ys) x h zero d lt = h zero d (omega arith)
front_all P (y ∷ ys) x h (suc k) d lt = front_all P ys x (λ j e l. h (suc j) e (omega (arith, l))) k d (omega (arith, lt))

last_all : {X : Type 0} (P : X → Type 0) (xs : List X) (x : X) → All P (xs ++ x ∷ []) → P x
last_all P [] x h = h 0 x (omega arith)
last_all P (y ∷ ys) x h = last_all P ys x (λ j e l. h (suc j) e (omega (arith, l)))

texts_are : (words front : List (Bor Text)) (last : Bor Text) → words ≡ front ++ last ∷ []
    → map (λ w. w.now) words ≡ map (λ w. w.now) front ++ last.now ∷ []
texts_are words front last are = ap (map (λ w. w.now)) are ∙ map-append (λ w. w.now) front (last ∷ [])

bad_in : (m : Misuse) (all front : List Text) (last : Text) → all ≡ front ++ last ∷ [] → IsBadName m front → IsBadName m all
bad_in (misuse.BadName word) all front last are bad =
    λ names. bad (front_all IsName front last (subst (All IsName) are names))
bad_in misuse.WithoutAdopt all front last are bad = absurd bad
bad_in misuse.Memory all front last are bad = tt

-- what is wrong with the first words is wrong with all
pub bad_front : (m : Misuse) (words front : List (Bor Text)) (last : Bor Text) → words ≡ front ++ last ∷ [] → IsBadName m (map (λ w. w.now) front)
    → IsBadName m (map (λ w. w.now) words)
bad_front m words front last are bad =
    bad_in m (map (λ w. w.now) words) (map (λ w. w.now) front) last.now (texts_are words front last are) bad

-- if all are names the last one is
pub last_name : (words front : List (Bor Text)) (last : Bor Text) → words ≡ front ++ last ∷ [] → All IsName (map (λ w. w.now) words) → IsName last.now
last_name words front last are names =
    last_all IsName (map (λ w. w.now) front) last.now (subst (All IsName) (texts_are words front last are) names)
