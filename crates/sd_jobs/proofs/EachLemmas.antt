-- Lists of jobs, of what they came to, and of their lines.
use Rattle.std.proofs.Common.{◌≡◌, ℕ, zero, suc, ◌<◌, refl, sym, ap, ◌∙◌, arith, Some, List, [], ◌∷◌, ◌++◌, length, map, slice_get}
use Rattle.sd_jobs.specs.Jobs.{JobIs, JobEndIs, HasLine, FitPlaces, EndsJob, EndEach}
use Rattle.sd_line.specs.Side.{LineIs}

-- there are as many
pub each_length : (js : List JobIs) (es : List JobEndIs) → EndEach js es → length es ≡ length js
each_length [] [] h = refl
each_length [] (e ∷ es) h = absurd h
each_length (j ∷ js) [] h = absurd h
each_length (j ∷ js) (e ∷ es) h = let rest = each_length js es h.1 in omega (arith, rest)

-- one more
pub each_more : (js : List JobIs) (es : List JobEndIs) (j : JobIs) (e : JobEndIs) → EndEach js es → EndsJob j e → EndEach (js ++ j ∷ []) (es ++ e ∷ [])
each_more [] [] j e h one = (one, tt)
each_more [] (x ∷ es) j e h one = absurd h
each_more (x ∷ js) [] j e h one = absurd h
each_more (x ∷ js) (y ∷ es) j e h one = (h.0, each_more js es j e h.1 one)

-- the first after these
get_next : {X : Type 0} (xs ys : List X) (y : X) → slice_get (xs ++ y ∷ ys) (length xs) ≡ Some y
get_next [] ys y = refl
get_next (x ∷ xs) ys y = get_next xs ys y

-- so it is there, if these and those left are all
pub next_is : {X : Type 0} (all front left rest : List X) (x : X) → all ≡ front ++ left → left ≡ x ∷ rest → slice_get all (length front) ≡ Some x
next_is all front left rest x is next = ap (λ l. slice_get l (length front)) (is ∙ ap (λ l. front ++ l) next) ∙ get_next front rest x

-- what is there is below the length
pub get_below : {X : Type 0} (xs : List X) (k : ℕ) (x : X) → slice_get xs k ≡ Some x → k < length xs
get_below [] k x is = absurd (cc is)
get_below (y ∷ xs) zero x is = omega arith
get_below (y ∷ xs) (suc k) x is = let rest = get_below xs k x is in omega (arith, rest)

get_map : {X Y : Type 0} (f : X → Y) (xs : List X) (k : ℕ) (x : X) → slice_get xs k ≡ Some x → slice_get (map f xs) k ≡ Some (f x)
get_map f [] k x is = absurd (cc is)
get_map f (y ∷ xs) zero x is = let same : y ≡ x = cc is in ap (λ z. Some (f z)) same
get_map f (y ∷ xs) (suc k) x is = get_map f xs k x is

-- jobs that have lines fit the places of these
pub lines_fit : (lines : List LineIs) (jobs : List JobIs) → ((k : ℕ) (job : JobIs) → slice_get jobs k ≡ Some job → HasLine lines job)
    → FitPlaces (map (λ (line : LineIs). line.no) lines) jobs
lines_fit lines jobs all k job at = let h = all k job at in get_map (λ (line : LineIs). line.no) lines job.line h.0 h.1 ∙ ap Some (sym h.2)
