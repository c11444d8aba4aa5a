-- The last of a list, and what is at a place.
use Rattle.std.proofs.Common.{◌≡◌, ◌≤◌, ℕ, zero, suc, ◌+◌, refl, sym, ap, subst, ◌∙◌, arith, List, [], ◌∷◌, ◌++◌, Some, length, slice_get}
use Rattle.atomic_table.specs.Seated.{TableId}
use Rattle.sd_base.specs.Limits.{most_drives}
use Rattle.sd_line.proofs.NumberLemmas.{book_named, by_number, queue_named}
use Rattle.sd_line.specs.Named.{AreNamedFor, TablesIs}
use Rattle.sd_line.specs.Side.{book_of, no_table}

there : {A : Type 0} (xs rest : List A) (x : A) → slice_get (xs ++ x ∷ rest) (length xs) ≡ Some x
there [] rest x = refl
there (y ∷ ys) rest x = there ys rest x

pub last_there : {A : Type 0} (all rest : List A) (x : A) → all ≡ rest ++ x ∷ [] → slice_get all (length rest) ≡ Some x
last_there all rest x is = subst (λ l. slice_get l (length rest) ≡ Some x) (sym is) (there rest [] x)

-- the first after these is there
pub next_there : {A : Type 0} (all front left rest : List A) (x : A) → all ≡ front ++ left → left ≡ x ∷ rest → slice_get all (length front) ≡ Some x
next_there all front left rest x is next = ap (λ l. slice_get l (length front)) (is ∙ ap (λ l. front ++ l) next) ∙ there front rest x

-- what is at a place in the front is there in all
front_there : {A : Type 0} (front rest : List A) (k : ℕ) (x : A) → slice_get front k ≡ Some x → slice_get (front ++ rest) k ≡ Some x
front_there [] rest k x is = absurd (cc is)
front_there (y ∷ front) rest zero x is = is
front_there (y ∷ front) rest (suc k) x is = front_there front rest k x is

pub still_there : {A : Type 0} (all rest : List A) (x : A) → all ≡ rest ++ x ∷ [] → (k : ℕ) (y : A) → slice_get rest k ≡ Some y → slice_get all k ≡ Some y
still_there all rest x is k y at = ap (λ l. slice_get l k) is ∙ front_there rest (x ∷ []) k y at

-- what the drive at a place has, and what that of a number has
at_place : (TablesIs → TableId) → List TablesIs → ℕ → TableId
at_place of [] k = no_table
at_place of (t ∷ ts) zero = of t
at_place of (t ∷ ts) (suc k) = at_place of ts k

of_number : (TablesIs → TableId) → List TablesIs → ℕ → TableId
of_number of all zero = no_table
of_number of all (suc k) = at_place of all k

pub named : List TablesIs → ℕ → TableId
named all = by_number (of_number (λ t. t.queue) all) (of_number (λ t. t.book) all)

at_there : (of : TablesIs → TableId) (all : List TablesIs) (k : ℕ) (one : TablesIs) → slice_get all k ≡ Some one → of one ≡ at_place of all k
unfolding at_place
at_there of [] k one is = absurd (cc is)
at_there of (t ∷ ts) zero one is = let same : t ≡ one = cc is in ap of (sym same)
at_there of (t ∷ ts) (suc k) one is = at_there of ts k one is

numbered : (of : TablesIs → TableId) (all : List TablesIs) (k : ℕ) (one : TablesIs) → slice_get all k ≡ Some one → of one ≡ of_number of all (k + 1)
unfolding of_number
numbered of all k one is =
    let next : suc k ≡ k + 1 = omega arith in
    at_there of all k one is ∙ ap (λ n. of_number of all n) next

-- the tables are those of the number after their place
pub named_there : (all : List TablesIs) (k : ℕ) (one : TablesIs) → slice_get all k ≡ Some one → k + 1 ≤ most_drives → AreNamedFor (named all) (k + 1) one
unfolding named
named_there all k one is most =
    let queues = of_number (λ t. t.queue) all in
    let books = of_number (λ t. t.book) all in
    let next : k + 1 ≡ suc k = omega arith in
    record {
      queue_is = numbered (λ t. t.queue) all k one is ∙ queue_named queues books (k + 1) most;
      book_is = numbered (λ t. t.book) all k one is ∙ ap books next ∙ book_named queues books k ∙ ap (λ n. by_number queues books (book_of n)) (sym next);
    }
