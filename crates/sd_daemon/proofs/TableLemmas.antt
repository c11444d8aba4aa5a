-- The names of the lines of drives, one after the other.
use Rattle.std.proofs.Common.{◌≡◌, ◌≤◌, ℕ, zero, suc, ◌+◌, refl, sym, ap, ◌∙◌, arith, List, [], ◌∷◌, ◌++◌, Some, length, slice_get}
use Rattle.atomic_table.specs.Seated.{TableId}
use Rattle.sd_line.proofs.NumberLemmas.{by_number, book_named, queue_named}
use Rattle.sd_base.specs.Limits.{most_drives}
use Rattle.sd_line.specs.Side.{book_of, no_table}
use Rattle.sd_lines.specs.Unused.{IsNamed, UnusedIs}
use Rattle.sd_daemon.specs.Setup.{AreNamed}

there : {A : Type 0} (xs : List A) (x : A) → slice_get (xs ++ x ∷ []) (length xs) ≡ Some x
there [] x = refl
there (y ∷ ys) x = there ys x

still_there : {A : Type 0} (xs ys : List A) (k : ℕ) (x : A) → slice_get xs k ≡ Some x → slice_get (xs ++ ys) k ≡ Some x
still_there [] ys k x is = absurd (cc is)
still_there (y ∷ xs) ys zero x is = is
still_there (y ∷ xs) ys (suc k) x is = still_there xs ys k x is

-- the first drives are named by what names all,
pub first_named : {D : Type 0} (table : ℕ → TableId) (time : ℕ → ℕ) (all rest : List (UnusedIs D)) (last : UnusedIs D) → all ≡ rest ++ last ∷ [] → AreNamed table time all
    → AreNamed table time rest
first_named table time all rest last are named at u is = named at u (ap (λ l. slice_get l at) are ∙ still_there rest (last ∷ []) at u is)

-- and so is the last one, by the number after theirs
pub last_named : {D : Type 0} (table : ℕ → TableId) (time : ℕ → ℕ) (all rest : List (UnusedIs D)) (last : UnusedIs D) (number : ℕ) → all ≡ rest ++ last ∷ [] → AreNamed table time all
    → number ≡ length rest + 1 → number ≤ most_drives → IsNamed table time number last
last_named table time all rest last number are named number_is most =
    rw number_is (named (length rest) last (ap (λ l. slice_get l (length rest)) are ∙ there rest last) (omega (arith, number_is, most)))

-- what the drive at a place has, and what that of a number has
at_place : {D : Type 0} → (UnusedIs D → TableId) → List (UnusedIs D) → ℕ → TableId
at_place of [] k = no_table
at_place of (u ∷ us) zero = of u
at_place of (u ∷ us) (suc k) = at_place of us k

of_number : {D : Type 0} → (UnusedIs D → TableId) → List (UnusedIs D) → ℕ → TableId
of_number of all zero = no_table
of_number of all (suc k) = at_place of all k

pub named_table : {D : Type 0} → List (UnusedIs D) → ℕ → TableId
named_table all = by_number (of_number (λ u. u.table) all) (of_number (λ u. u.book) all)

at_there : {D : Type 0} (of : UnusedIs D → TableId) (all : List (UnusedIs D)) (k : ℕ) (u : UnusedIs D) → slice_get all k ≡ Some u → of u ≡ at_place of all k
unfolding at_place
at_there of [] k u is = absurd (cc is)
at_there of (v ∷ us) zero u is = let same : v ≡ u = cc is in ap of (sym same)
at_there of (v ∷ us) (suc k) u is = at_there of us k u is

numbered : {D : Type 0} (of : UnusedIs D → TableId) (all : List (UnusedIs D)) (k : ℕ) (u : UnusedIs D) → slice_get all k ≡ Some u → of u ≡ of_number of all (k + 1)
unfolding of_number
numbered of all k u is =
    let next : suc k ≡ k + 1 = omega arith in
    at_there of all k u is ∙ ap (λ n. of_number of all n) next

-- drives of a run are named by their own tables, and by the run's time
pub named_by_own : {D : Type 0} (time : ℕ) (all : List (UnusedIs D)) → ((at : ℕ) (u : UnusedIs D) → slice_get all at ≡ Some u → u.limits.time ≡ time)
    → AreNamed (named_table all) (λ no. time) all
unfolding named_table
named_by_own time all times at u is most =
    let queues = of_number (λ u. u.table) all in
    let books = of_number (λ u. u.book) all in
    let next : at + 1 ≡ suc at = omega arith in
    record {
      queue_is = numbered (λ u. u.table) all at u is ∙ queue_named queues books (at + 1) most;
      book_is = numbered (λ u. u.book) all at u is ∙ ap books next ∙ book_named queues books at ∙ ap (λ n. by_number queues books (book_of n)) (sym next);
      time_is = times at u is;
    }
