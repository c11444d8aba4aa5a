-- Names for lines, by the tables of their queues and those of their ledgers.
use Rattle.std.proofs.Common.{◌≡◌, ◌≤◌, ℕ, zero, suc, ◌+◌, ◌-◌, refl, arith}
use Rattle.atomic_table.specs.Seated.{TableId}
use Rattle.sd_base.specs.Limits.{most_drives}
use Rattle.sd_line.specs.Named.{AreNamedFor, TablesIs}
use Rattle.sd_line.specs.Side.{book_of}

-- the first if the number is zero, and else the second
by_zero : TableId → TableId → ℕ → TableId
by_zero a b zero = a
by_zero a b (suc k) = b

-- the queue of a drive's number, and above these numbers the ledgers
pub by_number : (ℕ → TableId) → (ℕ → TableId) → ℕ → TableId
by_number queues books n = by_zero (queues n) (books (n - most_drives)) (n - most_drives)

pub queue_named : (queues books : ℕ → TableId) (own : ℕ) → own ≤ most_drives → queues own ≡ by_number queues books own
unfolding by_number by_zero
queue_named queues books own most =
    let low : own - most_drives ≡ 0 = omega (arith, most) in
    rw low refl

pub book_named : (queues books : ℕ → TableId) (k : ℕ) → books (suc k) ≡ by_number queues books (book_of (suc k))
unfolding by_number by_zero
book_named queues books k =
    let here : book_of (suc k) - most_drives ≡ suc k = omega arith in
    rw here refl

-- the tables of one line, for its number or any other

pub of_one : TablesIs → ℕ → TableId
of_one made = by_number (λ n. made.queue) (λ n. made.book)

pub one_named : (made : TablesIs) → AreNamedFor (of_one made) 1 made
unfolding of_one
one_named made =
    let queues : ℕ → TableId = λ n. made.queue in
    let books : ℕ → TableId = λ n. made.book in
    record { queue_is = queue_named queues books 1 (omega arith); book_is = book_named queues books 0 }
