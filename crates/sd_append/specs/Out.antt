-- What a talk puts out: what is in the writer, and what waits to be written.
use Rattle.std.specs.Prelude.{◌≡◌, ℕ, Bool, true, false, List, ◌++◌, Option, Some, None, is_some, ⊤}
use Rattle.sd_append.specs.declared.outbox.Outbox.{Outbox}

-- the bytes that the writer holds, if they are known; those that wait; and whether writing has failed
pub record OutView : Type 0 where
  pub written : Option (List ℕ)
  pub waiting : List ℕ
  pub failed : Bool

-- what an outbox's writer holds, what waits and whether writing has failed, by what is known of the writer
abbrev pub out_view : {W : Type 0} → (W → Option (List ℕ)) → Outbox W → OutView
out_view contents o = record { written = contents o.writer; waiting = o.waiting.items; failed = is_some o.fault }

-- `PutsOut`, by what is known of the writer before and after, and by whether writing had failed and has failed
abbrev pub PutsBy : Option (List ℕ) → Option (List ℕ) → Bool → Bool → List ℕ → List ℕ → List ℕ → Type 0
PutsBy None new failed fails waiting waits bytes = ⊤
PutsBy (Some xs) None failed fails waiting waits bytes = ⊥
PutsBy (Some xs) (Some ys) false false waiting waits bytes =
    (sent : List ℕ) × (ys ≡ xs ++ sent) × (sent ++ waits ≡ waiting ++ bytes)
PutsBy (Some xs) (Some ys) false true waiting waits bytes =
    (sent : List ℕ) × (rest : List ℕ) × (ys ≡ xs ++ sent) × (waiting ++ bytes ≡ sent ++ rest)
PutsBy (Some xs) (Some ys) true false waiting waits bytes = ⊥
PutsBy (Some xs) (Some ys) true true waiting waits bytes = ys ≡ xs

-- These bytes were put after what waited: what was written since, and then what waits now, is what waited and then
-- the bytes. If writing fails, a front of that was written, and from then on nothing is.
abbrev pub PutsOut : OutView → OutView → List ℕ → Type 0
PutsOut old new bytes = PutsBy old.written new.written old.failed new.failed old.waiting new.waiting bytes
