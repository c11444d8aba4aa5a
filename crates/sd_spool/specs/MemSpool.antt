-- What a spool in memory is, as a store.
use Rattle.std.specs.Prelude.{◌≡◌, ◌<◌, ◌+◌, ◌++◌, ℕ, true, List, [], length, Result, IsErrOf}
use Rattle.sd_plan.specs.Plan.{Follows, due_of, entries_of, failures_of, part_of}
use Rattle.sd_plan.specs.Plan as plans
use Rattle.sd_plan.specs.declared.fail.Fail.{Fail}
use Rattle.sd_spool.specs.Call.{spool_calls}
use Rattle.sd_spool.specs.Meaning.{Meaning}
use Rattle.sd_spool.specs.declared.memory.MemSpool.{MemSpool}
use Rattle.sd_spool.specs.declared.call.SpoolCall.{SpoolCall}
use Rattle.sd_spool.specs.declared.call.SpoolCall.TheVariants.{Append, Clear}
use Rattle.sd_spool.specs.declared.store.SpoolStoreFault.{SpoolStoreFault}
use Rattle.sd_spool.specs.declared.store.SpoolStoreFault.TheVariants.{Device, Memory}

-- the meaning of a spool in memory: it is honest
abbrev pub meaning_of : MemSpool → Meaning
meaning_of spool = record {
  honest = true;
  bytes = spool.bytes.items;
  failures = failures_of spool.plan;
}

-- the meaning of a spool of which no call was made yet
abbrev pub unused : Meaning
unused = record { honest = true; bytes = []; failures = 0 }

-- the plan that a spool was made with
abbrev pub plan_of : MemSpool → List (Fail SpoolCall)
plan_of spool = entries_of spool.plan

-- no call of any kind was counted in its plan yet
abbrev pub NoneCounted : MemSpool → Type 0
NoneCounted spool = plans.NoneCounted spool_calls spool.plan

-- there aren't so many bytes from this place on
abbrev pub IsShort : ℕ → ℕ → MemSpool → Type 0
IsShort at count spool = length spool.bytes.items < at + count

-- a call of that kind fails at once: the plan has it fail before its work, or no failure can be
-- counted any more
abbrev pub FailsAtOnce : SpoolCall → MemSpool → Type 0
FailsAtOnce call spool = plans.FailsAtOnce spool_calls call spool.plan

-- a call counts once in the plan; it answers `Device` exactly if it fails at once, or if it has a cause of
-- its own or an entry is due for it, and it isn't refused because it is out of memory
abbrev pub FollowsPlan
    : {T : Type 0} → SpoolCall → Type 0 → Result T SpoolStoreFault → MemSpool → MemSpool → Type 0
FollowsPlan call own_cause result old new =
    Follows spool_calls call (IsErrOf result Device) own_cause (IsErrOf result Memory) old.plan new.plan

-- What an append leaves whose answer isn't out of memory: nothing more if it fails at once; else as much of its bytes
-- after the others as its entry says, all if none is due.
pub record AppendsPart (bytes : List ℕ) (old new : MemSpool) : Type 0 where
  pub at_once : FailsAtOnce Append old → new.bytes.items ≡ old.bytes.items
  pub part : ¬ FailsAtOnce Append old
      → new.bytes.items ≡ old.bytes.items ++ part_of (due_of spool_calls Append old.plan) bytes

-- what a clear leaves: the same bytes if it fails at once, else nothing
pub record ClearsUnlessAtOnce (old new : MemSpool) : Type 0 where
  pub at_once : FailsAtOnce Clear old → new.bytes.items ≡ old.bytes.items
  pub none : ¬ FailsAtOnce Clear old → new.bytes.items ≡ []
