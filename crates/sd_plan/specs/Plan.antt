-- A plan of failing calls: which call fails, and how.
use Rattle.std.specs.Prelude.{◌≡◌, ◌↔◌, ◌⊎◌, ◌+◌, ◌-◌, ◌^◌, ℕ, ◌/◌, ◌==◌, ◌&&◌, Bool, true, false, if◌then◌else◌, nat_lt, min, List, length, take, Option, Some, None, IsSome, option_map, find, slice_index, slice_set}
use Rattle.sd_base.specs.Count.{IsSpent}
use Rattle.sd_plan.specs.Kinds.{Kinds}
use Rattle.sd_plan.specs.declared.fail.When.{When}
use Rattle.sd_plan.specs.declared.fail.When.TheVariants.{Before, Half, After}
use Rattle.sd_plan.specs.declared.fail.Fail.{Fail}
use Rattle.sd_plan.specs.declared.plan.Plan.{Plan}

-- the entries that a plan was made with
abbrev pub entries_of : {K : Type 0} → Plan K → List (Fail K)
entries_of plan = plan.fails.items

-- how many calls have failed
abbrev pub failures_of : {K : Type 0} → Plan K → ℕ
failures_of plan = plan.failures

-- an entry is for the call of that kind and number
abbrev pub is_for : {K : Type 0} → Kinds K → K → ℕ → Fail K → Bool
is_for kinds call nth fail = (kinds.place fail.call == kinds.place call) && (fail.nth == nth)

-- how the call of that kind and number is to fail: as the first entry for it says
abbrev pub planned : {K : Type 0} → Kinds K → K → ℕ → List (Fail K) → Option When
planned kinds call nth fails = option_map (λ fail. fail.when) (find (is_for kinds call nth) fails)

-- how many calls of a kind were counted
abbrev pub counted : {K : Type 0} → Kinds K → K → Plan K → ℕ
counted kinds call plan = slice_index plan.calls (kinds.place call)

-- no call of any kind was counted yet
abbrev pub NoneCounted : {K : Type 0} → Kinds K → Plan K → Type 0
NoneCounted kinds plan = (call : _) → counted kinds call plan ≡ 0

-- how the next call of a kind is to fail; none past the greatest number of 64 bits is
abbrev pub due_of : {K : Type 0} → Kinds K → K → Plan K → Option When
due_of kinds call plan =
    if nat_lt (counted kinds call plan + 1) (2 ^ 64)
    then planned kinds call (counted kinds call plan + 1) (entries_of plan)
    else None

-- one call of a kind more is counted, and all entries stay; a count stays at the greatest value of 64 bits
pub record Strikes {K : Type 0} (kinds : Kinds K) (call : K) (old new : Plan K) : Type 0 where
  pub entries : entries_of new ≡ entries_of old
  pub calls : new.calls
      ≡ slice_set old.calls (kinds.place call) (min (counted kinds call old + 1) (2 ^ 64 - 1))

-- no call more is counted, and all entries stay
pub record KeepsCounts {K : Type 0} (old new : Plan K) : Type 0 where
  pub entries : entries_of new ≡ entries_of old
  pub calls : new.calls ≡ old.calls

-- a call that is to fail so does some of its work: half of it is nothing but for an append
abbrev pub works : {K : Type 0} → Kinds K → K → Option When → Bool
works kinds call None = true
works kinds call (Some Before) = false
works kinds call (Some Half) = kinds.appends call
works kinds call (Some After) = true

-- the bytes of an append that are done, if it fails so: half of them, rounded down, or all
abbrev pub part_of : Option When → List ℕ → List ℕ
part_of None bytes = bytes
part_of (Some Before) bytes = bytes
part_of (Some Half) bytes = take (length bytes / 2) bytes
part_of (Some After) bytes = bytes

-- a call of that kind fails at once: the plan has it fail before its work, or no failure can be counted
-- any more
abbrev pub FailsAtOnce : {K : Type 0} → Kinds K → K → Plan K → Type 0
FailsAtOnce kinds call plan = IsSpent (failures_of plan) ⊎ (works kinds call (due_of kinds call plan) ≡ false)

-- A call counts once in the plan. It fails exactly if it fails at once, if it has a cause of its own to fail,
-- or if an entry is due for it and it isn't refused for another cause.
pub record Follows
    {K : Type 0} (kinds : Kinds K) (call : K) (fails own_cause refused : Type 0) (old new : Plan K)
    : Type 0 where
  pub strikes : Strikes kinds call old new
  pub failed : fails
      ↔ FailsAtOnce kinds call old
      ⊎ own_cause
      ⊎ (IsSome (due_of kinds call old) × ¬ refused)
