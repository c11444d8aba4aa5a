-- The kinds of call of a drive.
use Rattle.std.specs.Prelude.{ℕ, Bool, true, false}
use Rattle.sd_plan.specs.Kinds.{Kinds}
use Rattle.sd_plan.specs.declared.call.Call.{Call}
use Rattle.sd_plan.specs.declared.call.Call.TheVariants.{Create, Load, Len, Read, Append, Sync, Cut}

-- the place of the count of a kind
abbrev pub index_of : Call → ℕ
index_of Create = 0
index_of Load = 1
index_of Len = 2
index_of Read = 3
index_of Append = 4
index_of Sync = 5
index_of Cut = 6

-- only an append appends bytes
abbrev pub appends : Call → Bool
appends Create = false
appends Load = false
appends Len = false
appends Read = false
appends Append = true
appends Sync = false
appends Cut = false

-- what a plan has to know of them
abbrev pub drive_calls : Kinds Call
drive_calls = record { place = index_of; appends = appends }
