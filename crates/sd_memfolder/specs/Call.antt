-- The kinds of call of a folder.
use Rattle.std.specs.Prelude.{ℕ, Bool, true, false}
use Rattle.sd_plan.specs.Kinds.{Kinds}
use Rattle.sd_memfolder.specs.declared.call.Call.{Call}
use Rattle.sd_memfolder.specs.declared.call.Call.TheVariants.{Create, Open, Look, Read, Append, Sync, Cut}

-- the place of the count of a kind
abbrev pub index_of : Call → ℕ
index_of Create = 0
index_of Open = 1
index_of Look = 2
index_of Read = 3
index_of Append = 4
index_of Sync = 5
index_of Cut = 6

-- only an append appends bytes
abbrev pub appends : Call → Bool
appends Create = false
appends Open = false
appends Look = false
appends Read = false
appends Append = true
appends Sync = false
appends Cut = false

-- what a plan has to know of them
abbrev pub folder_calls : Kinds Call
folder_calls = record { place = index_of; appends = appends }
