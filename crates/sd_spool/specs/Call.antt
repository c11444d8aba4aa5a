-- The kinds of call of a spool's store.
use Rattle.std.specs.Prelude.{ℕ, Bool, true, false}
use Rattle.sd_plan.specs.Kinds.{Kinds}
use Rattle.sd_spool.specs.declared.call.SpoolCall.{SpoolCall}
use Rattle.sd_spool.specs.declared.call.SpoolCall.TheVariants.{Append, Read, Clear}

-- the place of the count of a kind
abbrev pub index_of : SpoolCall → ℕ
index_of Append = 0
index_of Read = 1
index_of Clear = 2

-- only an append appends bytes
abbrev pub appends : SpoolCall → Bool
appends Append = true
appends Read = false
appends Clear = false

-- what a plan has to know of them
abbrev pub spool_calls : Kinds SpoolCall
spool_calls = record { place = index_of; appends = appends }
