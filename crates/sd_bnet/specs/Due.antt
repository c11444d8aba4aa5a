-- What a feeder waits for, in the code and as its state.
use Rattle.std.specs.Prelude.{pos, ◌<◌, ◌≤◌, ◌++◌, length}
use Rattle.sd_base.specs.Field.{i32_bytes}
use Rattle.sd_base.specs.Limits.{most_data}
use Rattle.sd_bnet.specs.Feeder.{FeederState}
use Rattle.sd_bnet.specs.Feeder.FeederState.{Waiting, Failed}
use Rattle.sd_bnet.specs.declared.due.Due.{Due}
use Rattle.sd_bnet.specs.declared.due.Due.TheVariants.{Length, Payload, TooLong}

-- the bytes of the packet that is due, as far as they have come
abbrev pub state_of : Due → FeederState
state_of (Length begun) = Waiting begun
state_of (Payload pending) = Waiting (i32_bytes (pos pending.size) ++ pending.bytes.items)
state_of TooLong = Failed

-- what is due isn't whole, and within the limit
abbrev pub IsStillDue : Due → Type 0
IsStillDue (Length begun) = length begun < 4
IsStillDue (Payload pending) = (length pending.bytes.items < pending.size) × (pending.size ≤ most_data)
IsStillDue TooLong = Unit {0}
