-- What a feeder knows of its stream.
use Rattle.std.specs.Prelude.{ℕ, List}
use Rattle.sd_bnet.specs.Stream.{IsFront, IsUnfinished, IsTooLong, Packets}
use Rattle.sd_bnet.specs.declared.packet.Packet.{Packet}

-- the bytes that have come of the packet that is due, or that a length above the limit was in its
-- place
pub data FeederState : Type 0 where
  Waiting : List ℕ → FeederState
  Failed : FeederState

-- A feeder in this state has been fed these bytes and has handed out these packets.
abbrev pub Fits : FeederState → List ℕ → List Packet → Type 0
Fits (Waiting begun) bytes packets = Packets bytes packets begun × IsUnfinished begun
Fits Failed bytes packets = (remainder : List ℕ) × Packets bytes packets remainder × IsTooLong remainder

-- a packet has begun and isn't whole
abbrev pub IsMidway : FeederState → Type 0
IsMidway (Waiting begun) = IsFront begun
IsMidway Failed = ⊥
