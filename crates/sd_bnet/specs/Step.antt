-- What a length and the bytes after it are.
use Rattle.std.specs.Prelude.{◌≡◌, ℕ, List, [], ◌++◌}
use Rattle.sd_bnet.specs.Due.{state_of, IsStillDue}
use Rattle.sd_bnet.specs.Feeder.{Fits}
use Rattle.sd_bnet.specs.Packet.{packet_bytes, IsPacket}
use Rattle.sd_bnet.specs.declared.stream.Step.{Step}
use Rattle.sd_bnet.specs.declared.stream.Step.TheVariants.{Whole, Part}

-- a whole packet and what follows it, or no whole packet: nothing, the front of one, or a length that
-- is too great
abbrev pub SplitsOff : Step → List ℕ → Type 0
SplitsOff (Whole packet after) bytes = IsPacket packet × (bytes ≡ packet_bytes packet ++ after.now)
SplitsOff (Part due) bytes = IsStillDue due × Fits (state_of due) bytes []
