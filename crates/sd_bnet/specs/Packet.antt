-- A packet of the daemon protocol, and its bytes on the stream.
use Rattle.std.specs.Prelude.{ℕ, pos, ◌≤◌, ◌<ℤ◌, List, ◌++◌, length, FitsSigned}
use Rattle.std.specs.Int.{w32}
use Rattle.sd_base.specs.Field.{i32_bytes}
use Rattle.sd_base.specs.Limits.{most_data}
use Rattle.sd_bnet.specs.declared.packet.Packet.{Packet}
use Rattle.sd_bnet.specs.declared.packet.Packet.TheVariants.{Bytes, Signal}

-- a length and that many bytes, or a signal's number in the place of a length
abbrev pub packet_bytes : Packet → List ℕ
packet_bytes (Bytes payload) = i32_bytes (pos (length payload)) ++ payload
packet_bytes (Signal number) = i32_bytes number

-- a payload is no longer than the greatest, and a signal's number is negative and fits a length
abbrev pub IsPacket : Packet → Type 0
IsPacket (Bytes payload) = length payload ≤ most_data
IsPacket (Signal number) = FitsSigned w32 number × (number <ℤ pos 0)
