-- The packets of a stream: the whole ones that begin it, and what remains after them.
use Rattle.std.specs.Prelude.{◌≡◌, ◌≢◌, ℕ, pos, ◌^◌, ◌<◌, ◌≤◌, ◌⊎◌, List, [], ◌++◌, length}
use Rattle.std.specs.List.{flat_map, AllByRecursion}
use Rattle.sd_base.specs.Field.{i32_bytes}
use Rattle.sd_base.specs.Limits.{most_data}
use Rattle.sd_bnet.specs.Packet.{packet_bytes, IsPacket}
use Rattle.sd_bnet.specs.declared.packet.Packet.{Packet}

-- packets one after another
abbrev pub stream_of : List Packet → List ℕ
stream_of packets = flat_map packet_bytes packets

-- the front of a packet: one to three bytes of a length, whichever it will be, or a length within
-- the limit and fewer bytes than it says
abbrev pub IsFront : List ℕ → Type 0
IsFront bytes =
    ((bytes ≢ []) × (length bytes < 4))
    ⊎ ((size : ℕ) × (part : List ℕ) × (size ≤ most_data) × (length part < size)
    × (bytes ≡ i32_bytes (pos size) ++ part))

-- nothing, or the front of a packet
abbrev pub IsUnfinished : List ℕ → Type 0
IsUnfinished bytes = (bytes ≡ []) ⊎ IsFront bytes

-- a length above that of the greatest payload, and whatever follows it
abbrev pub IsTooLong : List ℕ → Type 0
IsTooLong bytes =
    (size : ℕ) × (after : List ℕ) × (most_data < size) × (size < 2 ^ 31)
    × (bytes ≡ i32_bytes (pos size) ++ after)

-- The bytes are these packets, and what comes after them is no whole packet: nothing, the front of
-- one, or a length that is too great.
pub record Packets (bytes : List ℕ) (packets : List Packet) (remainder : List ℕ) : Type 0 where
  pub joined : bytes ≡ stream_of packets ++ remainder
  pub each : AllByRecursion IsPacket packets
  pub rest : IsUnfinished remainder ⊎ IsTooLong remainder
