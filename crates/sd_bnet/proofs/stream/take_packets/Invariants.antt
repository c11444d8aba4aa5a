use Rattle.std.proofs.Common.{◌≡◌, ◌+◌, ◌<◌, [], ◌++◌, length}
use Rattle.std.specs.List.{AllByRecursion}
use Rattle.sd_bnet.specs.Packet.{IsPacket}
use Rattle.sd_bnet.specs.Stream.{stream_of}
use Rattle.sd_bnet.proofs.stream.take_packets.Given as goal

-- the packets so far, the length that is due and the bytes after it are the stream
abbrev pub invariant-loop-packets : goal.invariant-loop-packets
invariant-loop-packets l =
    (l.begun ++ l.piece ≡ stream_of l.packets.items ++ (l.field ++ l.rest)) × AllByRecursion IsPacket l.packets.items × (length l.field < 4 → l.rest ≡ [])

abbrev pub decreases-loop-packets : goal.decreases-loop-packets
decreases-loop-packets l = length l.field + length l.rest
