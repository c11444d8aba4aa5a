-- The packets of a stream are determined by its bytes, and don't depend on where it is cut.
use Rattle.std.proofs.Common.{◌≡◌, ℕ, refl, sym, ap, ◌∙◌, List, [], ◌∷◌, ◌++◌, ◌⊎◌}
use Rattle.std.specs.List.{AllByRecursion}
use Rattle.std.proofs.lemmas.List.{append_assoc, append-nil}
use Rattle.std.proofs.lemmas.Grind.{flat_map-append}
use Rattle.sd_bnet.specs.Packet.{packet_bytes, IsPacket}
use Rattle.sd_bnet.specs.Stream.{stream_of, IsUnfinished, IsTooLong, Packets}
use Rattle.sd_bnet.specs.declared.packet.Packet.{Packet}
use Rattle.sd_bnet.proofs.PacketLemmas.{same_packet, rest_is_no_packet}

-- packets that begin a stream are the first of its packets
pub first_packets : (others packets : List Packet) (more remainder : List ℕ)
    → AllByRecursion IsPacket others → AllByRecursion IsPacket packets → IsUnfinished remainder ⊎ IsTooLong remainder
    → stream_of others ++ more ≡ stream_of packets ++ remainder
    → (after : List Packet) × (packets ≡ others ++ after) × (more ≡ stream_of after ++ remainder) × AllByRecursion IsPacket after
first_packets [] packets more remainder proper_others proper rest e = (packets, refl, e, proper)
first_packets (q ∷ qs) [] more remainder proper_others proper rest e =
    absurd (rest_is_no_packet q (stream_of qs ++ more) remainder proper_others.0 rest (sym e ∙ append_assoc (packet_bytes q) (stream_of qs) more))
first_packets (q ∷ qs) (p ∷ ps) more remainder proper_others proper rest e =
    let split = sym (append_assoc (packet_bytes q) (stream_of qs) more) ∙ e ∙ append_assoc (packet_bytes p) (stream_of ps) remainder in
    let same = same_packet q p _ _ proper_others.0 proper.0 split in
    let found = first_packets qs ps more remainder proper_others.1 proper.1 rest same.1 in
    (found.0, ap (λ r. r ∷ ps) (sym same.0) ∙ ap (λ rs. q ∷ rs) found.1, found.2, found.3)

pub all_packets : (packets later : List Packet) → AllByRecursion IsPacket packets → AllByRecursion IsPacket later → AllByRecursion IsPacket (packets ++ later)
all_packets [] later proper proper_later = proper_later
all_packets (p ∷ ps) later proper proper_later = (proper.0, all_packets ps later proper.1 proper_later)

pub stream_of-append : (packets later : List Packet) (rest : List ℕ) → stream_of (packets ++ later) ++ rest ≡ stream_of packets ++ (stream_of later ++ rest)
stream_of-append packets later rest =
    ap (λ bytes. bytes ++ rest) (flat_map-append packet_bytes packets later) ∙ append_assoc (stream_of packets) (stream_of later) rest

pub longest : (bytes remainder after : List ℕ) (packets others : List Packet) → Packets bytes packets remainder → AllByRecursion IsPacket others → bytes ≡ stream_of others ++ after
    → (later : List Packet) × (packets ≡ others ++ later)
longest bytes remainder after packets others h proper e =
    let found = first_packets others packets after remainder proper h.each h.rest (sym e ∙ h.joined) in
    (found.0, found.1)

none_left : (after : List Packet) (remainder more : List ℕ) → AllByRecursion IsPacket after → IsUnfinished more ⊎ IsTooLong more → more ≡ stream_of after ++ remainder → after ≡ []
none_left [] remainder more proper rest e = refl
none_left (p ∷ ps) remainder more proper rest e =
    absurd (rest_is_no_packet p (stream_of ps ++ remainder) more proper.0 rest (e ∙ append_assoc (packet_bytes p) (stream_of ps) remainder))

pub unique : (bytes remainder other_remainder : List ℕ) (packets others : List Packet) → Packets bytes packets remainder → Packets bytes others other_remainder
    → (packets ≡ others) × (remainder ≡ other_remainder)
unique bytes remainder other_remainder packets others h other =
    let found = first_packets others packets other_remainder remainder other.each h.each h.rest (sym other.joined ∙ h.joined) in
    let none = none_left found.0 remainder other_remainder found.3 other.rest found.2 in
    (found.1 ∙ ap (λ after. others ++ after) none ∙ append-nil others, sym (found.2 ∙ ap (λ after. stream_of after ++ remainder) none))

-- the packets of what comes after other packets
pub packets_behind : (stream bytes rest : List ℕ) (before found : List Packet) → AllByRecursion IsPacket before → stream ≡ stream_of before ++ bytes → Packets bytes found rest
    → Packets stream (before ++ found) rest
packets_behind stream bytes rest before found proper e h = record {
  joined = e ∙ ap (λ tail. stream_of before ++ tail) h.joined ∙ sym (stream_of-append before found rest);
  each = all_packets before found proper h.each;
  rest = h.rest;
}

-- a front that has these packets, with more after it
pub joined_with : (bytes more remainder : List ℕ) (packets : List Packet) → Packets bytes packets remainder → bytes ++ more ≡ stream_of packets ++ (remainder ++ more)
joined_with bytes more remainder packets h = ap (λ front. front ++ more) h.joined ∙ append_assoc (stream_of packets) remainder more

pub apart : (bytes more remainder rest : List ℕ) (packets all : List Packet) → Packets bytes packets remainder → Packets (bytes ++ more) all rest
    → (later : List Packet) × (all ≡ packets ++ later) × Packets (remainder ++ more) later rest
apart bytes more remainder rest packets all h whole =
    let joined = sym (joined_with bytes more remainder packets h) ∙ whole.joined in
    let found = first_packets packets all (remainder ++ more) rest h.each whole.each whole.rest joined in
    (found.0, found.1, record { joined = found.2; each = found.3; rest = whole.rest })
