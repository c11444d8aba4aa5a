-- What a feeder keeps, beside the packets that it handed out.
use Rattle.std.proofs.Common.{◌≡◌, ℕ, ◌+◌, ◌<◌, ◌≤◌, refl, sym, ap, ◌∙◌, arith, List, [], ◌∷◌, ◌++◌, length, take, drop, pos, inr, length-append}
use Rattle.std.specs.List.{AllByRecursion}
use Rattle.std.proofs.lemmas.List.{append_assoc, append-nil, length-take-le, take-append-drop}
use Rattle.sd_base.specs.Field.{i32_bytes}
use Rattle.sd_bnet.specs.Feeder.{FeederState, Fits}
use Rattle.sd_bnet.specs.Feeder.FeederState.{Waiting, Failed}
use Rattle.sd_bnet.specs.Packet.{packet_bytes, IsPacket}
use Rattle.sd_bnet.specs.Stream.{stream_of, IsTooLong}
use Rattle.sd_bnet.specs.declared.packet.Packet.{Packet}
use Rattle.sd_bnet.specs.declared.packet.Packet.TheVariants.{Bytes}
use Rattle.sd_base.specs.Limits.{most_data}
use Rattle.sd_bnet.proofs.PacketLemmas.{long_enough}
use Rattle.sd_bnet.proofs.StreamLemmas.{packets_behind, joined_with}

-- what is kept of the bytes after packets is what is kept after these packets and its own
pub fits_behind : (state : FeederState) (stream bytes : List ℕ) (before found : List Packet) → AllByRecursion IsPacket before → stream ≡ stream_of before ++ bytes
    → Fits state bytes found → Fits state stream (before ++ found)
fits_behind (Waiting next) stream bytes before found proper e h = (packets_behind stream bytes next before found proper e h.0, h.1)
fits_behind Failed stream bytes before found proper e h = (h.0, packets_behind stream bytes h.0 before found proper e h.1, h.2)

-- the packets of what was kept and of the next piece come after the earlier ones
pub fits_more : (state : FeederState) (begun bytes piece : List ℕ) (before found : List Packet) → Fits (Waiting begun) bytes before → Fits state (begun ++ piece) found
    → Fits state (bytes ++ piece) (before ++ found)
fits_more state begun bytes piece before found h fed =
    fits_behind state (bytes ++ piece) (begun ++ piece) before found h.0.each (joined_with bytes piece begun before h.0) fed

-- what follows a packet is shorter than it and the packet
pub shorter_behind : (bytes after : List ℕ) (p : Packet) → bytes ≡ packet_bytes p ++ after → length after < length bytes
shorter_behind bytes after p e =
    let lengths : length bytes ≡ length (packet_bytes p ++ after) = ap length e in
    let long : 4 ≤ length (packet_bytes p ++ []) = long_enough p [] (packet_bytes p ++ []) refl in
    let same : length (packet_bytes p ++ []) ≡ length (packet_bytes p) = ap length (append-nil (packet_bytes p)) in
    omega (arith, length-append (packet_bytes p) after)

-- what comes after too great a length changes nothing
pub failed_more : (bytes piece : List ℕ) (packets : List Packet) → Fits Failed bytes packets → Fits Failed (bytes ++ piece) (packets ++ [])
failed_more bytes piece packets h =
    let long : IsTooLong (h.0 ++ piece) = (h.2.0, h.2.1 ++ piece, h.2.2, h.2.3, ap (λ front. front ++ piece) h.2.4 ∙ append_assoc (i32_bytes (pos h.2.0)) h.2.1 piece) in
    fits_behind Failed (bytes ++ piece) (h.0 ++ piece) packets [] h.1.each (joined_with bytes piece h.0 packets h.1) (h.0 ++ piece, record { joined = refl; each = tt; rest = inr long }, long)

-- a payload that the next piece completes is a packet, and the others come after it
pub whole_payload : (state : FeederState) (size missing : ℕ) (begun piece : List ℕ) (found : List Packet)
    → length begun + missing ≡ size → missing ≤ length piece → size ≤ most_data
    → Fits state (drop missing piece) found → Fits state (i32_bytes (pos size) ++ begun ++ piece) (Bytes (begun ++ take missing piece) ∷ found)
whole_payload state size missing begun piece found whole there within h =
    let payload = begun ++ take missing piece in
    let lengths : length payload ≡ size = omega (arith, length-append begun (take missing piece), length-take-le missing piece there) in
    let own : i32_bytes (pos size) ++ payload ≡ packet_bytes (Bytes payload) ++ [] =
    ap (λ n. i32_bytes (pos n) ++ payload) (sym lengths) ∙ sym (append-nil (packet_bytes (Bytes payload))) in
    let parted : begun ++ piece ≡ payload ++ drop missing piece =
    ap (λ bytes. begun ++ bytes) (sym (take-append-drop missing piece)) ∙ sym (append_assoc begun (take missing piece) (drop missing piece)) in
    let joined = append_assoc (i32_bytes (pos size)) begun piece ∙ ap (λ bytes. i32_bytes (pos size) ++ bytes) parted ∙ sym (append_assoc (i32_bytes (pos size)) payload (drop missing piece))
    ∙ ap (λ bytes. bytes ++ drop missing piece) own in
    fits_behind state (i32_bytes (pos size) ++ begun ++ piece) (drop missing piece) (Bytes payload ∷ []) found (omega arith, tt) joined h
