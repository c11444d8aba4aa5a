-- Each list of bytes is a stream of packets with something after them.
use Rattle.std.proofs.Common.{◌≡◌, ℕ, ◌^◌, ◌<◌, ◌≤◌, zero, suc, refl, sym, ap, ◌∙◌, arith, List, [], ◌∷◌, ◌++◌, length, take, drop, get_or, ℤ, pos, negsuc, inl, inr}
use Rattle.std.specs.Prelude.{FitsSigned, All}
use Rattle.std.specs.Int.{w32, cast_signed}
use Rattle.std.proofs.Math.Facts.{sfits_to_z}
use Rattle.std.proofs.lemmas.Int.{ints, of_z-to_z}
use Rattle.std.proofs.lemmas.Bool.{cases_lt}
use Rattle.std.proofs.lemmas.List.{append-nil, append_assoc, length-drop, length-take-le, take-append-drop, get_or_past}
use Rattle.std.proofs.lemmas.List.Elements.{All-get_or}
use Rattle.sd_base.specs.Field.{u32_bytes, i32_bytes}
use Rattle.sd_base.specs.Limits.{most_data}
use Rattle.sd_base.proofs.FieldLemmas.{AreBytes, AreBytes-take, AreBytes-drop, u32_bytes-read}
use Rattle.sd_bnet.specs.Packet.{packet_bytes, IsPacket}
use Rattle.sd_bnet.specs.Stream.{Packets}
use Rattle.sd_bnet.specs.declared.packet.Packet.{Packet}
use Rattle.sd_bnet.specs.declared.packet.Packet.TheVariants.{Bytes, Signal}
use Rattle.sd_bnet.proofs.PacketLemmas.{short_is_unfinished}
use Rattle.sd_bnet.proofs.StreamLemmas.{packets_behind}

abbrev pub HasPackets : List ℕ → Type 0
HasPackets bytes = (packets : List Packet) × (remainder : List ℕ) × Packets bytes packets remainder

-- a packet, and what follows it has packets
behind_packet : (p : Packet) (bytes after : List ℕ) → IsPacket p → bytes ≡ packet_bytes p ++ after → HasPackets after → HasPackets bytes
behind_packet p bytes after proper e h =
    let joined = e ∙ ap (λ own. own ++ after) (sym (append-nil (packet_bytes p))) in
    (p ∷ h.0, h.1, packets_behind bytes after h.1 (p ∷ []) h.0 (proper, tt) joined h.2)

-- after a length come its payload, a part of that, or anything if it is too great
behind_length : (n : ℕ) (z : ℤ) (bytes after : List ℕ) → FitsSigned w32 z → bytes ≡ i32_bytes z ++ after → length after ≤ n → AreBytes after
    → ((xs : List ℕ) → length xs ≤ n → AreBytes xs → HasPackets xs) → HasPackets bytes
behind_length n (negsuc m) bytes after fits e short are rest =
    behind_packet (Signal (negsuc m)) bytes after (fits, omega (arith, ints)) e (rest after short are)
behind_length n (pos size) bytes after fits e short are rest = elim (cases_lt most_data size) [
  | inl long ↦ ([], bytes, record { joined = refl; each = tt; rest = inr (size, after, long, omega (arith, fits.sfits), e) })
  | inr most ↦ elim (cases_lt (length after) size) [
    | inl part ↦ ([], bytes, record { joined = refl; each = tt; rest = inl (inr (inr (size, after, most, part, e))) })
    | inr whole ↦
        let lengths : length (take size after) ≡ size = length-take-le size after whole in
        let parted = ap (λ xs. i32_bytes (pos size) ++ xs) (sym (take-append-drop size after)) ∙ sym (append_assoc (i32_bytes (pos size)) (take size after) (drop size after)) in
        let own = ap (λ k. i32_bytes (pos k) ++ take size after ++ drop size after) (sym lengths) in
        behind_packet (Bytes (take size after)) bytes (drop size after) (omega arith) (e ∙ parted ∙ own) (rest (drop size after) (omega (arith, length-drop size after)) (AreBytes-drop size after are))
  ]
]

-- four bytes are those of a signed number
signed : (number : ℕ) (field : List ℕ) → u32_bytes number ≡ field → number < 2 ^ 32 → (z : ℤ) × FitsSigned w32 z × (field ≡ i32_bytes z)
signed number field e below =
    (cast_signed w32 number, sfits_to_z (record { fits = below }), sym e ∙ ap u32_bytes (sym (of_z-to_z w32 number below)))

signed_field : (field : List ℕ) → length field ≡ 4 → AreBytes field → (z : ℤ) × FitsSigned w32 z × (field ≡ i32_bytes z)
signed_field field four are = signed _ field (u32_bytes-read field four are) (omega (arith, are 0, are 1, are 2, are 3))

has_packets : (n : ℕ) (bytes : List ℕ) → length bytes ≤ n → AreBytes bytes → HasPackets bytes
has_packets zero bytes short are = ([], bytes, record { joined = refl; each = tt; rest = inl (short_is_unfinished bytes (omega arith)) })
has_packets (suc n) bytes short are = elim (cases_lt (length bytes) 4) [
  | inl begun ↦ ([], bytes, record { joined = refl; each = tt; rest = inl (short_is_unfinished bytes begun) })
  | inr long ↦
      let field = signed_field (take 4 bytes) (length-take-le 4 bytes long) (AreBytes-take 4 bytes are) in
      let joined = sym (take-append-drop 4 bytes) ∙ ap (λ front. front ++ drop 4 bytes) field.2 in
      behind_length n field.0 bytes (drop 4 bytes) field.1 joined (omega (arith, length-drop 4 bytes)) (AreBytes-drop 4 bytes are) (has_packets n)
]

pub every_stream : (bytes : List ℕ) → All (λ byte. byte < 256) bytes → (packets : List Packet) × (remainder : List ℕ) × Packets bytes packets remainder
every_stream bytes all =
    has_packets (length bytes) bytes (omega arith) (λ i. elim (cases_lt i (length bytes)) [
      | inl within ↦ All-get_or (λ byte. byte < 256) bytes i 0 within all
      | inr past ↦ let zero : get_or bytes i 0 ≡ 0 = get_or_past bytes i 0 past in omega arith
    ])
