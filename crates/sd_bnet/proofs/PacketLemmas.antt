-- A packet's bytes tell where it ends: no packet begins another, and none begins what is unfinished or too long.
use Rattle.std.proofs.Common.{◌≡◌, ◌≢◌, ℕ, ◌^◌, ◌<◌, ◌≤◌, refl, sym, ap, ◌∙◌, arith, List, [], ◌∷◌, ◌++◌, length, take, drop, ℤ, pos, ◌⊎◌, inl, inr, length-append}
use Rattle.std.specs.Prelude.{FitsSigned, IsTrue, not, ◌==◌}
use Rattle.std.specs.Int.{w32, cast_unsigned, cast_signed}
use Rattle.std.proofs.lemmas.Int.{ints, to_z-of_z}
use Rattle.std.proofs.lemmas.List.{append_assoc, append_cancel_left, take_at, drop_at, length-drop, take-append-drop, take-append-le}
use Rattle.std.proofs.lemmas.Bool.{cases_lt}
use Rattle.std.proofs.lemmas.Bool.Decides.{nat_tests}
use Rattle.sd_base.specs.Field.{i32_bytes}
use Rattle.sd_base.specs.Limits.{most_data}
use Rattle.sd_base.proofs.FieldLemmas.{length-u32_bytes, u32_bytes-injective}
use Rattle.sd_bnet.specs.Packet.{packet_bytes, IsPacket}
use Rattle.sd_bnet.specs.Stream.{IsFront, IsUnfinished, IsTooLong}
use Rattle.sd_bnet.specs.declared.packet.Packet.{Packet}
use Rattle.sd_bnet.specs.declared.packet.Packet.TheVariants.{Bytes, Signal}

cast_unsigned_below : (z : ℤ) → FitsSigned w32 z → cast_unsigned w32 z < 2 ^ 32
cast_unsigned_below z fits = omega (arith, ints)

-- two signed fields are never alike, whatever follows them
pub i32_bytes-injective : (y z : ℤ) (xs ys : List ℕ) → FitsSigned w32 y → FitsSigned w32 z → i32_bytes y ++ xs ≡ i32_bytes z ++ ys → y ≡ z
i32_bytes-injective y z xs ys fits_y fits_z e =
    let same : cast_unsigned w32 y ≡ cast_unsigned w32 z = u32_bytes-injective _ _ xs ys (cast_unsigned_below y fits_y) (cast_unsigned_below z fits_z) e in
    sym (to_z-of_z w32 y fits_y) ∙ ap (cast_signed w32) same ∙ to_z-of_z w32 z fits_z

pub length-i32_bytes : (z : ℤ) → length (i32_bytes z) ≡ 4
length-i32_bytes z = length-u32_bytes (cast_unsigned w32 z)

-- the length that a packet's first four bytes say
abbrev pub length_field : Packet → ℤ
length_field (Bytes payload) = pos (length payload)
length_field (Signal number) = number

abbrev pub payload_of : Packet → List ℕ
payload_of (Bytes payload) = payload
payload_of (Signal number) = []

pub packet_bytes_split : (p : Packet) (xs : List ℕ) → packet_bytes p ++ xs ≡ i32_bytes (length_field p) ++ (payload_of p ++ xs)
packet_bytes_split (Bytes payload) xs = append_assoc _ payload xs
packet_bytes_split (Signal number) xs = refl

size_fits : (size : ℕ) → size ≤ most_data → FitsSigned w32 (pos size)
size_fits size most = record { sfits = omega arith }

pub length_field_fits : (p : Packet) → IsPacket p → FitsSigned w32 (length_field p)
length_field_fits (Bytes payload) proper = size_fits (length payload) proper
length_field_fits (Signal number) proper = proper.0

-- no packet begins another
same_field : (p q : Packet) (xs ys : List ℕ) → IsPacket p → IsPacket q → length_field p ≡ length_field q → payload_of p ++ xs ≡ payload_of q ++ ys → (p ≡ q) × (xs ≡ ys)
same_field (Bytes a) (Bytes b) xs ys hp hq field e =
    let long : length a ≡ length b = omega (arith, ints) in
    let same : a ≡ b = sym (take_at a xs (length a) refl) ∙ ap (take (length a)) e ∙ take_at b ys (length a) (sym long) in
    (ap Bytes same, sym (drop_at a xs (length a) refl) ∙ ap (drop (length a)) e ∙ drop_at b ys (length a) (sym long))
same_field (Bytes a) (Signal n) xs ys hp hq field e = absurd (omega (arith, ints, hq.1))
same_field (Signal m) (Bytes b) xs ys hp hq field e = absurd (omega (arith, ints, hp.1))
same_field (Signal m) (Signal n) xs ys hp hq field e = (ap Signal field, e)

pub same_packet : (p q : Packet) (xs ys : List ℕ) → IsPacket p → IsPacket q → packet_bytes p ++ xs ≡ packet_bytes q ++ ys → (p ≡ q) × (xs ≡ ys)
same_packet p q xs ys hp hq e =
    let split = sym (packet_bytes_split p xs) ∙ e ∙ packet_bytes_split q ys in
    let field = i32_bytes-injective _ _ _ _ (length_field_fits p hp) (length_field_fits q hq) split in
    let after = append_cancel_left _ _ _ (split ∙ ap (λ z. i32_bytes z ++ (payload_of q ++ ys)) (sym field)) in
    same_field p q xs ys hp hq field after

-- a packet has a whole length
pub long_enough : (p : Packet) (xs bytes : List ℕ) → bytes ≡ packet_bytes p ++ xs → 4 ≤ length bytes
long_enough p xs bytes e =
    let split : length bytes ≡ length (i32_bytes (length_field p) ++ (payload_of p ++ xs)) = ap length (e ∙ packet_bytes_split p xs) in
    omega (arith, length-append (i32_bytes (length_field p)) (payload_of p ++ xs), length-i32_bytes (length_field p))

-- what begins with a packet and with the length `size` has a packet of that length
size_of_packet : (p : Packet) (size : ℕ) (xs after : List ℕ) → IsPacket p → size < 2 ^ 31 → packet_bytes p ++ xs ≡ i32_bytes (pos size) ++ after
    → (length_field p ≡ pos size) × (payload_of p ++ xs ≡ after)
size_of_packet p size xs after proper below e =
    let split = sym (packet_bytes_split p xs) ∙ e in
    let field = i32_bytes-injective (length_field p) (pos size) _ _ (length_field_fits p proper) (record { sfits = omega arith }) split in
    (field, append_cancel_left _ _ _ (split ∙ ap (λ z. i32_bytes z ++ after) (sym field)))

-- a packet of that length has so many bytes, within the limit
size_within : (p : Packet) (size : ℕ) → IsPacket p → length_field p ≡ pos size → (length (payload_of p) ≡ size) × (size ≤ most_data)
size_within (Bytes payload) size proper e =
    let same : length payload ≡ size = omega (arith, ints) in
    (same, omega arith)
size_within (Signal number) size proper e = absurd (omega (arith, ints, proper.1))

-- no front of a packet begins with one
front_is_no_packet : (p : Packet) (xs bytes : List ℕ) → IsPacket p → IsFront bytes → bytes ≡ packet_bytes p ++ xs → ⊥
front_is_no_packet p xs bytes proper (inl short) e =
    let long = long_enough p xs bytes e in
    omega (arith, short.1)
front_is_no_packet p xs bytes proper (inr part) e =
    let size = part.0 in
    let begun = part.1 in
    let found = size_of_packet p size xs begun proper (omega (arith, part.2)) (sym e ∙ part.4) in
    let within = size_within p size proper found.0 in
    let lengths : length (payload_of p ++ xs) ≡ length begun = ap length found.1 in
    omega (arith, length-append (payload_of p) xs, part.3)

-- nor does anything with too great a length
too_long_is_no_packet : (p : Packet) (xs bytes : List ℕ) → IsPacket p → IsTooLong bytes → bytes ≡ packet_bytes p ++ xs → ⊥
too_long_is_no_packet p xs bytes proper h e =
    let found = size_of_packet p h.0 xs h.1 proper h.3 (sym e ∙ h.4) in
    let within = size_within p h.0 proper found.0 in
    omega (arith, h.2)

-- nothing that may remain begins with a packet
pub rest_is_no_packet : (p : Packet) (xs bytes : List ℕ) → IsPacket p → IsUnfinished bytes ⊎ IsTooLong bytes → bytes ≡ packet_bytes p ++ xs → ⊥
rest_is_no_packet p xs bytes proper (inl (inl none)) e =
    let long = long_enough p xs bytes e in
    omega (arith, ap length none)
rest_is_no_packet p xs bytes proper (inl (inr front)) e = front_is_no_packet p xs bytes proper front e
rest_is_no_packet p xs bytes proper (inr long) e = too_long_is_no_packet p xs bytes proper long e

-- what is shorter than a length is unfinished
pub short_is_unfinished : (bytes : List ℕ) → length bytes < 4 → IsUnfinished bytes
short_is_unfinished [] short = inl refl
short_is_unfinished (byte ∷ bytes) short = inr (inl (λ e. cc, short))

-- a front isn't nothing
pub front_is_not_empty : IsFront [] → ⊥
front_is_not_empty (inl short) = short.0 refl
front_is_not_empty (inr part) =
    let none : 0 ≡ length (i32_bytes (pos part.0) ++ part.1) = ap length part.4 in
    omega (arith, length-append (i32_bytes (pos part.0)) part.1, length-i32_bytes (pos part.0))

long_front : (p : Packet) (front more : List ℕ) → IsPacket p → packet_bytes p ≡ front ++ more → 0 < length more → 4 ≤ length front → IsUnfinished front
long_front (Bytes payload) front more proper e shorter long =
    let field : i32_bytes (pos (length payload)) ≡ take 4 front = sym (take_at (i32_bytes (pos (length payload))) payload 4 (length-i32_bytes (pos (length payload)))) ∙ ap (take 4) e ∙ take-append-le 4 front more long in
    let lengths : length (i32_bytes (pos (length payload)) ++ payload) ≡ length (front ++ more) = ap length e in
    let part : length (drop 4 front) < length payload =
    omega (arith, length-append (i32_bytes (pos (length payload))) payload, length-append front more, length-i32_bytes (pos (length payload)), length-drop 4 front) in
    inr (inr (length payload, drop 4 front, proper, part, sym (take-append-drop 4 front) ∙ ap (λ taken. taken ++ drop 4 front) (sym field)))
long_front (Signal number) front more proper e shorter long =
    let lengths : length (i32_bytes number) ≡ length (front ++ more) = ap length e in
    absurd (omega (arith, length-append front more, length-i32_bytes number))

-- each strict front of a packet is unfinished
pub strict_front : (p : Packet) (front more : List ℕ) → IsPacket p → packet_bytes p ≡ front ++ more → more ≢ [] → IsUnfinished front
strict_front p front [] proper e some = absurd (some refl)
strict_front p front (byte ∷ bytes) proper e some = elim (cases_lt (length front) 4) [
  | inl short ↦ short_is_unfinished front short
  | inr long ↦ long_front p front (byte ∷ bytes) proper e (omega arith) long
]

-- whether some of a length has come
pub begun_length : (begun : List ℕ) → length begun < 4 → (IsTrue (not (length begun == 0)) → IsFront begun) × (IsFront begun → IsTrue (not (length begun == 0)))
begun_length [] short = (λ t. cc, λ front. absurd (front_is_not_empty front))
begun_length (byte ∷ bytes) short = (λ t. inl (λ e. cc, short), λ front. grind (arith, nat_tests))
