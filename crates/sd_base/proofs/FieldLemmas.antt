-- Fields have their width, and two numbers never share a field.
use Rattle.std.proofs.Common.{◌≡◌, ℕ, ◌+◌, ◌-◌, ◌^◌, ◌<◌, ◌≤◌, refl, sym, ap, ◌∙◌, arith, List, ◌++◌, take, drop, length, get_or, inl, inr, w32, w64}
use Rattle.std.specs.Prelude.{ℤ, FitsSigned}
use Rattle.std.specs.Int.{Width, cast_unsigned, cast_signed, from_be_bytes}
use Rattle.std.proofs.lemmas.Int.{to_z-of_z}
use Rattle.std.proofs.Math.Facts.{Fits-of_z}
use Rattle.std.proofs.lemmas.Nat.{be_bytes_4, be_bytes_8}
use Rattle.std.proofs.lemmas.Grind.{common_steps}
use Rattle.std.proofs.lemmas.List.{take_rest, drop-drop, get_or-take, get_or-drop, get_or_past, length-take, length-take-le, length-drop, take_at, drop_at, take-append-drop}
use Rattle.std.proofs.lemmas.Bool.{cases_lt}
use Rattle.byteorder.specs.Endian.{big_number}
use Rattle.byteorder.specs.Numbers.{big_number-reads_back, length-bytes_high_first}
use borrow.Rule.Slice.PartMut.{put_mid, mid_of}
use Rattle.sd_base.specs.Field.{u32_bytes, u64_bytes, i32_bytes, i64_bytes}

pub length-u32_bytes : (x : ℕ) → length (u32_bytes x) ≡ 4
unfolding u32_bytes
length-u32_bytes x = length-bytes_high_first 4 x

pub length-u64_bytes : (x : ℕ) → length (u64_bytes x) ≡ 8
unfolding u64_bytes
length-u64_bytes x = length-bytes_high_first 8 x

-- each element of a list is a byte
abbrev pub AreBytes : List ℕ → Type 0
AreBytes xs = (i : ℕ) → get_or xs i 0 < 256

pub AreBytes-take : (n : ℕ) (xs : List ℕ) → AreBytes xs → AreBytes (take n xs)
AreBytes-take n xs bytes i = elim (cases_lt i n) [
  | inl below ↦ let e = get_or-take n xs i 0 below in rw e (bytes i)
  | inr past ↦
      let beyond : get_or (take n xs) i 0 ≡ 0 = get_or_past (take n xs) i 0 (omega (arith, length-take n xs)) in
      omega arith
]

pub AreBytes-drop : (n : ℕ) (xs : List ℕ) → AreBytes xs → AreBytes (drop n xs)
AreBytes-drop n xs bytes i = rw (get_or-drop n xs i 0) (bytes (n + i))

-- the bytes of the number that four bytes spell are those bytes
pub u32_bytes-read : (xs : List ℕ) → length xs ≡ 4 → ((i : ℕ) → get_or xs i 0 < 256) → u32_bytes (big_number 4 xs) ≡ xs
unfolding u32_bytes
u32_bytes-read xs four bytes =
    let same : big_number 4 xs ≡ from_be_bytes w32 xs = omega arith in
    be_bytes_4 xs (big_number 4 xs) four bytes same

pub u64_bytes-read : (xs : List ℕ) → length xs ≡ 8 → ((i : ℕ) → get_or xs i 0 < 256) → u64_bytes (big_number 8 xs) ≡ xs
unfolding u64_bytes
u64_bytes-read xs eight bytes =
    let same : big_number 8 xs ≡ from_be_bytes w64 xs = omega arith in
    be_bytes_8 xs (big_number 8 xs) eight bytes same

-- two lists whose fronts are equally long agree in the front and after it
pub append_apart : {X : Type 0} (a b xs ys : List X) → length a ≡ length b → a ++ xs ≡ b ++ ys → (a ≡ b) × (xs ≡ ys)
append_apart a b xs ys long e = (
  sym (take_at a xs (length a) refl) ∙ ap (take (length a)) e ∙ take_at b ys (length a) (sym long),
  sym (drop_at a xs (length a) refl) ∙ ap (drop (length a)) e ∙ drop_at b ys (length a) (sym long),
)

-- two numbers never share a field, whatever follows it
pub u32_bytes-injective : (x y : ℕ) (xs ys : List ℕ) → x < 2 ^ 32 → y < 2 ^ 32 → u32_bytes x ++ xs ≡ u32_bytes y ++ ys → x ≡ y
unfolding u32_bytes
u32_bytes-injective x y xs ys hx hy e =
    sym (big_number-reads_back 4 x xs hx) ∙ ap (big_number 4) e ∙ big_number-reads_back 4 y ys hy

pub u64_bytes-injective : (x y : ℕ) (xs ys : List ℕ) → x < 2 ^ 64 → y < 2 ^ 64 → u64_bytes x ++ xs ≡ u64_bytes y ++ ys → x ≡ y
unfolding u64_bytes
u64_bytes-injective x y xs ys hx hy e =
    sym (big_number-reads_back 8 x xs hx) ∙ ap (big_number 8) e ∙ big_number-reads_back 8 y ys hy

-- so two lists that begin with a field agree in the field and after it
pub u32_apart : (x y : ℕ) (xs ys : List ℕ) → x < 2 ^ 32 → y < 2 ^ 32 → u32_bytes x ++ xs ≡ u32_bytes y ++ ys → (x ≡ y) × (xs ≡ ys)
u32_apart x y xs ys hx hy e =
    let same = append_apart (u32_bytes x) (u32_bytes y) xs ys (length-u32_bytes x ∙ sym (length-u32_bytes y)) e in
    (u32_bytes-injective x y xs ys hx hy e, same.1)

pub u64_apart : (x y : ℕ) (xs ys : List ℕ) → x < 2 ^ 64 → y < 2 ^ 64 → u64_bytes x ++ xs ≡ u64_bytes y ++ ys → (x ≡ y) × (xs ≡ ys)
u64_apart x y xs ys hx hy e =
    let same = append_apart (u64_bytes x) (u64_bytes y) xs ys (length-u64_bytes x ∙ sym (length-u64_bytes y)) e in
    (u64_bytes-injective x y xs ys hx hy e, same.1)

-- the bits of a signed number fit its width, and give it back
bits_fit_32 : (z : ℤ) → FitsSigned w32 z → cast_unsigned w32 z < 2 ^ 32
bits_fit_32 z fits = let h = Fits-of_z fits in omega arith

bits_fit_64 : (z : ℤ) → FitsSigned w64 z → cast_unsigned w64 z < 2 ^ 64
bits_fit_64 z fits = let h = Fits-of_z fits in omega arith

signed_back : (w : Width) (x y : ℤ) → FitsSigned w x → FitsSigned w y → cast_unsigned w x ≡ cast_unsigned w y → x ≡ y
signed_back w x y hx hy e = sym (to_z-of_z w x hx) ∙ ap (cast_signed w) e ∙ to_z-of_z w y hy

pub i32_apart : (x y : ℤ) (xs ys : List ℕ) → FitsSigned w32 x → FitsSigned w32 y → i32_bytes x ++ xs ≡ i32_bytes y ++ ys → (x ≡ y) × (xs ≡ ys)
i32_apart x y xs ys hx hy e =
    let same = u32_apart (cast_unsigned w32 x) (cast_unsigned w32 y) xs ys (bits_fit_32 x hx) (bits_fit_32 y hy) e in
    (signed_back w32 x y hx hy same.0, same.1)

pub i64_apart : (x y : ℤ) (xs ys : List ℕ) → FitsSigned w64 x → FitsSigned w64 y → i64_bytes x ++ xs ≡ i64_bytes y ++ ys → (x ≡ y) × (xs ≡ ys)
i64_apart x y xs ys hx hy e =
    let same = u64_apart (cast_unsigned w64 x) (cast_unsigned w64 y) xs ys (bits_fit_64 x hx) (bits_fit_64 y hy) e in
    (signed_back w64 x y hx hy same.0, same.1)

-- a field written at a place of a slice
pub put_field : (at n : ℕ) (xs bs : List ℕ) → at ≤ length xs
    → put_mid at (length xs - at) xs (bs ++ drop n (mid_of at (length xs - at) xs)) ≡ take at xs ++ bs ++ drop (at + n) xs
put_field at n xs bs within = rw (take_rest xs at, drop-drop n at xs) (grind (arith, common_steps))

-- a field read at a place of a slice
pub u32_field : (xs : List ℕ) (at value : ℕ) → AreBytes xs → at + 4 ≤ length xs → value ≡ big_number 4 (take 4 (drop at xs))
    → take 4 (drop at xs) ≡ u32_bytes value
u32_field xs at value bytes there read =
    let four : length (take 4 (drop at xs)) ≡ 4 = length-take-le 4 (drop at xs) (omega (arith, length-drop at xs)) in
    sym (u32_bytes-read (take 4 (drop at xs)) four (AreBytes-take 4 (drop at xs) (AreBytes-drop at xs bytes))) ∙ ap u32_bytes (sym read)

pub u64_field : (xs : List ℕ) (at value : ℕ) → AreBytes xs → at + 8 ≤ length xs → value ≡ big_number 8 (take 8 (drop at xs))
    → take 8 (drop at xs) ≡ u64_bytes value
u64_field xs at value bytes there read =
    let eight : length (take 8 (drop at xs)) ≡ 8 = length-take-le 8 (drop at xs) (omega (arith, length-drop at xs)) in
    sym (u64_bytes-read (take 8 (drop at xs)) eight (AreBytes-take 8 (drop at xs) (AreBytes-drop at xs bytes))) ∙ ap u64_bytes (sym read)

-- a field written after a front that is done
pub put_next : (front field rest : List ℕ) (at n : ℕ) → length front ≡ at
    → take at (front ++ rest) ++ field ++ drop (at + n) (front ++ rest) ≡ (front ++ field) ++ drop n rest
put_next front field rest at n long =
    let kept = take_at front rest at long in
    let behind : drop (at + n) (front ++ rest) ≡ drop n rest =
    sym (drop-drop n at (front ++ rest)) ∙ ap (drop n) (drop_at front rest at long) in
    rw (kept, behind) refl

-- a field read at the front of what is left
pub read_next : (n : ℕ) (rest field : List ℕ) → take n rest ≡ field → rest ≡ field ++ drop n rest
read_next n rest field e = sym (take-append-drop n rest) ∙ ap (λ l. l ++ drop n rest) e
