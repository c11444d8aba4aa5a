-- The fields of packets, blocks and labels: numbers, the highest byte first.
use Rattle.std.specs.Prelude.{ℕ, ℤ, List}
use Rattle.std.specs.Int.{w32, w64, cast_unsigned}
use Rattle.byteorder.specs.Endian.{big_bytes}

-- the four bytes of a number below 2 ^ 32
unfoldable pub u32_bytes : ℕ → List ℕ
u32_bytes x = big_bytes 4 x

-- the eight bytes of a number below 2 ^ 64
unfoldable pub u64_bytes : ℕ → List ℕ
u64_bytes x = big_bytes 8 x

-- the four bytes of a signed number, in two's complement
abbrev pub i32_bytes : ℤ → List ℕ
i32_bytes z = u32_bytes (cast_unsigned w32 z)

-- the eight bytes of a signed number, in two's complement
abbrev pub i64_bytes : ℤ → List ℕ
i64_bytes z = u64_bytes (cast_unsigned w64 z)
