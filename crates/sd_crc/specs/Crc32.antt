-- CRC-32, bit by bit: reflected, polynomial EDB88320, start and final exclusive or FFFFFFFF.
use Rattle.std.specs.Prelude.{ℕ, zero, suc, ◌/◌, ◌%◌, ◌==◌, List, fold, bit_xor, if◌then◌else◌}

-- The polynomial but for its highest power. It is reflected: the highest bit stands for the lowest power.
abbrev pub polynomial : ℕ
polynomial = 0xEDB88320

-- One bit: the register moves down one place; if a one falls out, the polynomial is added by exclusive or.
abbrev pub bit_step : ℕ → ℕ
bit_step register = if register % 2 == 1 then bit_xor (register / 2) polynomial else register / 2

-- So many bits.
unfoldable pub bit_steps : ℕ → ℕ → ℕ
bit_steps zero register = register
bit_steps (suc n) register = bit_steps n (bit_step register)

-- One byte: it is added to the low end of the register, and eight bits follow.
abbrev pub byte_step : ℕ → ℕ → ℕ
byte_step register byte = bit_steps 8 (bit_xor register byte)

-- The checksum: the bytes go one by one into a register of 32 ones, whose bits are inverted at the end.
unfoldable pub crc32_of : List ℕ → ℕ
crc32_of bytes = bit_xor (fold byte_step 0xFFFFFFFF bytes) 0xFFFFFFFF
