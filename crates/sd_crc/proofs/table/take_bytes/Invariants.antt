use Rattle.std.proofs.Common.{◌≡◌, fold, take}
use Rattle.sd_crc.specs.Crc32.{byte_step}
use Rattle.sd_crc.proofs.table.take_bytes.Given as goal

abbrev pub invariant-loop-byte : goal.invariant-loop-byte
invariant-loop-byte l = l.register ≡ fold byte_step l.fn.register (take l.byte-index l.bytes)
