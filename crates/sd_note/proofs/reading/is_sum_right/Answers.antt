use Rattle.std.proofs.Common.{◌≡◌, ℕ, ◌^◌, ◌<◌, ◌↔◌, ◌==◌, List, take, drop, sym, ap, ◌∙◌, IsTrue, eqb-true, eq-eqb}
use Rattle.std.proofs.lemmas.List.{take_rest}
use Rattle.std.proofs.lemmas.Result.{IfOk-at_ok}
use Rattle.sd_base.specs.Field.{u32_bytes}
use Rattle.sd_crc.specs.Crc32.{crc32_of}
use Rattle.sd_note.specs.Note.{HasSum}
use Rattle.sd_note.proofs.NoteLemmas.{u32_same}
use Rattle.sd_note.proofs.reading.is_sum_right.Goals as goal

-- the checksum that is said, and the one that is right
compared : (bytes : List ℕ) (said right : ℕ) → said < 2 ^ 32 → right < 2 ^ 32 → take 4 bytes ≡ u32_bytes said → right ≡ crc32_of (drop 4 bytes)
    → IsTrue (said == right) ↔ HasSum bytes
compared bytes said right said_fits right_fits says is =
    (λ same. says ∙ ap u32_bytes (eqb-true said right same ∙ is), λ sum. eq-eqb said right (u32_same said right said_fits right_fits (sym says ∙ (sum ∙ ap u32_bytes (sym is)))))

pub returns : goal.returns
returns c =
    let bytes = c.args.bytes.now in
    compared bytes c.unwrap.result c.crc32.result c.unwrap.type_inv c.crc32.type_inv (IfOk-at_ok (λ (value : ℕ). take 4 bytes ≡ u32_bytes value) c.unwrap.ensures c.get_u32.ensures.field) (c.crc32.ensures ∙ ap crc32_of (take_rest bytes 4))
