use Rattle.std.proofs.Common.{◌≡◌, ℕ, List, ◌++◌, length, take, drop, ap, ap₂, ◌∙◌, arith}
use Rattle.std.proofs.lemmas.List.{take_all}
use Rattle.sd_base.specs.Field.{u32_bytes}
use Rattle.sd_crc.specs.Crc32.{crc32_of}
use Rattle.sd_note.specs.declared.note.Note.{Note}
use Rattle.sd_note.specs.Note.{note_fields, FitsNote, IsNote}
use Rattle.sd_note.proofs.NoteLemmas.{length-note_fields}
use Rattle.sd_note.proofs.writing.note_bytes.Goals as goal

-- the checksum of the fields, written in front of them
summed : (note : Note) (sum : ℕ) (fields bytes : List ℕ) → drop 4 fields ≡ note_fields note → FitsNote note
    → sum ≡ crc32_of (take 44 (drop 4 fields))
    → bytes ≡ u32_bytes sum ++ drop 4 fields
    → IsNote bytes note
summed note sum fields bytes fields_are fits sum_is bytes_are =
    let right : sum ≡ crc32_of (note_fields note) = sum_is ∙ ap crc32_of (ap (take 44) fields_are ∙ take_all 44 (note_fields note) (omega (arith, length-note_fields note))) in
    record {
      bytes_are = bytes_are ∙ ap₂ (λ s (rest : List ℕ). u32_bytes s ++ rest) right fields_are;
      fits = fits;
    }

pub returns : goal.returns
returns c =
    summed c.args.note c.crc32-sum.result c.unsummed-bytes.result c.put_u32.new.into c.unsummed-bytes.ensures.fields c.unsummed-bytes.ensures.fits c.crc32-sum.ensures c.put_u32.ensures
