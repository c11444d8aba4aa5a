use Rattle.std.proofs.Common.{◌≡◌, ℕ, ◌+◌, ◌≤◌, List, [], ◌++◌, length, take, drop, replicate, refl, ap, ap₂, ◌∙◌, sym, subst, arith, rules}
use Rattle.std.specs.Prelude.{ℤ, FitsSigned}
use Rattle.std.specs.Int.{w64}
use Rattle.std.proofs.lemmas.Int.{to_z-of_z}
use Rattle.std.proofs.lemmas.List.{take_all, drop_all, length-take}
use Rattle.sd_base.specs.Field.{u32_bytes, u64_bytes, i64_bytes}
use Rattle.sd_base.proofs.FieldLemmas.{length-u32_bytes, length-u64_bytes}
use Rattle.sd_note.specs.declared.note.Note.{Note}
use Rattle.sd_note.specs.Note.{torn_number, note_fields}
use Rattle.sd_note.proofs.FieldLemmas.{IsWritten, write_field}
use Rattle.sd_note.proofs.NoteLemmas.{form_bytes}
use Rattle.sd_note.proofs.writing.unsummed.Goals as goal

-- the fields, one after another, as the code writes them
all_written : (note : Note) (number : ℕ) (none formed moved ended lasted numbered timed torn : List ℕ)
    → length none ≡ 48
    → formed ≡ take 4 none ++ u32_bytes 1397633073 ++ drop 8 none
    → moved ≡ take 8 formed ++ i64_bytes note.moment ++ drop 16 formed
    → ended ≡ take 16 moved ++ u64_bytes note.end ++ drop 24 moved
    → lasted ≡ take 24 ended ++ u64_bytes note.last ++ drop 32 ended
    → numbered ≡ take 32 lasted ++ u32_bytes note.next_number ++ drop 36 lasted
    → timed ≡ take 36 numbered ++ u32_bytes note.time ++ drop 40 numbered
    → torn ≡ take 40 timed ++ u64_bytes number ++ drop 48 timed
    → number ≡ torn_number note.torn
    → drop 4 torn ≡ note_fields note
unfolding note_fields
all_written note number none formed moved ended lasted numbered timed torn long formed_is moved_is ended_is lasted_is numbered_is timed_is torn_is number_is =
    let start : IsWritten none 4 [] = record { long = long; front_is = drop_all 4 (take 4 none) (omega (arith, length-take 4 none)) } in
    let one = write_field 4 4 none [] _ formed (omega arith) (omega arith) (length-u32_bytes _) start formed_is in
    let two = write_field 8 8 formed _ _ moved (omega arith) (omega arith) (length-u64_bytes _) one moved_is in
    let three = write_field 16 8 moved _ _ ended (omega arith) (omega arith) (length-u64_bytes _) two ended_is in
    let four = write_field 24 8 ended _ _ lasted (omega arith) (omega arith) (length-u64_bytes _) three lasted_is in
    let five = write_field 32 4 lasted _ _ numbered (omega arith) (omega arith) (length-u32_bytes _) four numbered_is in
    let six = write_field 36 4 numbered _ _ timed (omega arith) (omega arith) (length-u32_bytes _) five timed_is in
    let seven = write_field 40 8 timed _ _ torn (omega arith) (omega arith) (length-u64_bytes _) six torn_is in
    ap (drop 4) (sym (take_all 48 torn (omega (arith, seven.long)))) ∙ (seven.front_is ∙ ap₂ (λ (f : List ℕ) k. f ++ i64_bytes note.moment ++ u64_bytes note.end ++ u64_bytes note.last ++ u32_bytes note.next_number ++ u32_bytes note.time ++ u64_bytes k) form_bytes number_is)

pub returns-clause-fields : goal.returns-clause-fields
returns-clause-fields c =
    let moment : FitsSigned w64 c.args.note.moment = search rules in
    all_written c.args.note c.torn_number.result (replicate 48 0) c.put_u32.new.into c.put_i64.new.into c.put_u64.new.into c.put_u64-2.new.into c.put_u32-2.new.into c.put_u32-3.new.into c.put_u64-3.new.into refl c.put_u32.ensures (subst (λ (z : ℤ). c.put_i64.new.into ≡ take 8 c.put_u32.new.into ++ i64_bytes z ++ drop 16 c.put_u32.new.into) (to_z-of_z w64 c.args.note.moment moment) c.put_i64.ensures) c.put_u64.ensures c.put_u64-2.ensures c.put_u32-2.ensures c.put_u32-3.ensures c.put_u64-3.ensures c.torn_number.ensures
