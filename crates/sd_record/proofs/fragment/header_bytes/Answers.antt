use Rattle.std.proofs.Common.{refl, rules}
use Rattle.std.specs.Prelude.{FitsSigned, replicate}
use Rattle.std.specs.Int.{w32}
use Rattle.std.proofs.lemmas.Int.{to_z-of_z}
use Rattle.sd_base.proofs.FieldLemmas.{length-u32_bytes}
use Rattle.sd_record.proofs.HeaderLemmas.{put_header}
use Rattle.sd_record.proofs.fragment.header_bytes.Goals as goal

pub returns : goal.returns
returns c =
    let index : FitsSigned w32 c.args.index = search rules in
    let stream : FitsSigned w32 c.args.stream = search rules in
    let written = put_header (replicate 12 0) _ _ c.put_u32.new.into _ _ _ refl (length-u32_bytes _) (length-u32_bytes _) (length-u32_bytes _)
    c.put_i32.ensures c.put_i32-2.ensures c.put_u32.ensures in
    simp to_z-of_z at written
