use Rattle.std.proofs.Common.{rules}
use Rattle.std.specs.Prelude.{FitsSigned}
use Rattle.std.specs.Int.{w32}
use Rattle.std.proofs.lemmas.Int.{to_z-of_z}
use Rattle.sd_record.proofs.HeaderLemmas.{read_header}
use Rattle.sd_record.proofs.fragment.header_at.Goals as goal

pub returns-clause-header : goal.returns-clause-header
returns-clause-header c =
    let i : FitsSigned w32 c.unwrap-index.result = search rules in
    let s : FitsSigned w32 c.unwrap-stream.result = search rules in
    let index = rw c.unwrap-index.ensures at c.get_i32.ensures.field in
    let stream = rw c.unwrap-stream.ensures at c.get_i32-2.ensures.field in
    let size = rw c.unwrap-size.ensures at c.get_u32.ensures.field in
    let header = read_header c.args.body.now c.split_at.result.1.now _ _ _ c.args.at c.split_at.ensures.back index stream size in
    simp to_z-of_z header
