use Rattle.std.proofs.Common.{◌≡◌, ◌*◌, ◌/◌, [], ◌++◌, length, get_or, take, fold, sym, ap, ◌∙◌, arith}
use Rattle.std.proofs.lemmas.List.{length-append}
use Rattle.sd_crc.specs.Crc32.{byte_step}
use Rattle.sd_crc.proofs.Blocks.{chunk_more, chunks_all}
use Rattle.sd_crc.proofs.sums.Sums.after.Goals as goal

pub loop-block-preserved : goal.loop-block-preserved
loop-block-preserved c = λ rest long.
    let bytes = c.args.bytes.now in
    let blocks = c.as_chunks.result.0.now in
    let i = c.loop-block.block-index in
    let block = get_or blocks i [] in
    sym (c.take_block.ensures rest long) ∙ c.loop-block.invariant (block ++ rest) (omega (arith, length-append block rest))
    ∙ ap (fold byte_step 0xFFFFFFFF) (chunk_more 4096 (length bytes / 4096) i bytes rest blocks c.as_chunks.ensures.front (omega (arith, c.as_chunks.ensures.front_len)))

pub returns : goal.returns
returns c = λ rest long.
    let bytes = c.args.bytes.now in
    let tail = c.as_chunks.result.1.now in
    let end : c.loop-block.block-index * 4096 ≡ length bytes / 4096 * 4096 = omega (arith, c.as_chunks.ensures.front_len) in
    let all : take (c.loop-block.block-index * 4096) bytes ++ (tail ++ rest) ≡ bytes ++ rest = rw (end, c.as_chunks.ensures.back) (chunks_all (length bytes / 4096 * 4096) bytes rest) in
    sym (c.take_block-2.ensures rest long) ∙ c.loop-block.invariant (tail ++ rest) (omega (arith, length-append tail rest))
    ∙ ap (fold byte_step 0xFFFFFFFF) all
