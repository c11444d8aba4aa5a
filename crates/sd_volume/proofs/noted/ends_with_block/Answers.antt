use Rattle.std.proofs.Common.{sym, arith}
use Rattle.sd_volume.proofs.NotedLemmas.{ends_with_block, is_that_block}
use Rattle.sd_volume.proofs.noted.ends_with_block.Goals as goal

pub returns-clause-ends : goal.returns-clause-ends
returns-clause-ends g c = λ honest shows held there whole.
    let n = c.args.note in
    let stands = rw c.in-Some.is at (c.in_ok-head.ensures.there honest shows held there) in (
      λ yes. (let so = c.is_last.ensures.0 yes in ends_with_block c.args.start_time held.bytes n.last _ c.in-Some.head n.end n.next_number stands so.0 (sym so.1) (omega (arith, c.requires.number))),
      λ ends. c.is_last.ensures.1 (is_that_block c.args.start_time held.bytes n.last _ c.in-Some.head n.end n.next_number stands ends),
    )
