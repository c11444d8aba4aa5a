use Rattle.std.proofs.Common.{◌≡◌, refl, rules}
use Rattle.sd_line.proofs.NumberLemmas.{one_named}
use Rattle.sd_tests.proofs.operating.play.Goals as goal

pub both-requires-clause-named : goal.both-requires-clause-named
both-requires-clause-named g c =
    let first : c.in_ok-no.no ≡ 1 = search rules in
    (rw first (one_named (record { queue = c.in_ok-lanes.lanes.table; book = c.in_ok-book.book.id })), refl)
