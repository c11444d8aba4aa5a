use Rattle.std.proofs.Common.{◌+◌, arith}
use Rattle.std.proofs.lemmas.List.Sums.{sum_by_more, sum_by-take-le}
use Rattle.sd_journal.specs.declared.stretch.Stretch.{Stretch}
use Rattle.sd_journal.proofs.StretchLemmas.{empty, synced_counted}
use Rattle.sd_journal.proofs.share.synced_in.Goals as goal

pub overflow_add-synced : goal.overflow_add-synced
overflow_add-synced c =
    let ss = c.args.stretches.now in
    let i = c.loop-one.one-index in
    let more = sum_by_more (λ (s : Stretch). s.synced) ss i empty c.loop-one-test.true in
    let part = sum_by-take-le (λ (s : Stretch). s.synced) ss (i + 1) in
    let all = synced_counted ss in
    let before = c.loop-one.invariant in
    let fits = c.requires in
    omega (arith, more, part, all, before, fits)
