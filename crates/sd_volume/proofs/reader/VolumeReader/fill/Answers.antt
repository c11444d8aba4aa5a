use Rattle.std.proofs.Common.{refl}
use Rattle.sd_volume.proofs.ReaderLemmas.{part_of_held, part_of_full}
use Rattle.sd_volume.proofs.reader.VolumeReader.fill.Goals as goal

pub returns-then-holds-clause-shown : goal.returns-then-holds-clause-shown
returns-then-holds-clause-shown g c = λ honest shows held there.
    let holds = c.if-holds.ensures.0 refl in
    let reader = c.args.self.now in
    let there' = rw c.show.ensures at there in
    rw c.show.ensures (part_of_held held.bytes reader.bytes reader.from c.args.at c.args.count (shows held there') holds.0 holds.1)

pub returns-clause-shown : goal.returns-clause-shown
returns-clause-shown g c = λ honest shows held there.
    let there' = rw c.show-2.ensures at there in
    let full = c.in_ok-refill.ensures.holds honest shows held there' in
    rw c.show-2.ensures (part_of_full held.bytes _ _ c.args.at c.args.count c.requires full c.in_ok-refill.ensures.from)
