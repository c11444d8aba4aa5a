use Rattle.std.proofs.Common.{◌≤◌, length, drop, map, ap, ◌∙◌, arith}
use Rattle.std.specs.List.{sum_by}
use Rattle.std.proofs.lemmas.List.{take-append-le, take_all, length-map}
use Rattle.sd_journal.specs.Stretch.{counted, marked_at}
use Rattle.sd_journal.proofs.StretchLemmas.{counted_marked}
use Rattle.sd_journal.proofs.share.Share.mark.Goals as goal

pub invariant_of-self : goal.invariant_of-self
invariant_of-self c =
    let items = c.self.inside.stretches.items in
    let len = c.self.inside.stretches.len in
    let new = c.mark_each.new.stretches in
    let is = c.mark_each.ensures ∙ ap (map (marked_at c.args.mark c.args.volume)) c.deref_mut.ensures.value in
    let same = ap length is in
    let long = length-map items (marked_at c.args.mark c.args.volume) in
    let within : len ≤ length new = omega (arith, same, long) in
    let over : length new ≤ len = omega (arith, same, long) in
    let most = counted_marked c.args.mark c.args.volume items in
    let before = c.self.invariant.counted in
    let all = ap (sum_by counted) (take-append-le len new (drop (length new) items) within ∙ take_all len new over ∙ is) in
    record {
      room = c.self.invariant.room;
      counted = omega (arith, all, most, before);
      fits = c.self.invariant.fits;
    }
