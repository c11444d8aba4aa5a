use Rattle.std.proofs.Common.{sym, ap, arith}
use Rattle.std.specs.List.{sum_by}
use Rattle.std.proofs.lemmas.Bool.{true≢false}
use Rattle.sd_journal.specs.Stretch.{counted}
use Rattle.sd_journal.proofs.StretchLemmas.{counted_grown}
use Rattle.sd_journal.proofs.share.Share.note.Goals as goal

pub invariant_of-self : goal.invariant_of-self
invariant_of-self c =
    let same = ap (sum_by counted) c.extend-begins.ensures.stretches in
    let more = counted_grown c.self.inside.stretches.items c.args.noted.now in
    let before = c.self.invariant.counted in
    let fits = c.requires.fits in
    let view = ap (λ v. v.placed) c.self.view_is in
    record {
      room = λ e. absurd (true≢false (sym e));
      counted = omega (arith, same, more, before);
      fits = omega (arith, fits, view);
    }
