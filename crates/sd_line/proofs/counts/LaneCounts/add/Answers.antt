use Rattle.std.proofs.Common.{ap, rules, subst, sym, ◌∙◌, ℕ, List, ◌-◌, ◌+◌, get_or, slice_set}
use Rattle.sd_lane.specs.declared.piece.Queued.{Queued}
use Rattle.sd_line.proofs.CountLemmas.{counts_more, taken-and}
use Rattle.sd_line.specs.Counts.{Counts, CountsEach, taken_of}
use Rattle.sd_line.proofs.counts.LaneCounts.add.Goals as goal

pub invariant_of-self : goal.invariant_of-self
invariant_of-self c =
    let p = c.self.inside in
    let q = c.args.queued.now in
    let n = c.one_more.result in
    let logged = ap taken_of c.and-self-inside.ensures ∙ taken-and p.taken.items q _ in
    let more = subst (λ (lane : ℕ). (many : ℕ) → Counts (get_or p.counts (lane - 1) 0) many → Counts n (many + 1)) c.get.ensures.value c.one_more.ensures in
    subst (λ (lane : ℕ). CountsEach (slice_set p.counts (lane - 1) n) (taken_of c.and-self-inside.result.items)) (sym c.get.ensures.value)
    (subst (λ (qs : List Queued). CountsEach (slice_set p.counts (q.lane - 1) n) qs) (sym logged)
    (counts_more p.counts (taken_of p.taken.items) q n (search rules) (search rules) (search rules) more c.self.invariant))
