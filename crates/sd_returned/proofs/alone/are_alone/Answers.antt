use Rattle.std.proofs.Common.{ℕ, inl, inr, sym, ap, subst, ◌∙◌, arith, slice_get}
use Rattle.sd_jobs.proofs.EachLemmas.{get_below}
use Rattle.sd_world.proofs.Lookups.{one_or_two}
use Rattle.sd_returned.specs.Listed.{IsAlone, lane_ends}
use Rattle.sd_returned.proofs.alone.are_alone.Goals as goal

pub loop-at-preserved : goal.loop-at-preserved
loop-at-preserved g c = λ place end r below is own.
    let ends = c.args.ends.now in
    elim (one_or_two place c.loop-at.at) [
      | inl same ↦ subst (λ (p : ℕ). IsAlone (lane_ends ends) p r.key.id) (sym same) (c.stands_alone.ensures c.if-not-stands_alone.false end r (ap (slice_get ends) (sym same) ∙ is) own)
      | inr apart ↦ c.loop-at.invariant place end r (omega (arith, below, apart)) is own
    ]

pub returns : goal.returns
returns g c = λ is place end r there own.
    let below = get_below c.args.ends.now place end there in
    c.loop-at.invariant place end r (omega (arith, below)) there own
