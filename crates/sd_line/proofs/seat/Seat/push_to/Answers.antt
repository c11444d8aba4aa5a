use Rattle.std.proofs.Common.{ap, sym, subst, ◌∙◌, ℕ, length, length-append, ◌∷◌, []}
use Rattle.sd_line.specs.Counts.{Counts}
use Rattle.sd_ruled.specs.Seats.{LaneSeatIs}
use Rattle.sd_line.proofs.seat.Seat.push_to.Goals as goal

pub invariant_of-self-2 : goal.invariant_of-self-2
invariant_of-self-2 g c =
    let p = c.self.inside in
    record {
      here = ap (λ (s : LaneSeatIs). s.table) c.in_ok-push.ensures.ok ∙ c.self.invariant.here;
      counted = subst (λ (n : ℕ). Counts c.one_more-self-inside.result n) (sym (ap (λ (s : LaneSeatIs). length s.sent) c.in_ok-push.ensures.ok ∙ length-append p.seat.sent (c.args.piece ∷ [])))
          (c.one_more-self-inside.ensures (length p.seat.sent) c.self.invariant.counted);
    }
