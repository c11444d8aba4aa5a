use Rattle.std.proofs.Common.{ap, suc, ◌∙◌, slice_get}
use Rattle.sd_lines.proofs.unused.ends_of.Goals as goal

pub new-requires-after_bounds : goal.new-requires-after_bounds
new-requires-after_bounds g c κs within = c.loop-seat.invariant.each 0 c.in-Some.seat (ap (λ l. slice_get l 0) c.in-Some.ensures.steps.0)

pub loop-seat-preserved : goal.loop-seat-preserved
loop-seat-preserved g c = record {
  can = tt;
  finite = tt;
  each = λ k seat is. c.loop-seat.invariant.each (suc k) seat (ap (λ l. slice_get l (suc k)) c.in-Some.ensures.steps.0 ∙ is);
}
