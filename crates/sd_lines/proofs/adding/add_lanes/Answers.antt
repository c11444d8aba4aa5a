use Rattle.std.proofs.Common.{ap, ◌∙◌, slice_get}
use Rattle.sd_lines.proofs.adding.add_lanes.Goals as goal

pub add_drive-requires-clause-new : goal.add_drive-requires-clause-new
add_drive-requires-clause-new g c κs within = λ at e is. c.are_next.ensures.new c.if-not-are_next.false at e (ap (λ l. slice_get l at) c.deref.ensures.value ∙ is)
