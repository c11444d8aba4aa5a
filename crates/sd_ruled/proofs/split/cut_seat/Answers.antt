use Rattle.std.proofs.Common.{arith}
use Rattle.sd_ruled.proofs.Steps.{cuts}
use Rattle.sd_ruled.proofs.split.cut_seat.Goals as goal

pub another-requires-clause-rule : goal.another-requires-clause-rule
another-requires-clause-rule c = cuts _ _ c.requires.pass.1 (omega (arith, c.requires.pass.2, c.requires.lanes.0))
