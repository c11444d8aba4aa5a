use Rattle.std.proofs.Common.{rules}
use Rattle.sd_core.proofs.TryLemmas.{drained, moved_so_far}
use Rattle.sd_core.proofs.rounds.drain.Goals as goal

pub returns-clause-drains : goal.returns-clause-drains
returns-clause-drains g c =
    drained g.D.Driver.meaning c.args.world.now c.repeat.new.world _ _ c.in_ok-placed.ensures.stops

pub returns-in_err-placed-clause-err : goal.returns-in_err-placed-clause-err
returns-in_err-placed-clause-err g c =
    let moved = moved_so_far g.D.Driver.meaning _ c.args.world.now c.repeat.new.world c.in_err-placed.ensures.err in
    search (rules, moved)
