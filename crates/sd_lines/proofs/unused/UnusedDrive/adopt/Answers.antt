use Rattle.sd_lines.proofs.UnusedLemmas.{due_not}
use Rattle.sd_lines.proofs.unused.UnusedDrive.adopt.Goals as goal

pub returns-in-Some-clause-due : goal.returns-in-Some-clause-due
returns-in-Some-clause-due g c =
    rw (← c.self.view_is) (λ honest none. c.adopt_noted.ensures.due honest (due_not c.self.inside.drive c.args.name.now none c.self.invariant.loaded))

pub returns-in-Some-clause-same : goal.returns-in-Some-clause-same
returns-in-Some-clause-same g c = rw (← c.self.view_is) c.adopt_noted.ensures.same

pub returns-in-Some-clause-whole_blocks : goal.returns-in-Some-clause-whole_blocks
returns-in-Some-clause-whole_blocks g c = rw (← c.self.view_is) c.adopt_noted.ensures.whole_blocks

pub returns-in-Some-clause-refused_last : goal.returns-in-Some-clause-refused_last
returns-in-Some-clause-refused_last g c = rw (← c.self.view_is) c.adopt_noted.ensures.refused_last

pub returns-in-None-clause-whole_blocks : goal.returns-in-None-clause-whole_blocks
returns-in-None-clause-whole_blocks g c = rw (← c.self.view_is) c.adopt.ensures.whole_blocks

pub returns-in-None-clause-refused_last : goal.returns-in-None-clause-refused_last
returns-in-None-clause-refused_last g c = rw (← c.self.view_is) c.adopt.ensures.refused_last
