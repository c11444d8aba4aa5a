use Rattle.std.proofs.Common.{rules}
use Rattle.sd_daemon.proofs.StartLemmas.{adopts_first, adopts_last}
use Rattle.sd_daemon.proofs.adopting.+adopt_own.Goals as goal

pub returns-in_err-adopt_own-clause-adopts : goal.returns-in_err-adopt_own-clause-adopts
returns-in_err-adopt_own-clause-adopts g t c =
    adopts_first c.args.at c.args.planned.now c.in-Some.front.now c.in-Some.last.now c.args.drive.now c.adopt_own.new.drive c.in-Some.ensures.cases.0 c.adopt_own.ensures.adopts

pub returns-then-last-at-clause-adopts : goal.returns-then-last-at-clause-adopts
returns-then-last-at-clause-adopts g t c =
    adopts_first c.args.at c.args.planned.now c.in-Some.front.now c.in-Some.last.now c.args.drive.now c.adopt_own.new.drive c.in-Some.ensures.cases.0 c.adopt_own.ensures.adopts

pub returns-clause-adopts : goal.returns-clause-adopts
returns-clause-adopts g t c =
    adopts_last c.args.at c.args.planned.now c.in-Some.front.now c.in-Some.last.now c.args.drive.now c.adopt_own.new.drive c.adopt_one.new.drive
    c.in-Some.ensures.cases.0 (search rules) c.adopt_own.ensures.adopts c.adopt_one.ensures.adopts
