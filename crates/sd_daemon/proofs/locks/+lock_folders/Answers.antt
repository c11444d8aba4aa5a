use Rattle.sd_daemon.proofs.LockLemmas.{locks_more, fault_before, fault_last}
use Rattle.sd_daemon.proofs.locks.+lock_folders.Goals as goal

pub returns-in-Ok-clause-locks : goal.returns-in-Ok-clause-locks
returns-in-Ok-clause-locks t c =
    locks_more c.args.drives.now c.in-Some.front.now c.in-Some.last.now c.in-Ok.locks.items c.with_lock.result
    c.in-Some.ensures.cases.0 c.in-Ok.ensures.locks c.with_lock.ensures.locks

pub returns-in-Ok-clause-fault : goal.returns-in-Ok-clause-fault
returns-in-Ok-clause-fault t c =
    fault_last c.args.drives.now c.in-Some.front.now c.in-Some.last.now c.with_lock.result c.in-Some.ensures.cases.0 c.with_lock.ensures.fault

pub returns-in-Err-clause-fault : goal.returns-in-Err-clause-fault
returns-in-Err-clause-fault t c =
    fault_before c.args.drives.now c.in-Some.front.now c.in-Some.last.now c.in-Err.fault c.in-Some.ensures.cases.0 c.in-Err.ensures.fault
