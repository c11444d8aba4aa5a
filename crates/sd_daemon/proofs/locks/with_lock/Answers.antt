use Rattle.std.proofs.Common.{ℕ, List, subst}
use Rattle.std.proofs.lemmas.Result.{err_from_is_err_and}
use Rattle.sd_daemon.specs.Locks.{IsFaultAt, IsLockAt}
use Rattle.sd_daemon.proofs.locks.with_lock.Goals as goal

pub returns-in_err-lock-clause-fault : goal.returns-in_err-lock-clause-fault
returns-in_err-lock-clause-fault c =
    let p = err_from_is_err_and c.from_residual.result c.from_residual.ensures.1 in
    rw (p.1, p.2) (subst (λ (folder : List ℕ). IsFaultAt folder c.in_err-lock.field-0.0) c.as_str.ensures c.in_err-lock.ensures.fault)

pub returns-clause-locks : goal.returns-clause-locks
returns-clause-locks c =
    (c.in_ok-lock.lock, c.in-Ok.ensures.items, subst (λ (folder : List ℕ). IsLockAt folder c.in_ok-lock.lock) c.as_str.ensures c.in_ok-lock.ensures.lock)
