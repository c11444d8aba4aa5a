use Rattle.std.proofs.lemmas.Result.{err_from_is_err_and}
use Rattle.sd_volume.proofs.DeviceLemmas.{OnlyReads-trans, OnlyReads-as}
use Rattle.sd_judge.proofs.ReadingLemmas.{OnlyReads-again}
use Rattle.sd_judge.proofs.alone.judge_alone.Goals as goal

pub returns-in_err-has_own_behind-clause-device : goal.returns-in_err-has_own_behind-clause-device
returns-in_err-has_own_behind-clause-device g c =
    let p = err_from_is_err_and c.from_residual-in_err-has_own_behind.result c.from_residual-in_err-has_own_behind.ensures.1 in
    rw (p.1, p.2) (OnlyReads-trans _ _ _ _ _ (λ f. cc) c.in_ok-run.ensures.device (OnlyReads-again {T = _} c.in_err-has_own_behind.field-0.0 _ _ c.in_err-has_own_behind.ensures.device))

pub returns-then-branch-clause-device : goal.returns-then-branch-clause-device
returns-then-branch-clause-device g c =
    OnlyReads-trans _ _ _ _ _ (λ f. cc) c.in_ok-run.ensures.device (OnlyReads-as _ _ _ _ (λ f. cc) (λ f. cc) c.in_ok-has_own_behind.ensures.device)

pub returns-then-branch-clause-judges : goal.returns-then-branch-clause-judges
returns-then-branch-clause-judges g c = λ held at size.
    let now = c.in_ok-run.ensures.at held at in
    let own = c.in_ok-has_own_behind.ensures.own held now size in
    record { next = c.in_ok-run.run'.next; run = c.in_ok-run.ensures.run held at size; own = own.0 c.if-branch.true }

pub returns-else-branch-clause-device : goal.returns-else-branch-clause-device
returns-else-branch-clause-device g c =
    OnlyReads-trans _ _ _ _ _ (λ f. cc) c.in_ok-run.ensures.device (OnlyReads-as _ _ _ _ (λ f. cc) (λ f. cc) c.in_ok-has_own_behind.ensures.device)
