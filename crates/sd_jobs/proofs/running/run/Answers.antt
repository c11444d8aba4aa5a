use Rattle.std.proofs.Common.{◌≡◌, ◌≤◌, List, Option, subst, take, length}
use Rattle.std.specs.Prelude.{IfSome}
use Rattle.sd_base.specs.Record.{Record}
use Rattle.sd_line.specs.Goes.{GoesOn, StopsShort}
use Rattle.sd_line.specs.declared.stop.Stop.{Stop}
use Rattle.sd_jobs.proofs.EndLemmas.{stopped, done}
use Rattle.sd_line.proofs.GoLemmas.{goes_last}
use Rattle.sd_jobs.proofs.running.run.Goals as goal

pub returns-in-Some : goal.returns-in-Some
returns-in-Some g c =
    let recs = c.job.inside.recs.items in
    let all = c.add_all-taken in
    let p = all.new.part in
    let most = subst (λ (l : List Record). all.result.0 ≤ length l) c.deref.ensures.value all.ensures.most in
    let goes = subst (λ (l : List Record). GoesOn c.job.inside.part (take all.result.0 l) p) c.deref.ensures.value all.ensures.goes_on in
    let short = subst (λ (o : Option Stop). IfSome o (λ stop. StopsShort stop p.session)) c.in-Some.is all.ensures.stopped in
    rw (← c.job.view_is) (rw c.end.ensures (stopped _ all.result.0 p c.in-Some.stop most goes short))

pub returns-in-Ok : goal.returns-in-Ok
returns-in-Ok g c =
    let recs = c.job.inside.recs.items in
    let all = c.add_all-taken in
    let p = all.new.part in
    let q = c.finish.new.part in
    let most = subst (λ (l : List Record). all.result.0 ≤ length l) c.deref.ensures.value all.ensures.most in
    let goes = subst (λ (l : List Record). GoesOn c.job.inside.part (take all.result.0 l) p) c.deref.ensures.value all.ensures.goes_on in
    let every = subst (λ (l : List Record). all.result.0 ≡ length l) c.deref.ensures.value (all.ensures.all c.in-None.is) in
    rw (← c.job.view_is) (rw c.end-in-Ok.ensures
    (done _ all.result.0 q c.in-Ok.receipt most (goes_last c.job.inside.part p q (take all.result.0 recs) goes c.finish.ensures.goes_on) every c.in-Ok.ensures.ok))

pub returns : goal.returns
returns g c =
    let recs = c.job.inside.recs.items in
    let all = c.add_all-taken in
    let p = all.new.part in
    let q = c.finish.new.part in
    let most = subst (λ (l : List Record). all.result.0 ≤ length l) c.deref.ensures.value all.ensures.most in
    let goes = subst (λ (l : List Record). GoesOn c.job.inside.part (take all.result.0 l) p) c.deref.ensures.value all.ensures.goes_on in
    rw (← c.job.view_is) (rw c.end-in-Err.ensures
    (stopped _ all.result.0 q c.in-Err.stop most (goes_last c.job.inside.part p q (take all.result.0 recs) goes c.finish.ensures.goes_on) c.in-Err.ensures.err))
