use Rattle.std.proofs.Common.{◌≡◌, sym, ap, ◌∙◌, subst, refl, inl, arith, Some}
use Rattle.std.specs.Prelude.{IsTrue}
use Rattle.std.proofs.lemmas.Result.{err_from_is_err_and}
use Rattle.sd_volume.proofs.DeviceLemmas.{OnlyReads-trans, OnlyReads-as, OnlyReads-adopting}
use Rattle.sd_volume.proofs.AdoptLemmas.{goes_on, of_this_run}
use Rattle.sd_volume.proofs.NotedLemmas.{ends_with_block}
use Rattle.sd_volume.proofs.survey.find_end.Goals as goal

pub returns-in_err-head-clause-device : goal.returns-in_err-head-clause-device
returns-in_err-head-clause-device g c =
    let p = err_from_is_err_and c.from_residual.result c.from_residual.ensures.1 in
    rw (p.1, p.2) (OnlyReads-trans _ _ _ _ _ (λ n. n) c.loop-head.invariant.device (OnlyReads-adopting c.in_err-head.field-0.0 _ _ c.in_err-head.ensures.faults c.in_err-head.ensures.device))

pub returns-then-head-start_time-clause-device : goal.returns-then-head-start_time-clause-device
returns-then-head-start_time-clause-device g c =
    OnlyReads-trans _ _ _ _ _ (λ n. n) c.loop-head.invariant.device (OnlyReads-as _ _ _ _ (λ f. cc) (λ f. cc) c.in_ok-head.ensures.device)

pub returns-clause-device : goal.returns-clause-device
returns-clause-device g c =
    OnlyReads-trans _ _ _ _ _ (λ n. n) c.loop-head.invariant.device (OnlyReads-as _ _ _ _ (λ f. cc) (λ f. cc) c.in_ok-head.ensures.device)

pub returns-then-head-start_time-clause-this_run : goal.returns-then-head-start_time-clause-this_run
returns-then-head-start_time-clause-this_run g c = λ honest shows held there label goes e.
    let so_far = c.loop-head.invariant in
    let volume = (g.D.Driver.meaning c.loop-head.driver).shelf.volume in
    let there_still : volume c.loop-head.reader.name ≡ Some held = ap volume so_far.name ∙ (so_far.device.same honest _ ∙ there) in
    let stands = rw c.in-Some.is at (c.in_ok-head.ensures.there (subst IsTrue (sym so_far.device.counted.honest) honest) (so_far.shows honest shows) held there_still) in
    of_this_run c.args.start_time held.bytes label c.loop-head.end c.loop-head.next_number c.loop-head.last c.in-Some.head (so_far.goes honest shows held there label goes) stands c.if-head-start_time.true

pub loop-head-preserved : goal.loop-head-preserved
loop-head-preserved g c =
    let so_far = c.loop-head.invariant in
    let ensures = c.in_ok-head.ensures in
    let volume = (g.D.Driver.meaning c.loop-head.driver).shelf.volume in
    let within = rw c.in-Some.is at ensures.within in
    record {
      name = ensures.name ∙ so_far.name;
      device = OnlyReads-trans _ _ _ _ _ (λ n. n) so_far.device (OnlyReads-as _ _ _ _ (λ f. cc) (λ f. absurd f) ensures.device);
      first = omega (arith, so_far.first);
      end = within.1;
      least = omega (arith, so_far.least);
      next = omega (arith, so_far.next, within.0);
      shows = λ honest shows. ensures.shows (subst IsTrue (sym so_far.device.counted.honest) honest) (so_far.shows honest shows);
      goes = λ honest shows held there label goes. (
          let there_still : volume c.loop-head.reader.name ≡ Some held = ap volume so_far.name ∙ (so_far.device.same honest _ ∙ there) in
          let stands = rw c.in-Some.is at (ensures.there (subst IsTrue (sym so_far.device.counted.honest) honest) (so_far.shows honest shows) held there_still) in
          goes_on c.args.start_time held.bytes label c.loop-head.end c.loop-head.next_number c.loop-head.last c.in-Some.head (so_far.goes honest shows held there label goes) stands c.if-head-start_time.false
          );
      stands = λ honest shows held there. (
          let there_still : volume c.loop-head.reader.name ≡ Some held = ap volume so_far.name ∙ (so_far.device.same honest _ ∙ there) in
          let stands = rw c.in-Some.is at (ensures.there (subst IsTrue (sym so_far.device.counted.honest) honest) (so_far.shows honest shows) held there_still) in
          inl (ends_with_block c.args.start_time held.bytes c.loop-head.end c.loop-head.next_number c.in-Some.head _ _ stands c.if-head-start_time.false refl refl)
          );
    }
