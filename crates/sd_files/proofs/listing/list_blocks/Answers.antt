use Rattle.std.proofs.Common.{◌≡◌, [], ◌++◌, sym, ap, ◌∙◌, subst, arith, rules, refl, Some, Err}
use Rattle.std.specs.Prelude.{IsTrue}
use Rattle.std.proofs.lemmas.Result.{err_from_is_err_and}
use Rattle.sd_text.specs.Lines.{line}
use Rattle.sd_volume.proofs.DeviceLemmas.{OnlyReads-trans, OnlyReads-as}
use Rattle.sd_files.specs.Listing.{head_text}
use Rattle.sd_text.specs.Says.{said_view}
use Rattle.sd_text.proofs.SaysLemmas.{says_none, says_then}
use Rattle.sd_files.proofs.ListingLemmas.{fault_is, lines_none, lines_up_to_more, lists_label, lists_more}
use Rattle.sd_files.proofs.listing.list_blocks.Goals as goal

pub loop-head-init : goal.loop-head-init
loop-head-init g c = record {
  name = refl;
  device = search rules;
  first = omega arith;
  end = c.requires.within;
  least = omega arith;
  next = omega (arith, c.requires.least);
  shows = λ honest shows. shows;
  lists = ([], says_none _, lines_none c.args.first, λ honest shows held there label is first begins. lists_label held.bytes label c.args.first is first begins);
}

pub loop-head-preserved : goal.loop-head-preserved
loop-head-preserved g c =
    let so_far = c.loop-head.invariant in
    let ensures = c.in_ok-head.ensures in
    let volume = (g.D.Driver.meaning c.loop-head.driver).shelf.volume in
    let within = rw c.in-Some.is at ensures.within in
    record {
      name = ensures.name ∙ so_far.name;
      device = OnlyReads-trans _ _ _ _ _ (λ n. n) so_far.device (OnlyReads-as _ _ _ _ (λ f. cc) (λ f. absurd f) ensures.device);
      first = omega (arith, so_far.first);
      end = within.1;
      least = omega (arith, so_far.least);
      next = omega (arith, so_far.next, within.0);
      shows = λ honest shows. ensures.shows (subst IsTrue (sym so_far.device.counted.honest) honest) (so_far.shows honest shows);
      lists = (
        so_far.lists.0 ++ line (head_text c.loop-head.end c.in-Some.head),
        says_then _ (said_view g.W.Write.contents c.loop-head.out) _ so_far.lists.0 (line (head_text c.loop-head.end c.in-Some.head)) so_far.lists.1 c.line.ensures.says,
        lines_up_to_more c.args.first c.loop-head.end c.loop-head.number so_far.lists.0 c.in-Some.head so_far.lists.2 within.0 (rw c.in-Some.is at ensures.number),
        λ honest shows held there label is first begins. (
            let there_still : volume c.loop-head.reader.name ≡ Some held = ap volume so_far.name ∙ (so_far.device.same honest _ ∙ there) in
            let stands = rw c.in-Some.is at (ensures.there (subst IsTrue (sym so_far.device.counted.honest) honest) (so_far.shows honest shows) held there_still) in
            let number_is = rw c.in-Some.is at ensures.number in
            lists_more held.bytes label c.loop-head.end c.loop-head.number so_far.lists.0 c.in-Some.head (so_far.lists.3 honest shows held there label is first begins)
            stands number_is
            ),
      );
    }

pub returns-in_err-head-clause-device : goal.returns-in_err-head-clause-device
returns-in_err-head-clause-device g c =
    let p = err_from_is_err_and c.from_residual.result c.from_residual.ensures.1 in
    rw (p.1, p.2) (OnlyReads-trans _ _ _ _ _ (λ n. n) c.loop-head.invariant.device (OnlyReads-as _ _ _ _ (λ f. cc) (λ f. cc) c.in_err-head.ensures.device))

pub returns-in_err-head-clause-lists : goal.returns-in_err-head-clause-lists
returns-in_err-head-clause-lists g c =
    let p = err_from_is_err_and c.from_residual.result c.from_residual.ensures.1 in
    let lists = c.loop-head.invariant.lists in
    rw p.1 (lists.0, lists.1, (lists.2.blocks, lists.2.due_is), λ honest shows held there size label is first begins. (c.loop-head.end, c.loop-head.number, lists.3 honest shows held there label is first begins))

pub returns-in_err-head-clause-not_there : goal.returns-in_err-head-clause-not_there
returns-in_err-head-clause-not_there g c =
    let p = err_from_is_err_and c.from_residual.result c.from_residual.ensures.1 in
    let so_far = c.loop-head.invariant in
    let volume = (g.D.Driver.meaning c.loop-head.driver).shelf.volume in
    rw (p.1, p.2) (λ honest e. sym (so_far.device.same honest _) ∙ ap volume (sym so_far.name) ∙ c.in_err-head.ensures.not_there (subst IsTrue (sym so_far.device.counted.honest) honest) (ap Err (fault_is e)))

pub returns-in_err-head-clause-faults : goal.returns-in_err-head-clause-faults
returns-in_err-head-clause-faults g c =
    let p = err_from_is_err_and c.from_residual.result c.from_residual.ensures.1 in
    rw (p.1, p.2) c.in_err-head.ensures.faults

pub returns-clause-device : goal.returns-clause-device
returns-clause-device g c =
    OnlyReads-trans _ _ _ _ _ (λ n. n) c.loop-head.invariant.device (OnlyReads-as _ _ _ _ (λ f. cc) (λ f. cc) c.in_ok-head.ensures.device)

pub returns-clause-lists : goal.returns-clause-lists
returns-clause-lists g c =
    let so_far = c.loop-head.invariant in
    let ensures = c.in_ok-head.ensures in
    let volume = (g.D.Driver.meaning c.loop-head.driver).shelf.volume in (
      so_far.lists.0,
      so_far.lists.1,
      (so_far.lists.2.blocks, so_far.lists.2.due_is),
      λ honest shows held there size label is first begins. (
          let there_still : volume c.loop-head.reader.name ≡ Some held = ap volume so_far.name ∙ (so_far.device.same honest _ ∙ there) in
          let none = rw c.in_default.is at (ensures.none (subst IsTrue (sym so_far.device.counted.honest) honest) (so_far.shows honest shows) held there_still size) in
          (c.loop-head.number, so_far.lists.3 honest shows held there label is first begins, none)
          ),
    )
