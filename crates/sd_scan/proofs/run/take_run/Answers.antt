use Rattle.std.proofs.Common.{◌≡◌, ◌+◌, ℕ, List, [], ◌∷◌, ◌++◌, drop, sym, ap, ◌∙◌, subst, arith, rules, refl, Some}
use Rattle.std.specs.Prelude.{IsTrue}
use Rattle.std.proofs.lemmas.Result.{err_from_is_err_and}
use Rattle.sd_scan.specs.Found.{Found}
use Rattle.sd_volume.specs.Image.{Block}
use Rattle.sd_volume.specs.Reader.{IsBlockOf}
use Rattle.sd_volume.proofs.DeviceLemmas.{OnlyReads-trans, OnlyReads-as}
use Rattle.sd_scan.specs.Run.{found_from}
use Rattle.sd_scan.proofs.FaultLemmas.{OnlyReads-scan}
use Rattle.sd_scan.proofs.RunLemmas.{found_more, keeps_more, keeps_none, size_of_block, stand_more, stand_none}
use Rattle.sd_scan.proofs.run.take_run.Goals as goal

pub loop-head-init : goal.loop-head-init
loop-head-init g c = record {
  chain = c.requires.chain;
  name = refl;
  device = search rules;
  from = omega arith;
  end = c.requires.start;
  most = c.requires.first;
  shows = λ honest shows. shows;
  takes = ([], keeps_none c.args.sessions.now, λ honest shows held there. ([], refl, stand_none held.bytes c.args.start c.args.first));
}

pub take_shown-requires-clause-block : goal.take_shown-requires-clause-block
take_shown-requires-clause-block g c = subst (λ (l : List ℕ). IsBlockOf l c.in-Some.head) (sym c.shown.ensures.shown) (rw c.in-Some.is at c.in_ok-head.ensures.block)

pub take_shown-requires-clause-fits : goal.take_shown-requires-clause-fits
take_shown-requires-clause-fits g c =
    let within = rw c.in-Some.is at c.in_ok-head.ensures.within in
    omega (arith, within.1)

pub overflow_add-number : goal.overflow_add-number
overflow_add-number g c = omega (arith, c.loop-head.invariant.most)

pub loop-head-preserved : goal.loop-head-preserved
loop-head-preserved g c =
    let so_far = c.loop-head.invariant in
    let ensures = c.in_ok-head.ensures in
    let volume = (g.D.Driver.meaning c.loop-head.driver).shelf.volume in
    let within = rw c.in-Some.is at ensures.within in
    let block = rw c.in-Some.is at ensures.block in
    let number_is = rw c.in-Some.is at ensures.number in
    let own : Block = record { key = c.in-Some.head.key; body = drop 24 c.shown.result.now } in
    let here : Found = record { volume = c.args.name.now; start = c.loop-head.end; block = own } in
    let size = size_of_block c.shown.result.now c.in-Some.head (subst (λ (l : List ℕ). IsBlockOf l c.in-Some.head) (sym c.shown.ensures.shown) block) in
    record {
      chain = c.pass.ensures ∙ ap (λ n. n + c.in-Some.head.size) so_far.chain;
      name = ensures.name ∙ so_far.name;
      device = OnlyReads-trans _ _ _ _ _ (λ n. n) so_far.device (OnlyReads-as _ _ _ _ (λ f. cc) (λ f. absurd f) ensures.device);
      from = omega (arith, so_far.from);
      end = within.1;
      most = omega (arith, block.image.fits.number_fits, number_is);
      shows = λ honest shows. ensures.shows (subst IsTrue (sym so_far.device.counted.honest) honest) (so_far.shows honest shows);
      takes = (
        so_far.takes.0 ++ here ∷ [],
        λ found keeps. keeps_more found so_far.takes.0 here c.take_shown.new.sessions (c.in_ok-take_shown.ensures (found ++ so_far.takes.0) (so_far.takes.1 found keeps)),
        λ honest shows held there. (
            let there_still : volume c.loop-head.reader.name ≡ Some held = ap volume so_far.name ∙ (so_far.device.same honest _ ∙ there) in
            let stands = rw c.in-Some.is at (ensures.there (subst IsTrue (sym so_far.device.counted.honest) honest) (so_far.shows honest shows) held there_still) in
            let before = so_far.takes.2 honest shows held there in
            let begins = rw (← c.shown.ensures.shown) at stands in (
              before.0 ++ own ∷ [],
              ap (λ (l : List Found). l ++ here ∷ []) before.1
                  ∙ ap (λ (n : ℕ). found_from c.args.name.now c.args.start before.0 ++ record { volume = c.args.name.now; start = n; block = own } ∷ []) before.2.end_is
                  ∙ sym (found_more c.args.name.now c.args.start c.args.first before.0 own),
              stand_more held.bytes c.args.start c.args.first c.loop-head.end c.loop-head.number before.0 own c.in-Some.head.size before.2 begins size,
            )
            ),
      );
    }

pub returns-in_err-head-clause-device : goal.returns-in_err-head-clause-device
returns-in_err-head-clause-device g c =
    let p = err_from_is_err_and c.from_residual.result c.from_residual.ensures.1 in
    rw (p.1, p.2) (OnlyReads-trans _ _ _ _ _ (λ n. n) c.loop-head.invariant.device (OnlyReads-scan {T = _} c.in_err-head.field-0.0 _ _ c.in_err-head.ensures.faults c.in_err-head.ensures.device))

pub returns-in_err-take_shown-clause-device : goal.returns-in_err-take_shown-clause-device
returns-in_err-take_shown-clause-device g c =
    let p = err_from_is_err_and c.from_residual-in_err-take_shown.result c.from_residual-in_err-take_shown.ensures.1 in
    rw (p.1, p.2) (OnlyReads-trans _ _ _ _ _ (λ n. n) c.loop-head.invariant.device (OnlyReads-as _ _ _ _ (λ f. cc) (λ f. cc) c.in_ok-head.ensures.device))

pub returns-clause-device : goal.returns-clause-device
returns-clause-device g c =
    OnlyReads-trans _ _ _ _ _ (λ n. n) c.loop-head.invariant.device (OnlyReads-as _ _ _ _ (λ f. cc) (λ f. cc) c.in_ok-head.ensures.device)

pub returns-clause-takes : goal.returns-clause-takes
returns-clause-takes g c =
    let so_far = c.loop-head.invariant in
    let ensures = c.in_ok-head.ensures in
    let volume = (g.D.Driver.meaning c.loop-head.driver).shelf.volume in (
      so_far.takes.0,
      so_far.takes.1,
      λ honest shows held there size. (
          let there_still : volume c.loop-head.reader.name ≡ Some held = ap volume so_far.name ∙ (so_far.device.same honest _ ∙ there) in
          let none = rw c.in_default.is at (ensures.none (subst IsTrue (sym so_far.device.counted.honest) honest) (so_far.shows honest shows) held there_still size) in
          let before = so_far.takes.2 honest shows held there in
          (before.0, before.1, (c.loop-head.number, before.2, none))
          ),
    )

pub returns-clause-shows : goal.returns-clause-shows
returns-clause-shows g c = λ honest shows.
    let so_far = c.loop-head.invariant in
    c.in_ok-head.ensures.shows (subst IsTrue (sym so_far.device.counted.honest) honest) (so_far.shows honest shows)
