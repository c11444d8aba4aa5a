use Rattle.std.proofs.Common.{◌≡◌, ◌+◌, drop, take, ap, sym, ◌∙◌, subst, arith, rules, refl, Some}
use Rattle.std.specs.Prelude.{IsTrue}
use Rattle.std.proofs.lemmas.Result.{err_from_is_err_and}
use Rattle.sd_base.specs.Limits.{most_block}
use Rattle.sd_volume.proofs.DeviceLemmas.{OnlyReads-trans, OnlyReads-as}
use Rattle.sd_volume.proofs.AdoptLemmas.{shown_stands}
use Rattle.sd_scan.specs.Run.{NoneBetween}
use Rattle.sd_scan.proofs.RunLemmas.{shown_begins}
use Rattle.sd_scan.proofs.VolumeLemmas.{between_headless, between_less, between_more, between_start, first_whole}
use Rattle.sd_scan.proofs.search.next_whole.Goals as goal

pub loop-at-init : goal.loop-at-init
loop-at-init g c = record {
  name = refl;
  device = search rules;
  from = omega arith;
  shows = λ honest shows. shows;
  none = λ honest shows held there. between_start held.bytes c.args.from;
}

pub returns-in_err-fill-clause-device : goal.returns-in_err-fill-clause-device
returns-in_err-fill-clause-device g c =
    let p = err_from_is_err_and c.from_residual.result c.from_residual.ensures.1 in
    rw (p.1, p.2) (OnlyReads-trans _ _ _ _ _ (λ n. n) c.loop-at.invariant.device (OnlyReads-as _ _ _ _ (λ f. cc) (λ f. cc) c.in_err-fill.ensures.device))

pub returns-in_err-fill-clause-faults : goal.returns-in_err-fill-clause-faults
returns-in_err-fill-clause-faults g c =
    let p = err_from_is_err_and c.from_residual.result c.from_residual.ensures.1 in
    rw (p.1, p.2) c.in_err-fill.ensures.faults

pub returns-then-at-size-clause-device : goal.returns-then-at-size-clause-device
returns-then-at-size-clause-device g c =
    OnlyReads-trans _ _ _ _ _ (λ n. n) c.loop-at.invariant.device (OnlyReads-as _ _ _ _ (λ f. cc) (λ f. cc) c.in_ok-fill.ensures.device)

pub returns-in_err-head-clause-device : goal.returns-in_err-head-clause-device
returns-in_err-head-clause-device g c =
    let p = err_from_is_err_and c.from_residual-in_err-head.result c.from_residual-in_err-head.ensures.1 in
    rw (p.1, p.2) (OnlyReads-trans _ _ _ (g.D.Driver.meaning c.fill.new.driver) _ (λ n. n)
    (OnlyReads-trans _ _ _ _ _ (λ n. n) c.loop-at.invariant.device (OnlyReads-as _ _ _ _ (λ f. cc) (λ f. absurd f) c.in_ok-fill.ensures.device))
    (OnlyReads-as _ _ _ _ (λ f. cc) (λ f. cc) c.in_err-head.ensures.device))

pub returns-in-Some-clause-device : goal.returns-in-Some-clause-device
returns-in-Some-clause-device g c =
    OnlyReads-trans _ _ _ (g.D.Driver.meaning c.fill.new.driver) _ (λ n. n)
    (OnlyReads-trans _ _ _ _ _ (λ n. n) c.loop-at.invariant.device (OnlyReads-as _ _ _ _ (λ f. cc) (λ f. absurd f) c.in_ok-fill.ensures.device))
    (OnlyReads-as _ _ _ _ (λ f. cc) (λ f. cc) c.in_ok-head.ensures.device)

pub returns-then-at-size-clause-none : goal.returns-then-at-size-clause-none
returns-then-at-size-clause-none g c = λ honest shows held there.
    let so_far = c.loop-at.invariant in
    let fill = c.in_ok-fill.ensures in
    let volume_0 = (g.D.Driver.meaning c.loop-at.driver).shelf.volume in
    let volume_1 = (g.D.Driver.meaning c.fill.new.driver).shelf.volume in
    let honest_1 = subst IsTrue (sym so_far.device.counted.honest) honest in
    let shows_1 = so_far.shows honest shows in
    let there_1 : volume_0 c.loop-at.reader.name ≡ Some held = ap volume_0 so_far.name ∙ (so_far.device.same honest _ ∙ there) in
    let there_2 : volume_1 c.fill.new.self.name ≡ Some held = ap volume_1 fill.name ∙ (fill.device.same honest_1 _ ∙ there_1) in
    let shown : c.shown.result.now ≡ take most_block (drop c.loop-at.at held.bytes) = c.shown.ensures.shown ∙ fill.shown honest_1 shows_1 held there_2 in
    let far = between_headless held.bytes c.shown.result.now c.args.from c.loop-at.at c.headless.result shown c.headless.ensures.none (so_far.none honest shows held there) in
    let none : NoneBetween held.bytes c.args.from c.saturating_add-at.result =
    between_less held.bytes c.args.from (c.loop-at.at + c.headless.result) c.saturating_add-at.result (omega (arith, c.saturating_add-at.ensures)) far in
    between_less held.bytes c.args.from c.saturating_add-at.result c.args.size c.if-at-size.true none

pub returns-in-Some-clause-found : goal.returns-in-Some-clause-found
returns-in-Some-clause-found g c = λ honest shows held there.
    let so_far = c.loop-at.invariant in
    let fill = c.in_ok-fill.ensures in
    let volume_0 = (g.D.Driver.meaning c.loop-at.driver).shelf.volume in
    let volume_1 = (g.D.Driver.meaning c.fill.new.driver).shelf.volume in
    let honest_1 = subst IsTrue (sym so_far.device.counted.honest) honest in
    let shows_1 = so_far.shows honest shows in
    let there_1 : volume_0 c.loop-at.reader.name ≡ Some held = ap volume_0 so_far.name ∙ (so_far.device.same honest _ ∙ there) in
    let there_2 : volume_1 c.fill.new.self.name ≡ Some held = ap volume_1 fill.name ∙ (fill.device.same honest_1 _ ∙ there_1) in
    let shown : c.shown.result.now ≡ take most_block (drop c.loop-at.at held.bytes) = c.shown.ensures.shown ∙ fill.shown honest_1 shows_1 held there_2 in
    let far = between_headless held.bytes c.shown.result.now c.args.from c.loop-at.at c.headless.result shown c.headless.ensures.none (so_far.none honest shows held there) in
    let none : NoneBetween held.bytes c.args.from c.saturating_add-at.result =
    between_less held.bytes c.args.from (c.loop-at.at + c.headless.result) c.saturating_add-at.result (omega (arith, c.saturating_add-at.ensures)) far in
    let next = c.in_ok-head.ensures in
    let volume_2 = (g.D.Driver.meaning c.next_block.new.driver).shelf.volume in
    let honest_2 = subst IsTrue (sym fill.device.counted.honest) honest_1 in
    let shows_2 = fill.shows honest_1 shows_1 in
    let there_3 : volume_2 c.next_block.new.reader.name ≡ Some held = ap volume_2 next.name ∙ (next.device.same honest_2 _ ∙ there_2) in
    let block = rw c.in-Some.is at next.block in
    let part = (rw c.in-Some.is at (next.there honest_2 shows_2)) held there_3 in
    let stands = shown_stands held.bytes c.next_block.new.reader.shown c.saturating_add-at.result c.in-Some.head part block in
    first_whole held.bytes c.args.from c.saturating_add-at.result c.in-Some.head (omega (arith, so_far.from, c.saturating_add-at.ensures, c.loop-at-test.true)) stands none

pub returns-in-Some-clause-block : goal.returns-in-Some-clause-block
returns-in-Some-clause-block g c = rw c.in-Some.is at c.in_ok-head.ensures.block

pub returns-in-Some-clause-there : goal.returns-in-Some-clause-there
returns-in-Some-clause-there g c = λ honest shows held there.
    let so_far = c.loop-at.invariant in
    let fill = c.in_ok-fill.ensures in
    let volume_0 = (g.D.Driver.meaning c.loop-at.driver).shelf.volume in
    let volume_1 = (g.D.Driver.meaning c.fill.new.driver).shelf.volume in
    let honest_1 = subst IsTrue (sym so_far.device.counted.honest) honest in
    let honest_2 = subst IsTrue (sym fill.device.counted.honest) honest_1 in
    let there_1 : volume_0 c.loop-at.reader.name ≡ Some held = ap volume_0 so_far.name ∙ (so_far.device.same honest _ ∙ there) in
    let there_2 : volume_1 c.fill.new.self.name ≡ Some held = ap volume_1 fill.name ∙ (fill.device.same honest_1 _ ∙ there_1) in
    let next = c.in_ok-head.ensures in
    let volume_2 = (g.D.Driver.meaning c.next_block.new.driver).shelf.volume in
    let there_3 : volume_2 c.next_block.new.reader.name ≡ Some held = ap volume_2 next.name ∙ (next.device.same honest_2 _ ∙ there_2) in
    let part = (rw c.in-Some.is at (next.there honest_2 (fill.shows honest_1 (so_far.shows honest shows)))) held there_3 in
    shown_begins (drop c.saturating_add-at.result held.bytes) c.next_block.new.reader.shown c.in-Some.head part (rw c.in-Some.is at next.block)

pub loop-at-preserved : goal.loop-at-preserved
loop-at-preserved g c = record {
  name = c.in_ok-head.ensures.name ∙ c.in_ok-fill.ensures.name ∙ c.loop-at.invariant.name;
  device = OnlyReads-trans _ _ _ (g.D.Driver.meaning c.fill.new.driver) _ (λ n. n)
      (OnlyReads-trans _ _ _ _ _ (λ n. n) c.loop-at.invariant.device (OnlyReads-as _ _ _ _ (λ f. cc) (λ f. absurd f) c.in_ok-fill.ensures.device))
      (OnlyReads-as _ _ _ _ (λ f. cc) (λ f. absurd f) c.in_ok-head.ensures.device);
  from = omega (arith, c.loop-at.invariant.from, c.saturating_add-at.ensures, c.loop-at-test.true);
  shows = λ honest shows.
      let honest_1 = subst IsTrue (sym c.loop-at.invariant.device.counted.honest) honest in
      let honest_2 = subst IsTrue (sym c.in_ok-fill.ensures.device.counted.honest) honest_1 in
      c.in_ok-head.ensures.shows honest_2 (c.in_ok-fill.ensures.shows honest_1 (c.loop-at.invariant.shows honest shows));
  none = λ honest shows held there.
      let so_far = c.loop-at.invariant in
      let fill = c.in_ok-fill.ensures in
      let volume_0 = (g.D.Driver.meaning c.loop-at.driver).shelf.volume in
      let volume_1 = (g.D.Driver.meaning c.fill.new.driver).shelf.volume in
      let honest_1 = subst IsTrue (sym so_far.device.counted.honest) honest in
      let shows_1 = so_far.shows honest shows in
      let there_1 : volume_0 c.loop-at.reader.name ≡ Some held = ap volume_0 so_far.name ∙ (so_far.device.same honest _ ∙ there) in
      let there_2 : volume_1 c.fill.new.self.name ≡ Some held = ap volume_1 fill.name ∙ (fill.device.same honest_1 _ ∙ there_1) in
      let shown : c.shown.result.now ≡ take most_block (drop c.loop-at.at held.bytes) = c.shown.ensures.shown ∙ fill.shown honest_1 shows_1 held there_2 in
      let far = between_headless held.bytes c.shown.result.now c.args.from c.loop-at.at c.headless.result shown c.headless.ensures.none (so_far.none honest shows held there) in
      let none : NoneBetween held.bytes c.args.from c.saturating_add-at.result =
      between_less held.bytes c.args.from (c.loop-at.at + c.headless.result) c.saturating_add-at.result (omega (arith, c.saturating_add-at.ensures)) far in
      let next = c.in_ok-head.ensures in
      let volume_2 = (g.D.Driver.meaning c.next_block.new.driver).shelf.volume in
      let honest_2 = subst IsTrue (sym fill.device.counted.honest) honest_1 in
      let shows_2 = fill.shows honest_1 shows_1 in
      between_more held.bytes c.args.from c.saturating_add-at.result none ((rw c.in_default.is at (next.none honest_2 shows_2)) held there_2);
}
