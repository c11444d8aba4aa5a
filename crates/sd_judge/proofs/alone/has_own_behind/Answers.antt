use Rattle.std.proofs.Common.{arith, rules, refl}
use Rattle.std.proofs.lemmas.Result.{err_from_is_err_and}
use Rattle.sd_volume.proofs.DeviceLemmas.{OnlyReads-trans, OnlyReads-as}
use Rattle.sd_scan.proofs.RunLemmas.{size_of_block}
use Rattle.sd_judge.proofs.ReadingLemmas.{stays, OnlyReads-again}
use Rattle.sd_judge.proofs.RunLemmas.{none_so_far, none_at_all}
use Rattle.sd_judge.proofs.alone.has_own_behind.Goals as goal

pub loop-whole-init : goal.loop-whole-init
loop-whole-init g c = record {
  device = search rules;
  from = omega arith;
  at = λ held at. at;
  none = λ held at p below own. absurd (omega (arith, below, own.behind));
}

pub loop-whole-preserved : goal.loop-whole-preserved
loop-whole-preserved g c =
    let so_far = c.loop-whole.invariant in
    let ensures = c.in_ok-whole.ensures in
    let within = rw c.in-Some.is at ensures.within in
    record {
      device = OnlyReads-trans _ _ _ _ _ (λ n. n) so_far.device (OnlyReads-as _ _ _ _ (λ f. cc) (λ f. absurd f) ensures.device);
      from = omega (arith, so_far.from, within.0);
      at = λ held at. (let now = so_far.at held at in stays _ held c.loop-whole.reader c.next_whole.new.reader (g.D.Driver.meaning c.loop-whole.driver) (g.D.Driver.meaning c.next_whole.new.driver) now ensures.device ensures.name (ensures.shows now.honest now.shows));
      none = λ held at. (
          let now = so_far.at held at in
          let first = rw c.in-Some.is at (ensures.found now.honest now.shows held now.there) in
          let begins = rw c.in-Some.is at (ensures.there now.honest now.shows held now.there) in
          none_so_far held.bytes c.args.run.end c.args.run.next c.loop-whole.from c.in-Some.whole.at c.in-Some.whole.head _ (so_far.none held at) first.none_before begins
          (λ own. (let so = c.if-is_own.ensures.1 own in absurd cc))
          );
    }

pub returns-in_err-whole-clause-device : goal.returns-in_err-whole-clause-device
returns-in_err-whole-clause-device g c =
    let p = err_from_is_err_and c.from_residual.result c.from_residual.ensures.1 in
    rw (p.1, p.2) (OnlyReads-trans _ _ _ _ _ (λ n. n) c.loop-whole.invariant.device (OnlyReads-again {T = _} c.in_err-whole.field-0.0 _ _ c.in_err-whole.ensures.device))

pub returns-then-is_own-clause-device : goal.returns-then-is_own-clause-device
returns-then-is_own-clause-device g c =
    OnlyReads-trans _ _ _ _ _ (λ n. n) c.loop-whole.invariant.device (OnlyReads-as _ _ _ _ (λ f. cc) (λ f. cc) c.in_ok-whole.ensures.device)

pub returns-then-is_own-clause-own : goal.returns-then-is_own-clause-own
returns-then-is_own-clause-own g c = λ held at size.
    let so_far = c.loop-whole.invariant in
    let ensures = c.in_ok-whole.ensures in
    let now = so_far.at held at in
    let within = rw c.in-Some.is at ensures.within in
    let begins = rw c.in-Some.is at (ensures.there now.honest now.shows held now.there) in
    let block = rw c.in-Some.is at ensures.block in (
      (λ t. (
        c.in-Some.whole.at,
        record {
          head = c.in-Some.whole.head;
          stands = (_, begins, size_of_block _ c.in-Some.whole.head block);
          own = c.if-is_own.ensures.0 refl;
          behind = omega (arith, so_far.from, within.0);
          within = omega (arith, within.1, size);
        },
      )),
      (λ has. search rules),
    )

pub returns-clause-device : goal.returns-clause-device
returns-clause-device g c =
    OnlyReads-trans _ _ _ _ _ (λ n. n) c.loop-whole.invariant.device (OnlyReads-as _ _ _ _ (λ f. cc) (λ f. cc) c.in_ok-whole.ensures.device)

pub returns-clause-own : goal.returns-clause-own
returns-clause-own g c = λ held at size.
    let so_far = c.loop-whole.invariant in
    let now = so_far.at held at in
    let none = rw c.in_default.is at (c.in_ok-whole.ensures.none now.honest now.shows held now.there) in
    ((λ t. absurd (search rules)), (λ has. absurd (none_at_all held.bytes c.args.run.end c.args.run.next c.loop-whole.from c.args.size (so_far.none held at) none size has)))
