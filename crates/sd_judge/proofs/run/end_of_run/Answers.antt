use Rattle.std.proofs.Common.{[], ◌∷◌, ◌++◌, arith, rules, refl, ◌∙◌}
use Rattle.std.proofs.lemmas.Result.{err_from_is_err_and}
use Rattle.sd_volume.specs.Image.{Block}
use Rattle.sd_volume.proofs.DeviceLemmas.{OnlyReads-trans, OnlyReads-as}
use Rattle.sd_scan.proofs.RunLemmas.{stand_more, stand_none}
use Rattle.sd_judge.proofs.ReadingLemmas.{stays, OnlyReads-again}
use Rattle.sd_judge.proofs.run.end_of_run.Goals as goal

pub loop-head-init : goal.loop-head-init
loop-head-init g c = record {
  name = refl;
  device = search rules;
  from = omega arith;
  end = c.requires.start;
  most = c.requires.number;
  at = λ held at. at;
  stands = λ held at. ([], stand_none held.bytes c.args.start c.args.number);
}

pub loop-head-preserved : goal.loop-head-preserved
loop-head-preserved g c =
    let so_far = c.loop-head.invariant in
    let ensures = c.in_ok-head.ensures in
    let within = rw c.in-Some.is at ensures.within in
    let number_is = rw c.in-Some.is at ensures.number in
    record {
      name = ensures.name ∙ so_far.name;
      device = OnlyReads-trans _ _ _ _ _ (λ n. n) so_far.device (OnlyReads-as _ _ _ _ (λ f. cc) (λ f. absurd f) ensures.device);
      from = omega (arith, so_far.from);
      end = within.1;
      most = omega (arith, number_is);
      at = λ held at. (let now = so_far.at held at in stays _ held c.loop-head.reader c.numbered_block.new.reader (g.D.Driver.meaning c.loop-head.driver) (g.D.Driver.meaning c.numbered_block.new.driver) now ensures.device ensures.name (ensures.shows now.honest now.shows));
      stands = λ held at. (
          let now = so_far.at held at in
          let before = so_far.stands held at in
          let there = rw c.in-Some.is at (ensures.there now.honest now.shows held now.there) in
          let own : Block = record { key = c.in-Some.head.key; body = there.0 } in (
            before.0 ++ own ∷ [],
            stand_more held.bytes c.args.start c.args.number c.loop-head.end c.loop-head.next before.0 own c.in-Some.head.size before.1 there.1 there.2,
          )
          );
    }

pub returns-in_err-head-clause-device : goal.returns-in_err-head-clause-device
returns-in_err-head-clause-device g c =
    let p = err_from_is_err_and c.from_residual.result c.from_residual.ensures.1 in
    rw (p.1, p.2) (OnlyReads-trans _ _ _ _ _ (λ n. n) c.loop-head.invariant.device (OnlyReads-again {T = _} c.in_err-head.field-0.0 _ _ c.in_err-head.ensures.device))

pub returns-clause-device : goal.returns-clause-device
returns-clause-device g c =
    OnlyReads-trans _ _ _ _ _ (λ n. n) c.loop-head.invariant.device (OnlyReads-as _ _ _ _ (λ f. cc) (λ f. cc) c.in_ok-head.ensures.device)

pub returns-clause-run : goal.returns-clause-run
returns-clause-run g c = λ held at size.
    let ensures = c.in_ok-head.ensures in
    let now = c.loop-head.invariant.at held at in
    let before = c.loop-head.invariant.stands held at in
    let none = rw c.in_default.is at (ensures.none now.honest now.shows held now.there size) in
    (before.0, before.1, none)
