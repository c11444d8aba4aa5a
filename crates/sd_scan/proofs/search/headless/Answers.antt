use Rattle.std.proofs.Common.{◌≡◌, inl, inr, arith}
use Rattle.std.proofs.lemmas.Bool.{cases_lt}
use Rattle.sd_scan.proofs.VolumeLemmas.{head_moved}
use Rattle.sd_scan.proofs.search.headless.Goals as goal

pub loop-at-preserved : goal.loop-at-preserved
loop-at-preserved c = record {
  within = omega (arith, c.loop-at-test.true);
  none = λ at below. elim (cases_lt at c.loop-at.at) [
    | inl before ↦ c.loop-at.invariant.none at before
    | inr past ↦ (
        let same : at ≡ c.loop-at.at = omega (arith, below, past) in (
          omega (arith, c.loop-at-test.true, same),
          λ head is. c.in_default.not-Ok head (c.read_head.ensures.found head (head_moved c.args.bytes.now c.loop-at.at at head same is)),
        )
        )
  ];
}
