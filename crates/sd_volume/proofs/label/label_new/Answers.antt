use Rattle.std.proofs.Common.{arith}
use Rattle.sd_volume.proofs.ImageLemmas.{length-image}
use Rattle.sd_volume.proofs.label.label_new.Goals as goal

pub invariant_of-result : goal.invariant_of-result
invariant_of-result g c =
    let is = c.in_ok-image.ensures.image in
    let long = length-image c.in_ok-image.image.items _ _ _ is in
    record {
      first_least = omega (arith, long, is.least);
      first_most = omega arith;
      end_most = omega (arith, long, is.most);
      next_least = omega arith;
      next_most = omega (arith, long, is.least);
    }
