use Rattle.std.proofs.Common.{◌≤◌, length, ap, rules, arith}
use Rattle.sd_base.specs.Limits.{most_lanes}
use Rattle.sd_tests.proofs.Drives.{all_of_one}
use Rattle.sd_tests.proofs.making.world_of.Goals as goal

pub new-requires-clause-conf : goal.new-requires-clause-conf
new-requires-clause-conf c κs =
    let is = c.requires.drives in
    let count = ap length is.1 in
    record {
      block_least = search rules;
      block_most = search rules;
      volume_least = search rules;
      volume_most = search rules;
      spool_least = search rules;
      spool_most = search rules;
      queue_least = search rules;
      queue_most = search rules;
      drives_least = omega (arith, count);
      drives_most = omega (arith, count);
      lanes_least = all_of_one (λ d. 1 ≤ d.1) c.args.drives.items is.0 is.1 (omega arith);
      lanes_most = all_of_one (λ d. d.1 ≤ most_lanes) c.args.drives.items is.0 is.1 (omega arith);
    }
