use Rattle.std.proofs.Common.{◌≤◌, ℕ, List, codes, length, ap, rules, arith}
use Rattle.sd_base.specs.Limits.{most_lanes}
use Rattle.sd_trials.proofs.WorldLemmas.{all_of_one}
use Rattle.sd_trials.proofs.worlds.settings.Goals as goal

pub returns-clause-conf : goal.returns-clause-conf
returns-clause-conf c =
    let is = c.requires in
    let count = ap length is in
    record {
      block_least = search rules;
      block_most = search rules;
      volume_least = search rules;
      volume_most = search rules;
      spool_least = search rules;
      spool_most = search rules;
      queue_least = search rules;
      queue_most = search rules;
      drives_least = omega (arith, count);
      drives_most = omega (arith, count);
      lanes_least = all_of_one (λ (d : List ℕ × ℕ). 1 ≤ d.1) c.args.drives.items (codes "File", 4) is (omega arith);
      lanes_most = all_of_one (λ (d : List ℕ × ℕ). d.1 ≤ most_lanes) c.args.drives.items (codes "File", 4) is (omega arith);
    }
