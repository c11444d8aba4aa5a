use Rattle.std.proofs.Common.{sym, subst, rules}
use Rattle.std.specs.Int.{w64}
use Rattle.std.specs.Prelude.{FitsSigned}
use Rattle.std.proofs.lemmas.Int.{to_z-of_z}
use Rattle.sd_base.specs.Name.{IsName}
use Rattle.sd_session.proofs.session.end_label.Goals as goal

-- what the types of the job, the copied names and the totals say of their values
pub returns-clause-is_label : goal.returns-clause-is_label
returns-clause-is_label c =
    let job = c.well_formed.0.1.0.1 in
    let pool = c.copy.type_inv.1.0.1 in
    let media = c.copy-2.type_inv.1.0.1 in
    let totals = c.well_formed.1.1.1.1.0.1.1 in
    let fits : FitsSigned w64 c.args.moment = search rules in
    record {
      job_least = job.0;
      job_most = job.1;
      pool = subst IsName pool.0 pool.1;
      media = subst IsName media.0 media.1;
      moment = subst (FitsSigned w64) (sym (to_z-of_z w64 c.args.moment fits)) fits;
      totals = record { records = totals.0.1; bytes = totals.1.0.1 };
    }
