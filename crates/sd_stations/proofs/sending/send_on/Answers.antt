use Rattle.std.proofs.Common.{◌≡◌, rules}
use Rattle.std.specs.Prelude.{Err}
use Rattle.sd_base.specs.declared.refusal.Refusal.TheVariants.{SpoolFault}
use Rattle.sd_stations.proofs.SendLemmas.{refused_then}
use Rattle.sd_stations.proofs.sending.send_on.Goals as goal

pub returns-in_err-stepped-clause-err : goal.returns-in_err-stepped-clause-err
returns-in_err-stepped-clause-err g c =
    let answer : c.from_residual.result ≡ Err c.in_err-stepped.field-0.0 = search rules in
    rw answer (refused_then SpoolFault c.args.part.now.session _ c.step.new.part.session c.in_err-stepped.field-0.0 c.loop-tried.invariant.sends c.in_err-stepped.ensures.err)
