use Rattle.std.proofs.Common.{◌≡◌, inl, rules}
use Rattle.std.specs.Prelude.{Err}
use Rattle.sd_base.specs.declared.refusal.Refusal.TheVariants.{SpoolFault}
use Rattle.sd_stations.proofs.SendLemmas.{refused_then}
use Rattle.sd_stations.proofs.sending.send_rest.Goals as goal

pub returns-in_err-moves-clause-err : goal.returns-in_err-moves-clause-err
returns-in_err-moves-clause-err g c =
    let answer : c.from_residual.result ≡ Err c.in_err-moves.field-0.0 = search rules in
    rw answer (inl (refused_then SpoolFault c.args.part.now.session _ c.send_on.new.part.session c.in_err-moves.field-0.0 c.loop-step.invariant.sends c.in_err-moves.ensures.err))
