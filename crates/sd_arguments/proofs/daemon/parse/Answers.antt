use Rattle.std.proofs.Common.{inl, inr, refl, subst, sym, true≢false}
use Rattle.clap.specs.Matches.{found_of}
use Rattle.clap.specs.Values.{kind_of}
use Rattle.clap.specs.Walk.{rows_of}
use Rattle.clap.proofs.TakesLemmas.{passed_up}
use Rattle.sd_arguments.specs.Daemon.{Misuses, daemon_line}
use Rattle.sd_arguments.proofs.LineLemmas.{exit_with, parsed, refused_by}
use Rattle.sd_arguments.proofs.DaemonLemmas.{asks_check, asks_serve, conf_is_given, daemon_is, misuses_serve}
use Rattle.sd_arguments.proofs.daemon.parse.Goals as goal

pub returns-in_err-command-clause-err : goal.returns-in_err-command-clause-err
returns-in_err-command-clause-err c = exit_with c.from_residual.result _ _ c.from_residual.ensures.1 (λ e is. inl (inl is))

pub returns-in_err-matches-clause-err : goal.returns-in_err-matches-clause-err
returns-in_err-matches-clause-err c = passed_up c.from_residual-in_err-matches.result c.in_err-matches.field-0.0 _ c.from_residual-in_err-matches.ensures.1
    (inl (refused_by daemon_line _ _ c.in_err-matches.field-0.0 daemon_is c.in_ok-command.ensures c.in_err-matches.ensures.kinds))

pub returns-in-Ok-clause-ok : goal.returns-in-Ok-clause-ok
returns-in-Ok-clause-ok c =
    asks_serve _ c.in_ok-matches.matches (parsed daemon_line _ _ c.in_ok-matches.matches daemon_is c.in_ok-command.ensures c.in_ok-matches.ensures.kinds c.in_ok-matches.ensures.matches)
    _ _ (c.in-Some.ensures.found.0 refl) c.in-Some.ensures.rows c.in-Ok.ensures.ok

pub asked_of-requires : goal.asked_of-requires
asked_of-requires c =
    conf_is_given _ c.in_ok-matches.matches (parsed daemon_line _ _ c.in_ok-matches.matches daemon_is c.in_ok-command.ensures c.in_ok-matches.ensures.kinds c.in_ok-matches.ensures.matches)
    _ (c.in-Some.ensures.found.0 refl) c.in-Some.ensures.rows

pub returns-in_default-clause-ok : goal.returns-in_default-clause-ok
returns-in_default-clause-ok c = asks_check _ c.in_ok-matches.matches (parsed daemon_line _ _ c.in_ok-matches.matches daemon_is c.in_ok-command.ensures c.in_ok-matches.ensures.kinds c.in_ok-matches.ensures.matches)
    (λ e. true≢false (sym (c.in_default.ensures.found.1 e)))

pub returns-clause-err : goal.returns-clause-err
returns-clause-err c = inr (misuses_serve _ c.in_ok-matches.matches (parsed daemon_line _ _ c.in_ok-matches.matches daemon_is c.in_ok-command.ensures c.in_ok-matches.ensures.kinds c.in_ok-matches.ensures.matches)
    (rows_of (found_of c.in-Some.given.now)) (kind_of c.in_ok-misuse_error-in-Err.field-0) (c.in-Some.ensures.found.0 refl) c.in-Some.ensures.rows
    (subst (Misuses (rows_of (found_of c.in-Some.given.now))) (sym c.in_ok-misuse_error-in-Err.ensures) c.in-Err.ensures.err))
