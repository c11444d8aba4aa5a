use Rattle.std.proofs.Common.{ap, ◌∙◌}
use Rattle.sd_text.specs.Says.{said_view}
use Rattle.sd_text.proofs.SaysLemmas.{says_then_nothing}
use Rattle.sd_daemon.specs.Serve.{status_of}
use Rattle.sd_daemon.proofs.conf_file.serve_file.Goals as goal

pub returns : goal.returns
returns g c = record {
  outcome = c.outcome_of-outcome.result;
  comes = c.outcome_of-outcome.ensures;
  prints = says_then_nothing _ (said_view g.W.Write.contents c.print_outcome.new.out) _ _ c.print_outcome.ensures c.flush.ensures;
  status_is = c.status_of.ensures ∙ ap (status_of c.outcome_of-outcome.result) c.failed.ensures;
}
