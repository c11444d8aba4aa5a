use Rattle.std.proofs.Common.{ap, ◌∙◌}
use Rattle.sd_text.specs.Says.{said_view}
use Rattle.sd_text.proofs.SaysLemmas.{says_then_nothing}
use Rattle.sd_conf.specs.Check.{status_of}
use Rattle.sd_conf.proofs.check.check_conf.Goals as goal

pub returns-clause-checked : goal.returns-clause-checked
returns-clause-checked g c = record {
  reads = c.read_input-conf.ensures;
  prints = says_then_nothing _ (said_view g.W.Write.contents c.print_checked.new.out) _ _ c.print_checked.ensures c.flush.ensures;
  status_is = c.status_of-status.ensures ∙ ap (status_of c.read_input-conf.result) c.failed.ensures;
}

pub returns-clause-place : goal.returns-clause-place
returns-clause-place g c = says_then_nothing _ (said_view g.E.Write.contents c.print_checked_place.new.errors) _ _ c.print_checked_place.ensures c.flush-2.ensures
