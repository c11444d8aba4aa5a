use Rattle.std.proofs.Common.{ap, ◌∙◌}
use Rattle.sd_text.specs.Says.{said_view}
use Rattle.sd_text.proofs.SaysLemmas.{says_then, says_then_nothing}
use Rattle.sd_files.specs.Status.{status_of}
use Rattle.sd_files.proofs.status.list_on.Goals as goal

pub returns : goal.returns
returns g c =
    let lists = c.list-listed.ensures.lists in
    record {
      result = c.list-listed.result;
      due = lists.0;
      device = c.list-listed.ensures.device;
      form = lists.2;
      lists = lists.3;
      prints = says_then_nothing _ (said_view g.W.Write.contents c.print_fault.new.out) _ _ (says_then _ (said_view g.W.Write.contents c.list-listed.new.out) _ lists.0 _ lists.1 c.print_fault.ensures) c.flush.ensures;
      status_is = c.status_of.ensures ∙ ap (status_of c.list-listed.result) c.failed.ensures;
    }
