use Rattle.sd_lines.proofs.ConsoleLemmas.{spans_told}
use Rattle.sd_lines.proofs.console.tell_spans.Goals as goal

pub returns-in-Ok : goal.returns-in-Ok
returns-in-Ok g c =
    spans_told c.args.ticket (record { time = c.args.hub.now.time; id = c.get.result }) c.in-Ok.spans c.in-Ok.ensures.0 c.tell.result c.get.ensures.value c.in-Ok.ensures.1 c.tell.ensures
