use Rattle.std.proofs.Common.{ap, ◌∙◌}
use Rattle.sd_base.specs.Record.{Record}
use Rattle.sd_text.specs.Says.{said_view}
use Rattle.sd_files.proofs.ExtractLemmas.{record_says}
use Rattle.sd_salvage.proofs.printer.print_record.Goals as goal

pub returns : goal.returns
returns g c =
    record_says (said_view g.W.Write.contents c.args.out.now) (said_view g.W.Write.contents c.line.new.self) (said_view g.W.Write.contents c.bytes.new.self)
    (said_view g.W.Write.contents c.bytes-2.new.self) c.args.rec.now c.rec.inside.index c.rec.inside.stream c.as_slice-bytes.result.now (ap (λ (r : Record). r.index) c.rec.view_is)
    (ap (λ (r : Record). r.stream) c.rec.view_is) (c.as_slice-bytes.ensures ∙ ap (λ (r : Record). r.bytes) c.rec.view_is) c.line.ensures.says c.bytes.ensures.says c.bytes-2.ensures.says
