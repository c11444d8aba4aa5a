use Rattle.std.proofs.Common.{ap, ◌∙◌}
use Rattle.sd_base.specs.Record.{Record}
use Rattle.sd_text.specs.Says.{said_view}
use Rattle.sd_tool.proofs.TranscriptLemmas.{says_record}
use Rattle.sd_tool.proofs.record.print_record.Goals as goal

pub returns : goal.returns
returns g c =
    says_record c.args.rec.now c.rec.inside.index c.rec.inside.stream c.as_slice-bytes.result.now (said_view g.W.Write.contents c.args.out.now) (said_view g.W.Write.contents c.bytes.new.self)
    (said_view g.W.Write.contents c.print_number.new.out) (said_view g.W.Write.contents c.bytes-2.new.self) (said_view g.W.Write.contents c.print_number-2.new.out)
    (said_view g.W.Write.contents c.bytes-3.new.self) (said_view g.W.Write.contents c.print_number-3.new.out) (said_view g.W.Write.contents c.bytes-4.new.self)
    (said_view g.W.Write.contents c.print_shown.new.out) (said_view g.W.Write.contents c.bytes-5.new.self)
    (ap (λ (r : Record). r.index) c.rec.view_is) (ap (λ (r : Record). r.stream) c.rec.view_is) (c.as_slice-bytes.ensures ∙ ap (λ (r : Record). r.bytes) c.rec.view_is)
    c.bytes.ensures.says c.print_number.ensures c.bytes-2.ensures.says c.print_number-2.ensures c.bytes-3.ensures.says c.print_number-3.ensures c.bytes-4.ensures.says c.print_shown.ensures c.bytes-5.ensures.says
