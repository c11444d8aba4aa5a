use Rattle.std.proofs.Common.{ap, ◌∙◌}
use Rattle.sd_base.specs.Record.{Record}
use Rattle.sd_append.specs.Out.{out_view}
use Rattle.sd_append.proofs.ReadLemmas.{record_says}
use Rattle.sd_append.proofs.answers.say_record.Goals as goal

pub returns : goal.returns
returns g c =
    record_says (out_view g.W.Write.contents c.args.outbox.now) (out_view g.W.Write.contents c.text.new.self) (out_view g.W.Write.contents c.packet.new.self)
    (out_view g.W.Write.contents c.end_of_data.new.self) c.args.rec.now c.of.result c.as_slice.result.now c.of.ensures.index c.of.ensures.stream
    (c.as_slice.ensures ∙ ap (λ (r : Record). r.bytes) c.rec.view_is) c.text.ensures c.packet.ensures c.end_of_data.ensures
