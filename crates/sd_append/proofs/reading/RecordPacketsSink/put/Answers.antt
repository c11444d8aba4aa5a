use Rattle.sd_base.specs.Seen.{seen_of}
use Rattle.sd_append.specs.Out.{out_view}
use Rattle.sd_append.proofs.ReadLemmas.{one_more}
use Rattle.sd_append.proofs.reading.RecordPacketsSink.put.Goals as goal

pub invariant_of-self : goal.invariant_of-self
invariant_of-self g c =
    one_more g.K.Before.before (out_view g.W.Write.contents c.self.inside.outbox) (out_view g.W.Write.contents c.say_record.new.outbox) (seen_of c.self.inside.handed) c.args.rec c.with-handed.result
    c.with-handed.ensures c.self.invariant c.say_record.ensures
