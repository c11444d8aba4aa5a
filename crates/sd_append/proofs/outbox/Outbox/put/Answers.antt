use Rattle.std.specs.Prelude.{is_some}
use Rattle.sd_append.proofs.OutLemmas.{puts_straight}
use Rattle.sd_append.proofs.outbox.Outbox.put.Goals as goal

pub returns-else-bytes-lt-DIRECT_BYTES : goal.returns-else-bytes-lt-DIRECT_BYTES
returns-else-bytes-lt-DIRECT_BYTES g c =
    let old = c.args.self.now in
    let out = c.write_out.new.self in
    let contents = g.W.Write.contents in
    puts_straight (contents old.writer) (contents out.writer) (contents c.send.new.writer) (is_some old.fault) (is_some out.fault) (is_some c.send.new.fault) old.waiting.items out.waiting.items c.args.bytes.now c.write_out.ensures.empty c.write_out.ensures.puts c.send.ensures
