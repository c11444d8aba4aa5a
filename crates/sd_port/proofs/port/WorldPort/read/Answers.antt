use Rattle.std.proofs.Common.{[], refl}
use Rattle.sd_append.specs.Port.{WasRead}
use Rattle.sd_port.proofs.DeedLemmas.{over_exchange}
use Rattle.sd_port.proofs.port.WorldPort.read.Goals as goal

pub invariant_of-self : goal.invariant_of-self
invariant_of-self g c =
    over_exchange g.D.Driver.meaning (record { world = c.self.inside.world; moment = c.self.inside.moment; rounds = c.self.inside.rounds; opening = c.self.inside.opening.value; asked = c.self.inside.exchanges }) (WasRead c.args.key c.args.spans.now c.read_watched-read.result.handed c.read_watched-read.result.answer) [] [] c.read_watched-read.new.world c.was_read.result c.self.invariant
    (refl, refl, c.read_watched-read.ensures.reads) c.was_read.ensures

pub returns : goal.returns
returns g c = record {
  reads = (
    c.read_watched-read.result.handed,
    c.read_watched-read.ensures.got,
    rw (← c.self.view_is) c.read_watched-read.ensures.reads,
    rw (← c.self.view_is, c.was_read.ensures) refl,
  );
}
