use Rattle.std.proofs.Common.{subst}
use Rattle.sd_driver.specs.Meaning.{Meaning}
use Rattle.sd_events.specs.View.{world_of}
use Rattle.sd_world.specs.World.{WorldView}
use Rattle.sd_world.specs.Deeds.{CountsFit}
use Rattle.sd_world.specs.Reading.{ReadsWorld}
use Rattle.sd_world.proofs.ReadKeeps.{reading_keeps}
use Rattle.sd_core.proofs.world.World.read.Goals as goal

pub invariant_of-self : goal.invariant_of-self
invariant_of-self g c =
    reading_keeps (λ d. g.D.Driver.meaning d) c.args.key c.args.spans.now (g.K.Sink.got c.args.sink.now) (g.K.Sink.got c.read_knowing.new.sink)
    c.read_knowing.result _ (world_of c.read_knowing.new.parts) c.self.invariant c.read_knowing.ensures.reads

pub returns : goal.returns
returns g c =
    let meaning : g.row.D.Denot → Meaning = λ d. g.D.Driver.meaning d in
    let new = world_of c.read_knowing.new.parts in
    let key = c.args.key in
    let spans = c.args.spans.now in
    let got = g.K.Sink.got c.args.sink.now in
    let got' = g.K.Sink.got c.read_knowing.new.sink in
    let result = c.read_knowing.result in
    let R : WorldView g.row.D.Denot → Type 0 = λ w. ReadsWorld meaning key spans got got' result w new in
    let F : WorldView g.row.D.Denot → Type 0 = λ w. CountsFit w.sessions key in
    record {
      reads = subst R c.self.view_is c.read_knowing.ensures.reads;
      sound = record {
        rules = reading_keeps meaning key spans got got' result _ new c.self.invariant c.read_knowing.ensures.reads;
        drives = c.read_knowing.ensures.drives;
      };
      fit = subst F c.self.view_is c.read_knowing.ensures.fit;
    }
