use Rattle.std.proofs.Common.{subst}
use Rattle.sd_driver.specs.Meaning.{Meaning}
use Rattle.sd_events.specs.View.{world_of}
use Rattle.sd_world.specs.Moves.{Moves}
use Rattle.sd_world.specs.World.{WorldView}
use Rattle.sd_world.proofs.Moves.{moves_keep_rules}
use Rattle.sd_core.proofs.world.World.step.Goals as goal

pub invariant_of-self : goal.invariant_of-self
invariant_of-self g c =
    moves_keep_rules (λ d. g.D.Driver.meaning d) _ (world_of c.answer_event.new.parts) c.args.event c.answer_event.result c.self.invariant c.answer_event.ensures.moves

pub returns : goal.returns
returns g c =
    let meaning : g.row.D.Denot → Meaning = λ d. g.D.Driver.meaning d in
    let new = world_of c.answer_event.new.parts in
    let M : WorldView g.row.D.Denot → Type 0 = λ w. Moves meaning w c.args.event c.answer_event.result new in
    record {
      moves = subst M c.self.view_is c.answer_event.ensures.moves;
      sound = record {
        rules = moves_keep_rules meaning _ new c.args.event c.answer_event.result c.self.invariant c.answer_event.ensures.moves;
        drives = c.answer_event.ensures.drives;
      };
    }
