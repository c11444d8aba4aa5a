use Rattle.std.proofs.Common.{subst}
use Rattle.sd_driver.specs.Meaning.{Meaning}
use Rattle.sd_machine.specs.declared.event.Event.TheVariants.{Append}
use Rattle.sd_events.specs.View.{world_of}
use Rattle.sd_world.specs.Moves.{Moves}
use Rattle.sd_world.specs.World.{WorldView}
use Rattle.sd_world.proofs.Moves.{moves_keep_rules}
use Rattle.sd_core.proofs.world.World.append.Goals as goal

pub invariant_of-self : goal.invariant_of-self
invariant_of-self g c =
    moves_keep_rules (λ d. g.D.Driver.meaning d) _ (world_of c.answer_append.new.parts) (Append c.args.ticket c.args.rec.now) c.answer_append.result c.self.invariant
    c.answer_append.ensures.moves

pub returns : goal.returns
returns g c =
    let meaning : g.row.D.Denot → Meaning = λ d. g.D.Driver.meaning d in
    let new = world_of c.answer_append.new.parts in
    let event = Append c.args.ticket c.args.rec.now in
    let M : WorldView g.row.D.Denot → Type 0 = λ w. Moves meaning w event c.answer_append.result new in
    record {
      moves = subst M c.self.view_is c.answer_append.ensures.moves;
      sound = record {
        rules = moves_keep_rules meaning _ new event c.answer_append.result c.self.invariant c.answer_append.ensures.moves;
        drives = c.answer_append.ensures.drives;
      };
    }
