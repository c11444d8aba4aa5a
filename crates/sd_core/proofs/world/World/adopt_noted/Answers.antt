use Rattle.std.proofs.Common.{sym, subst}
use Rattle.sd_driver.specs.Meaning.{Meaning}
use Rattle.sd_machine.specs.declared.event.Event.TheVariants.{Adopt}
use Rattle.sd_events.specs.Noted.{IsTrueAt}
use Rattle.sd_events.specs.View.{world_of}
use Rattle.sd_world.specs.Moves.{Moves}
use Rattle.sd_world.specs.World.{WorldView}
use Rattle.sd_world.proofs.Moves.{moves_keep_rules}
use Rattle.sd_core.proofs.world.World.adopt_noted.Goals as goal

pub answer_noted-requires-clause-known : goal.answer_noted-requires-clause-known
answer_noted-requires-clause-known g c κs within =
    let M : WorldView g.row.D.Denot → Type 0 = λ w. IsTrueAt (λ d. g.D.Driver.meaning d) w c.args.drive c.args.name.now c.args.note.now in
    subst M (sym c.self.view_is) c.requires.known

pub invariant_of-self : goal.invariant_of-self
invariant_of-self g c =
    moves_keep_rules (λ d. g.D.Driver.meaning d) _ (world_of c.answer_noted.new.parts) (Adopt c.args.drive c.args.name.now) c.answer_noted.result c.self.invariant
    c.answer_noted.ensures.moves

pub returns : goal.returns
returns g c =
    let meaning : g.row.D.Denot → Meaning = λ d. g.D.Driver.meaning d in
    let new = world_of c.answer_noted.new.parts in
    let event = Adopt c.args.drive c.args.name.now in
    let M : WorldView g.row.D.Denot → Type 0 = λ w. Moves meaning w event c.answer_noted.result new in
    record {
      moves = subst M c.self.view_is c.answer_noted.ensures.moves;
      sound = record {
        rules = moves_keep_rules meaning _ new event c.answer_noted.result c.self.invariant c.answer_noted.ensures.moves;
        drives = c.answer_noted.ensures.drives;
      };
    }
