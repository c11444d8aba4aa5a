use Rattle.std.proofs.Common.{List, sym, subst}
use Rattle.sd_world.specs.World.{BayView}
use Rattle.sd_world.specs.Steps.{DrivesKeep}
use Rattle.sd_machine.specs.declared.reply.Reply.{Reply}
use Rattle.sd_machine.specs.declared.event.Event.TheVariants.{Adopt}
use Rattle.sd_world.specs.Moves.{Moves}
use Rattle.sd_events.specs.View.{world_of}
use Rattle.sd_core.proofs.events.answer_noted.Goals as goal

pub returns-clause-drives : goal.returns-clause-drives
returns-clause-drives g c = subst (λ (bays : List (BayView _)). DrivesKeep (λ d. g.D.Driver.meaning d) bays) c.deref.ensures.value c.know_drives.ensures

pub returns-clause-moves : goal.returns-clause-moves
returns-clause-moves g c =
    subst (λ (r : Reply). Moves (λ d. g.D.Driver.meaning d) (world_of c.args.parts.now) (Adopt c.args.drive c.args.name.now) r (world_of c.operate_noted.new.parts)) (sym c.reply_of-reply.ensures) c.operate_noted.ensures.moves
