use Rattle.std.proofs.Common.{◌≡◌, ℤ, to_z, of_z, w64, rules, sym, subst}
use Rattle.sd_machine.specs.declared.event.Event.{Event}
use Rattle.sd_machine.specs.declared.event.Event.TheVariants.{Open}
use Rattle.sd_world.specs.Moves.{Moves}
use Rattle.sd_events.specs.View.{reply_of, world_of}
use Rattle.sd_core.proofs.events.apply.Goals as goal

-- the moment is 64 bits wide
pub returns-in-Open : goal.returns-in-Open
returns-in-Open g c =
    let wide : to_z w64 (of_z w64 c.in-Open.moment) ≡ c.in-Open.moment = search rules in
    record {
      moves = subst (λ (e : Event). Moves (λ d. g.D.Driver.meaning d) (world_of c.args.parts.now) e (reply_of c.open.result) (world_of c.open.new.parts))
          (sym c.in-Open.is)
          (subst
          (λ (moment : ℤ). Moves (λ d. g.D.Driver.meaning d) (world_of c.args.parts.now)
          (Open c.in-Open.job c.in-Open.pool c.in-Open.media moment) (reply_of c.open.result) (world_of c.open.new.parts))
          wide c.open.ensures.moves);
    }
