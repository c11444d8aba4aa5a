use Rattle.std.proofs.Common.{sym, subst, inl, refl, arith}
use Rattle.sd_machine.specs.declared.event.Event.{Event}
use Rattle.sd_core.proofs.TryLemmas.{AnswersSome, answered, never_changes, tried_none}
use Rattle.sd_core.proofs.tries.answer.Goals as goal

pub returns-in-Append : goal.returns-in-Append
returns-in-Append g c =
    subst (λ (e : Event). AnswersSome g.D.Driver.meaning c.args.rounds c.args.world.now e c.give_again.result c.give_again.new.world) (sym c.in-Append.is) c.give_again.ensures

pub returns-in-Close : goal.returns-in-Close
returns-in-Close g c =
    subst (λ (e : Event). AnswersSome g.D.Driver.meaning c.args.rounds c.args.world.now e c.give_again-in-Close.result c.give_again-in-Close.new.world) (sym c.in-Close.is) c.give_again-in-Close.ensures

pub returns-in_default : goal.returns-in_default
returns-in_default g c =
    answered g.D.Driver.meaning c.args.event c.step.result c.args.world.now c.step.new.self 0 c.args.rounds (inl (record {
      count = 0;
      middle = c.args.world.now;
      tried = tried_none g.D.Driver.meaning _ c.args.world.now 0 refl;
      few = omega arith;
      asks = c.step.ensures;
      due = inl (never_changes c.args.event c.step.result c.in_default.not-Append c.in_default.not-Close);
    }))
