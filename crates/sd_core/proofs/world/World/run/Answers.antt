use Rattle.std.proofs.Common.{◌≡◌, ◌++◌, List, [], ◌∷◌, refl, sym, ap, ◌∙◌, subst, arith, rules, append-nil}
use Rattle.std.proofs.lemmas.List.{append_assoc, nil_from_length}
use Rattle.std.specs.Vec.Iter.{into_iter_items}
use Rattle.sd_driver.specs.Meaning.{Meaning}
use Rattle.sd_machine.specs.declared.event.Event.{Event}
use Rattle.sd_machine.specs.declared.reply.Reply.{Reply}
use Rattle.sd_world.specs.Steps.{StepsAlong}
use Rattle.sd_core.proofs.world.World.run.Goals as goal

-- with nothing left, the steps are whole
pub returns : goal.returns
returns g c =
    let meaning : g.row.D.Denot → Meaning = λ d. g.D.Driver.meaning d in
    let i = c.loop-event.invariant in
    let old = c.args.self.now in
    let new = c.loop-event.self in
    let events = c.args.events.items in
    let replies = c.loop-event.replies.items in
    let it = c.loop-event.event-iterator in
    let done : into_iter_items it ≡ [] = nil_from_length (into_iter_items it) (omega (arith, it.rest.ok.0, c.in-None.ensures.steps.0)) in
    let R : List Reply → Type 0 = λ l. StepsAlong meaning old events l new in
    record { steps = subst R (append-nil replies) (i.along [] new (rw done refl)); err = tt }

-- one event more
pub loop-event-preserved : goal.loop-event-preserved
loop-event-preserved g c =
    let meaning : g.row.D.Denot → Meaning = λ d. g.D.Driver.meaning d in
    let i = c.loop-event.invariant in
    let replies = c.loop-event.replies.items in
    let reply = c.step-reply.result in
    let left = c.in-Some.ensures.steps.0 in
    let items : c.push.new.self.items ≡ replies ++ reply ∷ [] = rw c.unwrap.ensures at c.push.ensures.items in
    record {
      can = tt;
      finite = tt;
      room = search rules;
      along = λ rs w rest.
          let E : List Event → Type 0 = λ es. StepsAlong meaning c.loop-event.self es (reply ∷ rs) w in
          let R : List Reply → Type 0 = λ l. StepsAlong meaning c.args.self.now c.args.events.items l w in
          subst R (sym (append_assoc replies (reply ∷ []) rs) ∙ ap (λ l. l ++ rs) (sym items))
          (i.along (reply ∷ rs) w (subst E (sym left) (c.step-reply.new.self, c.step-reply.ensures, rest)));
    }
