use Rattle.std.proofs.Common.{rules, ◌≡◌, refl, ap, sym, subst, ◌∙◌}
use Rattle.std.specs.Prelude.{IfOk}
use Rattle.sd_line.specs.Side.{SeatIs}
use Rattle.sd_line.specs.Parts.{SendsBy}
use Rattle.sd_line.proofs.PushLemmas.{SameSeat, same_number, answers_by}
use Rattle.sd_line.proofs.pushing.push.Goals as goal

pub returns-clause-ok : goal.returns-clause-ok
returns-clause-ok g c =
    let step = c.despool_step-answer in
    let old : SeatIs = c.args.seat.now in
    let new : SeatIs = step.new.lane.seat.now in
    let no : new.no ≡ old.no = same_number new.no old.no step.ensures.taken in
    let same : SameSeat old new = record {
      no_is = no;
      table_is = c.know-2.ensures ∙ ap g.N.Naming.table no ∙ sym c.know.ensures;
      lanes_are = step.ensures.lanes;
      lane_is = sym (step.ensures.opens old.seat.lane refl);
    } in
    subst (λ (x : SeatIs). IfOk step.result (λ answer. SendsBy answer c.args.queue.now.capacity old c.args.session.now x step.new.self)) (search rules)
    (answers_by step.result c.args.queue.now.capacity step.new.lane.queue.now.capacity old new c.args.session.now step.new.self c.requires.lane same step.ensures.capacity
    (λ e. let h = step.ensures.nothing e in cc) (λ e. let h = step.ensures.not_due e in cc) step.ensures.ok)
