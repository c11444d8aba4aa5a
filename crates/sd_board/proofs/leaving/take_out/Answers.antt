use Rattle.std.proofs.Common.{◌≡◌, sym, ap, ◌∙◌, arith, length}
use Rattle.std.proofs.lemmas.Iterator.Adapters.{YieldsList-from_vec}
use Rattle.std.proofs.lemmas.Iterator.Consumers.{YieldsList-end, YieldsList-turn}
use Rattle.std.proofs.lemmas.List.{map-id}
use Rattle.sd_board.specs.Slots.{ends_in}
use Rattle.sd_board.proofs.SlotLemmas.{ends_few, ends_push}
use Rattle.sd_board.proofs.leaving.take_out.Goals as goal

pub take_from-requires-clause-room : goal.take_from-requires-clause-room
take_from-requires-clause-room g c κs within =
    let from = c.into_iter-slot-iterator.ensures.into_iter_gives in
    let turn = YieldsList-turn (YieldsList-from_vec {s = c.into_iter-slot-iterator.result} c.args.slots.items from.0 (from.1 ∙ c.args.slots.ok.0))
    c.loop-slot.yielded c.loop-slot.slot-iterator c.loop-slot.yielded_by _ c.next.new.self c.in-Some.slot c.in-Some.is c.next.ensures.steps in
    let less = turn.0 in
    let few = ends_few c.loop-slot.yielded in
    let many = ap length c.loop-slot.invariant.out in
    let ok = c.loop-slot.ends.ok.0 in
    let room = c.loop-slot.invariant.room in
    omega (arith, less, few, many, ok, room)

pub loop-slot-preserved : goal.loop-slot-preserved
loop-slot-preserved g c =
    let keeps = c.take_from.ensures.capacity in
    let room = c.loop-slot.invariant.room in
    record {
      out = ends_push c.loop-slot.yielded c.in-Some.slot c.loop-slot.ends.items c.take_from.new.ends.items c.loop-slot.invariant.out c.take_from.ensures.out;
      room = omega (arith, keeps, room);
    }

pub returns : goal.returns
returns g c =
    let from = c.into_iter-slot-iterator.ensures.into_iter_gives in
    let gave = YieldsList-end (YieldsList-from_vec {s = c.into_iter-slot-iterator.result} c.args.slots.items from.0 (from.1 ∙ c.args.slots.ok.0))
    c.loop-slot.yielded c.loop-slot.slot-iterator c.loop-slot.yielded_by _ c.next.new.self c.in-None.is c.next.ensures.steps in
    let all : c.loop-slot.yielded ≡ c.args.slots.items = sym (map-id c.loop-slot.yielded) ∙ gave.0 in
    c.loop-slot.invariant.out ∙ ap ends_in all
