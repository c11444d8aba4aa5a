use Rattle.std.proofs.Common.{◌≡◌, sym, ap, ◌∙◌, arith, length, map}
use Rattle.std.proofs.lemmas.Iterator.Adapters.{YieldsList-from_vec}
use Rattle.std.proofs.lemmas.Iterator.Consumers.{YieldsList-end, YieldsList-turn}
use Rattle.std.proofs.lemmas.List.{length-map, map-id}
use Rattle.sd_board.specs.Slots.{new_slot}
use Rattle.sd_board.proofs.SlotLemmas.{mapped_push}
use Rattle.sd_board.proofs.lanes.fill.Goals as goal

pub push_reserved-requires : goal.push_reserved-requires
push_reserved-requires g c =
    let from = c.into_iter-end-iterator.ensures.into_iter_gives in
    let turn = YieldsList-turn (YieldsList-from_vec {s = c.into_iter-end-iterator.result} c.args.ends.items from.0 (from.1 ∙ c.args.ends.ok.0))
    c.loop-end.yielded c.loop-end.end-iterator c.loop-end.yielded_by _ c.next.new.self c.in-Some.end c.in-Some.is c.next.ensures.steps in
    let less = turn.0 in
    let many = ap length c.loop-end.invariant.lie ∙ length-map c.loop-end.yielded new_slot in
    let ok = c.loop-end.slots.ok.0 in
    let room = c.loop-end.invariant.room in
    omega (arith, less, many, ok, room)

pub loop-end-preserved : goal.loop-end-preserved
loop-end-preserved g c =
    let keeps = c.push_reserved.ensures.capacity in
    let room = c.loop-end.invariant.room in
    record {
      lie = mapped_push new_slot c.loop-end.yielded c.in-Some.end c.loop-end.slots.items c.push_reserved.new.self.items c.new.result c.loop-end.invariant.lie c.push_reserved.ensures.items c.new.ensures;
      room = omega (arith, keeps, room);
    }

pub returns : goal.returns
returns g c =
    let from = c.into_iter-end-iterator.ensures.into_iter_gives in
    let gave = YieldsList-end (YieldsList-from_vec {s = c.into_iter-end-iterator.result} c.args.ends.items from.0 (from.1 ∙ c.args.ends.ok.0))
    c.loop-end.yielded c.loop-end.end-iterator c.loop-end.yielded_by _ c.next.new.self c.in-None.is c.next.ensures.steps in
    let all : c.loop-end.yielded ≡ c.args.ends.items = sym (map-id c.loop-end.yielded) ∙ gave.0 in
    c.loop-end.invariant.lie ∙ ap (map new_slot) all
