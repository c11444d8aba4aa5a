use Rattle.std.proofs.Common.{◌≡◌, List, sym, subst, ◌∙◌, arith}
use Rattle.std.proofs.lemmas.Iterator.Adapters.{YieldsList-from_vec}
use Rattle.std.proofs.lemmas.Iterator.Consumers.{YieldsList-end, YieldsList-turn}
use Rattle.std.proofs.lemmas.List.{map-id}
use Rattle.sd_line.specs.Ends.{ToldSession}
use Rattle.sd_hub.specs.Worlds.{SettlesEach}
use Rattle.sd_hub.proofs.Enters.{each_length, each_more}
use Rattle.sd_hub.proofs.entering.enter_all.Goals as goal

pub push_reserved-requires : goal.push_reserved-requires
push_reserved-requires g c =
    let from = c.into_iter-told-iterator.ensures.into_iter_gives in
    let turn = YieldsList-turn (YieldsList-from_vec {s = c.into_iter-told-iterator.result} c.args.sessions.items from.0 (from.1 ∙ c.args.sessions.ok.0))
    c.loop-told.yielded c.loop-told.told-iterator c.loop-told.yielded_by _ c.next.new.self c.in-Some.told c.in-Some.is c.next.ensures.steps in
    let less = turn.0 in
    let many = each_length c.args.drive.now.journal c.loop-told.yielded c.loop-told.entries.items c.loop-told.invariant.settles in
    let ok = c.loop-told.entries.ok.0 in
    let room = c.loop-told.invariant.room in
    omega (arith, less, many, ok, room)

pub loop-told-preserved : goal.loop-told-preserved
loop-told-preserved g c =
    let journal = c.args.drive.now.journal in
    let ss = c.loop-told.yielded in
    let es = c.loop-told.entries.items in
    let s = c.in-Some.told in
    let keeps = c.push_reserved.ensures.capacity in
    let room = c.loop-told.invariant.room in
    record {
      settles = each_more journal ss es c.push_reserved.new.self.items s c.enter.result c.loop-told.invariant.settles c.enter.ensures c.push_reserved.ensures.items;
      room = omega (arith, keeps, room);
    }

pub returns : goal.returns
returns g c =
    let from = c.into_iter-told-iterator.ensures.into_iter_gives in
    let gave = YieldsList-end (YieldsList-from_vec {s = c.into_iter-told-iterator.result} c.args.sessions.items from.0 (from.1 ∙ c.args.sessions.ok.0))
    c.loop-told.yielded c.loop-told.told-iterator c.loop-told.yielded_by _ c.next.new.self c.in-None.is c.next.ensures.steps in
    let all : c.loop-told.yielded ≡ c.args.sessions.items = sym (map-id c.loop-told.yielded) ∙ gave.0 in
    subst (λ (ss : List ToldSession). SettlesEach c.args.drive.now.journal ss c.loop-told.entries.items) all c.loop-told.invariant.settles
