use Rattle.std.proofs.Common.{◌≡◌, ◌≢◌, ◌+◌, refl, sym, ap, subst, ◌∙◌, arith, rules}
use Rattle.std.specs.Prelude.{IsSome}
use Rattle.sd_line.specs.Ends.{EndIs}
use Rattle.sd_ruled.specs.Seats.{LaneSeatIs}
use Rattle.sd_hub.specs.Settles.{lane_of}
use Rattle.sd_hub.proofs.EndLemmas.{found_is, no_is}
use Rattle.sd_hub.proofs.TakenLemmas.{none_taken, taken_more}
use Rattle.sd_hub.proofs.gather.gather.Goals as goal

pub loop-at-init : goal.loop-at-init
loop-at-init g c = record {
  taken = none_taken g.N.Naming.table g.N.Naming.time c.args.no c.args.ends.items c.args.room.seats.items c.args.room.lanes.items c.requires.none.0 c.requires.none.1;
  rest = λ other behind. refl;
  long = (search rules, search rules);
  room = c.requires.room;
}

pub take_end-requires-clause-there : goal.take_end-requires-clause-there
take_end-requires-clause-there g c κs within =
    let at = c.loop-at.at in
    let lane = c.requires.there (at + 1) (omega arith) (omega arith) in
    subst IsSome (sym (c.loop-at.invariant.rest (at + 1) (omega arith))) lane

pub loop-at-preserved : goal.loop-at-preserved
loop-at-preserved g c =
    let i = c.loop-at.invariant in
    let at = c.loop-at.at in
    let e = c.take_end.result in
    let parts = c.into_parts-seat.ensures.parts in
    let found = sym (i.rest (at + 1) (omega arith)) ∙ c.take_end.ensures.end in
    let seat = c.into_seat.ensures.seat ∙ sym (ap (λ (x : EndIs). x.seat.seat) parts) in
    let same : e.seat.no ≡ c.args.no = no_is c.args.no (at + 1) e (found_is c.args.no (at + 1) c.args.ends.items e found) in
    let here = ap (λ (x : LaneSeatIs). x.table) (sym seat) ∙ (c.into_seat.ensures.here ∙ ap g.N.Naming.table (sym (ap (λ (x : EndIs). x.seat.no) parts) ∙ same)) in
    record {
      taken = rw (c.push_reserved.ensures.items, c.push_reserved-in-loop-at.ensures.items)
          (taken_more g.N.Naming.table g.N.Naming.time c.args.no c.args.ends.items at c.loop-at.seats.items c.loop-at.settled.items _ _ e i.taken found here c.into_parts-seat.ensures.keeps seat (sym (ap lane_of parts)));
      rest = λ other behind. (let apart : other ≢ at + 1 = omega arith in c.take_end.ensures.others other apart ∙ i.rest other (omega arith));
      long = (omega (arith, i.long.0, c.push_reserved.ensures.len), omega (arith, i.long.1, c.push_reserved-in-loop-at.ensures.len));
      room = (omega (arith, i.room.0, c.push_reserved.ensures.capacity), omega (arith, i.room.1, c.push_reserved-in-loop-at.ensures.capacity));
    }
