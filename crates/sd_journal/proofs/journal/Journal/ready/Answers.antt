use Rattle.std.proofs.Common.{◌∙◌, ◌++◌, ◌∷◌, [], ap, sym, arith, length}
use Rattle.std.specs.List.{list_any}
use Rattle.sd_base.specs.Key.{is_key}
use Rattle.sd_journal.specs.Kept.{replay}
use Rattle.sd_journal.proofs.ShareLemmas.{shares_readied}
use Rattle.sd_journal.proofs.NotedLemmas.{rooms_more, length_more}
use Rattle.sd_journal.proofs.journal.Journal.ready.Goals as goal

pub invariant_of-self-2 : goal.invariant_of-self-2
invariant_of-self-2 c =
    let key = c.args.key in
    let before = c.self.inside in
    let es = replay before.told.items in
    let names = c.reserve.ensures.names in
    let blocks = c.reserve-2.ensures.noted in
    let waiting = c.reserve-3.ensures.items in
    let lying = c.reserve-4.ensures.items in
    let keys = c.push_reserved.ensures.items in
    let kept = c.reserve-5.ensures.items in
    let more = length_more c.reserve-5.new.self.items c.push_reserved.new.self.items key keys in
    let long = ap length kept in
    let names_room = c.in_ok-reserve.ensures.ok in
    let room = c.in_ok-reserve-2.ensures.ok in
    let awaiting_room = c.in_ok-reserve-3.ensures.ok in
    let on_room = c.in_ok-reserve-4.ensures.ok in
    let count = ap length c.as_slice-ready.ensures.value in
    let changes = c.in_ok-ready.ensures.ok in
    record {
      named = rw (names, blocks) c.self.invariant.named;
      placed = rw (names, blocks) c.self.invariant.placed;
      room = omega (arith, more, long, room, count);
      names_room = omega (arith, more, long, names_room, count);
      rooms = λ q among. rooms_more key before.ready.items before.shares c.ready.new.self changes c.self.invariant.rooms q
          (sym (ap (list_any (is_key q)) (keys ∙ ap (λ l. l ++ key ∷ []) kept)) ∙ among);
      awaiting_room = omega (arith, more, long, awaiting_room, count);
      on_room = omega (arith, more, long, on_room, count);
      shares = rw (names, blocks) (shares_readied before.names.names before.cells.noted es c.self.invariant.placed key before.shares c.ready.new.self changes c.self.invariant.shares);
      awaiting_named = rw (names, waiting) c.self.invariant.awaiting_named;
      awaits = rw (names, waiting) c.self.invariant.awaits;
      lie = rw (names, lying) c.self.invariant.lie;
    }
