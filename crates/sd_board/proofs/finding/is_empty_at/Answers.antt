use Rattle.std.proofs.Common.{refl, length, arith}
use Rattle.std.proofs.lemmas.Option.{slice_get_read, slice_get_within}
use Rattle.sd_board.proofs.SlotLemmas.{empty_read}
use Rattle.sd_board.proofs.finding.is_empty_at.Goals as goal

pub returns-in-Some : goal.returns-in-Some
returns-in-Some g c =
    let slots = c.args.slots.now in
    let read = c.in-Some.slot.now in
    let l = c.in-Some.ensures.lookup in
    empty_read slots c.args.at read c.is_empty.result (slice_get_read slots (length slots) c.args.at read refl l.3.0 l.1) c.is_empty.ensures

pub returns-in-None : goal.returns-in-None
returns-in-None g c =
    let l = c.in-None.ensures.lookup in
    let past = l.3 in
    (λ yes. absurd (cc yes), λ (slot, stands, empty). absurd (let within = slice_get_within c.args.slots.now c.args.at slot stands in omega (arith, past, within)))
