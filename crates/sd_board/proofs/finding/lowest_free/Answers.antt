use Rattle.std.proofs.Common.{◌≡◌, ◌<◌, refl, sym, ◌∙◌, arith, length, false}
use Rattle.std.proofs.lemmas.Bool.{both_ways}
use Rattle.std.proofs.lemmas.Option.{slice_get_read}
use Rattle.sd_base.proofs.ChoiceLemmas.{none_all, none_more}
use Rattle.sd_board.specs.Slots.{IsFree, is_free}
use Rattle.sd_board.proofs.SlotLemmas.{first_free}
use Rattle.sd_board.proofs.finding.lowest_free.Goals as goal

pub returns-then-is_free-clause-some : goal.returns-then-is_free-clause-some
returns-then-is_free-clause-some g c =
    let slots = c.args.slots.now in
    let at = c.loop-at.at in
    let s = c.index-slots-at.result in
    let below : at < length slots = omega arith in
    let there = slice_get_read slots (length slots) at s refl below c.index-slots-at.is in
    first_free slots at s c.loop-at.invariant there (sym c.is_free.ensures ∙ c.if-is_free.true)

pub loop-at-preserved : goal.loop-at-preserved
loop-at-preserved g c =
    let slots = c.args.slots.now in
    let at = c.loop-at.at in
    let s = c.index-slots-at.result in
    let below : at < length slots = omega arith in
    let there = slice_get_read slots (length slots) at s refl below c.index-slots-at.is in
    let apart : is_free s ≡ false = sym c.is_free.ensures ∙ c.if-is_free.false in
    none_more IsFree slots at s c.loop-at.invariant there (both_ways _ apart)

pub returns-clause-none : goal.returns-clause-none
returns-clause-none g c = none_all IsFree c.args.slots.now c.loop-at.at (omega arith) c.loop-at.invariant
