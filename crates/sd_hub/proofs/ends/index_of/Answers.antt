use Rattle.std.proofs.Common.{◌≡◌, ◌<◌, refl, sym, ◌∙◌, arith, length, false}
use Rattle.std.proofs.lemmas.Bool.{both_ways}
use Rattle.std.proofs.lemmas.Option.{slice_get_read}
use Rattle.sd_base.proofs.ChoiceLemmas.{none_all, none_more}
use Rattle.sd_hub.specs.Settles.{is_end}
use Rattle.sd_hub.proofs.EndLemmas.{IsOf, none_found, stands}
use Rattle.sd_hub.proofs.ends.index_of.Goals as goal

pub returns-then-is_end-clause-some : goal.returns-then-is_end-clause-some
returns-then-is_end-clause-some g c =
    let ends = c.args.ends.now in
    let at = c.loop-at.at in
    let e = c.index-ends-at.result in
    let below : at < length ends = omega arith in
    let there = slice_get_read ends (length ends) at e refl below c.index-ends-at.is in
    stands c.args.no c.args.lane ends at e c.loop-at.invariant there (sym c.is_end.ensures ∙ c.if-is_end.true)

pub loop-at-preserved : goal.loop-at-preserved
loop-at-preserved g c =
    let ends = c.args.ends.now in
    let at = c.loop-at.at in
    let e = c.index-ends-at.result in
    let below : at < length ends = omega arith in
    let there = slice_get_read ends (length ends) at e refl below c.index-ends-at.is in
    let apart : is_end c.args.no c.args.lane e ≡ false = sym c.is_end.ensures ∙ c.if-is_end.false in
    none_more (IsOf c.args.no c.args.lane) ends at e c.loop-at.invariant there (both_ways _ apart)

pub returns-clause-none : goal.returns-clause-none
returns-clause-none g c =
    let ends = c.args.ends.now in
    none_found c.args.no c.args.lane ends (none_all (IsOf c.args.no c.args.lane) ends c.loop-at.at (omega arith) c.loop-at.invariant)
