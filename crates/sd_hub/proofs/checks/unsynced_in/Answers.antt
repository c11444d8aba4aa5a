use Rattle.std.proofs.Common.{refl, sym, length}
use Rattle.std.proofs.lemmas.Bool.{both_ways}
use Rattle.std.proofs.lemmas.Option.{slice_get_read}
use Rattle.sd_base.proofs.ChoiceLemmas.{none_all, none_more}
use Rattle.sd_hub.specs.Settles.{IsUnsettled}
use Rattle.sd_hub.proofs.checks.unsynced_in.Goals as goal

pub returns-then-is_unsettled-clause-some : goal.returns-then-is_unsettled-clause-some
returns-then-is_unsettled-clause-some g c =
    let sessions = c.args.sessions.now in
    let at = c.loop-told.told-index in
    let s = c.told-item.result in
    let there = slice_get_read sessions (length sessions) at s refl c.loop-told-test.true c.told-item.is in
    (at, s, there, sym c.key_of.ensures, c.is_unsettled.ensures.0 c.if-is_unsettled.true)

pub loop-told-preserved : goal.loop-told-preserved
loop-told-preserved g c =
    let sessions = c.args.sessions.now in
    let at = c.loop-told.told-index in
    let s = c.told-item.result in
    let there = slice_get_read sessions (length sessions) at s refl c.loop-told-test.true c.told-item.is in
    none_more (IsUnsettled c.args.drive.now.journal) sessions at s c.loop-told.invariant there
    (λ is. both_ways _ c.if-is_unsettled.false (c.is_unsettled.ensures.1 is))

pub returns-clause-none : goal.returns-clause-none
returns-clause-none g c =
    none_all (IsUnsettled c.args.drive.now.journal) c.args.sessions.now c.loop-told.told-index c.loop-told-test.false c.loop-told.invariant
