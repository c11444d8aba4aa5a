use Rattle.std.proofs.Common.{◌<◌, sym, ap, subst, ◌∙◌, arith, length, slice_set}
use Rattle.std.proofs.lemmas.List.Edits.{map_over_more}
use Rattle.sd_world.specs.Drives.{purged_if_on}
use Rattle.sd_events.specs.Purging.{NoneGoesOn}
use Rattle.sd_events.proofs.PurgeLemmas.{read_still}
use Rattle.sd_events.proofs.purging.purge_sessions.Goals as goal

pub purge_if_on-requires-clause-over : goal.purge_if_on-requires-clause-over
purge_if_on-requires-clause-over g c κs within =
    let f = purged_if_on c.args.drive c.args.name.now c.args.at.now.journal in
    let xs = c.args.sessions.now in
    let i = c.loop-place.place in
    let x = c.index-sessions-place.result in
    let same = c.loop-place.auto.sessions in
    let end = c.loop-place.auto.place-end in
    let test = c.loop-place-test.true in
    let below : i < length xs = omega (arith, same, end, test) in
    let still = read_still f xs c.loop-place.sessions i x below c.loop-place.invariant.sessions c.index-sessions-place.is in
    subst (NoneGoesOn c.args.drive c.args.name.now c.args.at.now.journal) (sym still ∙ c.index-sessions-place.is) (c.requires.over i x below)

pub loop-place-preserved : goal.loop-place-preserved
loop-place-preserved g c =
    let f = purged_if_on c.args.drive c.args.name.now c.args.at.now.journal in
    let xs = c.args.sessions.now in
    let ys = c.loop-place.sessions in
    let i = c.loop-place.place in
    let x = c.index-sessions-place.result in
    let same = c.loop-place.auto.sessions in
    let end = c.loop-place.auto.place-end in
    let test = c.loop-place-test.true in
    let below : i < length xs = omega (arith, same, end, test) in
    record {
      sessions = ap (slice_set ys i) (c.purge_if_on.ensures ∙ ap f (sym c.index-sessions-place.is)) ∙ map_over_more f xs ys i x below c.loop-place.invariant.sessions c.index-sessions-place.is;
    }
