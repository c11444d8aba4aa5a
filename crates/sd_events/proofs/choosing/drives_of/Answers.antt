use Rattle.std.proofs.Common.{◌<◌, ◌∙◌, arith, refl, length}
use Rattle.std.proofs.lemmas.List.{length-set}
use Rattle.std.proofs.lemmas.Option.{slice_get_read, slice_get_within}
use Rattle.sd_world.specs.World.{bay_for}
use Rattle.sd_events.proofs.Chosen.{first_are, made_more}
use Rattle.sd_events.proofs.choosing.drives_of.Goals as goal

pub drive_in-requires-clause-most : goal.drive_in-requires-clause-most
drive_in-requires-clause-most g c κs within =
    let bays = c.args.bays.now in
    let place = c.loop-place.place in
    let below : place < length bays = omega arith in
    c.requires.lanes_most place c.index-bays-place.result (slice_get_read bays (length bays) place c.index-bays-place.result refl below c.index-bays-place.is)

pub loop-place-preserved : goal.loop-place-preserved
loop-place-preserved g c =
    let bays = c.args.bays.now in
    let place = c.loop-place.place in
    let drives = c.loop-place.drives in
    let long = c.loop-place.invariant.long in
    let most = c.requires.bays_most in
    let below : place < length bays = omega arith in
    let stands = slice_get_read bays (length bays) place c.index-bays-place.result refl below c.index-bays-place.is in
    let within : place < length drives = omega (arith, below, long, most) in
    record {
      long = length-set drives place c.drive_in.result ∙ long;
      made = made_more (bay_for c.args.sessions.now) bays drives place c.index-bays-place.result c.drive_in.result within stands c.drive_in.ensures c.loop-place.invariant.made;
    }

pub returns : goal.returns
returns g c =
    let bays = c.args.bays.now in
    let drives = c.loop-place.drives in
    let long = c.loop-place.invariant.long in
    let most = c.requires.bays_most in
    let past = c.loop-place-test.false in
    first_are (bay_for c.args.sessions.now) bays drives (omega (arith, long, most))
    (λ k bay there. c.loop-place.invariant.made k bay (omega (arith, slice_get_within bays k bay there, past)) there)
