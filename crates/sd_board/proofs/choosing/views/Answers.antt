use Rattle.std.proofs.Common.{◌<◌, ◌∙◌, ℕ, arith, refl, length, slice_get}
use Rattle.std.proofs.lemmas.List.{length-set}
use Rattle.std.proofs.lemmas.Option.{slice_get_read, slice_get_within}
use Rattle.sd_board.specs.Opening.{view_of}
use Rattle.sd_board.specs.Slots.{DriveLanesIs}
use Rattle.sd_board.proofs.ViewLemmas.{are_views, made_more}
use Rattle.sd_board.proofs.choosing.views.Goals as goal

pub loop-place-preserved : goal.loop-place-preserved
loop-place-preserved g c =
    let drives = c.args.drives.now in
    let seen = c.args.seen.now in
    let place = c.loop-place.place in
    let views = c.loop-place.views in
    let long = c.loop-place.invariant.long in
    let most = c.requires in
    let below : place < length drives = omega arith in
    let stands = slice_get_read drives (length drives) place c.index-drives-place.result refl below c.index-drives-place.is in
    let within : place < length views = omega (arith, below, long, most) in
    record {
      long = length-set views place c.view.result ∙ long;
      made = made_more (λ (k : ℕ) (d : DriveLanesIs). view_of d (slice_get seen k)) drives views place c.index-drives-place.result c.view.result within stands c.view.ensures c.loop-place.invariant.made;
    }

pub returns : goal.returns
returns g c =
    let drives = c.args.drives.now in
    let long = c.loop-place.invariant.long in
    let most = c.requires in
    let past = c.loop-place-test.false in
    are_views drives c.args.seen.now c.loop-place.views (omega (arith, long, most))
    (λ k d there. c.loop-place.invariant.made k d (omega (arith, slice_get_within drives k d there, past)) there)
