use Rattle.std.proofs.Common.{◌-◌, ◌<◌, refl, sym, ap, ◌∙◌, arith, length, slice_set}
use Rattle.std.proofs.lemmas.Option.{slice_get_read}
use Rattle.std.proofs.lemmas.Result.{IfErr-weaker, on_err_weaker, on_ok_weaker}
use Rattle.sd_drive.proofs.Places.{set_same}
use Rattle.sd_board.proofs.BoardLemmas.{rests, rests_not, rests_nowhere}
use Rattle.sd_board.proofs.resting.rest_in.Goals as goal

pub returns-then-place-len-clause-back : goal.returns-then-place-len-clause-back
returns-then-place-len-clause-back g c =
    let at = c.drive_place-place.ensures.place ∙ ap (λ n. n - 1) c.no.ensures in
    (refl, rests_nowhere c.args.drives.now.items c.args.end c.drive_place-place.result at (omega (arith, c.len.ensures, c.args.drives.now.ok.0, c.if-place-len.true)))

pub rest-requires-after_bounds : goal.rest-requires-after_bounds
rest-requires-after_bounds g c κs within =
    let ds = c.args.drives.now.items in
    let place = c.drive_place-place.result in
    let read = c.index_mut-lanes.result.now in
    let below : place < length ds = omega (arith, c.len.ensures, c.args.drives.now.ok.0, c.if-place-len.false) in
    let there = slice_get_read ds (length ds) place read refl below c.index_mut-lanes.ensures.value in
    sym c.no.ensures ∙ c.drive_place-place.ensures.number ∙ sym (c.requires place read there)

pub returns-clause-ok : goal.returns-clause-ok
returns-clause-ok g c =
    let ds = c.args.drives.now.items in
    let place = c.drive_place-place.result in
    let read = c.index_mut-lanes.result.now in
    let below : place < length ds = omega (arith, c.len.ensures, c.args.drives.now.ok.0, c.if-place-len.false) in
    let there = slice_get_read ds (length ds) place read refl below c.index_mut-lanes.ensures.value in
    let at = c.drive_place-place.ensures.place ∙ ap (λ n. n - 1) c.no.ensures in
    on_ok_weaker c.rest.result (rests ds c.args.end place read at there c.args.on_its_way c.rest.new.self) c.rest.ensures.ok

pub returns-clause-back : goal.returns-clause-back
returns-clause-back g c =
    let ds = c.args.drives.now.items in
    let place = c.drive_place-place.result in
    let read = c.index_mut-lanes.result.now in
    let below : place < length ds = omega (arith, c.len.ensures, c.args.drives.now.ok.0, c.if-place-len.false) in
    let there = slice_get_read ds (length ds) place read refl below c.index_mut-lanes.ensures.value in
    let at = c.drive_place-place.ensures.place ∙ ap (λ n. n - 1) c.no.ensures in
    IfErr-weaker c.rest.result _ _ (λ back p. (p.0, rests_not ds c.args.end place read at there p.1)) c.rest.ensures.back

pub returns-clause-err : goal.returns-clause-err
returns-clause-err g c =
    let ds = c.args.drives.now.items in
    let place = c.drive_place-place.result in
    let read = c.index_mut-lanes.result.now in
    let below : place < length ds = omega (arith, c.len.ensures, c.args.drives.now.ok.0, c.if-place-len.false) in
    let there = slice_get_read ds (length ds) place read refl below c.index_mut-lanes.ensures.value in
    on_err_weaker c.rest.result (λ same. ap (slice_set ds place) same ∙ set_same ds place read there) c.rest.ensures.err
