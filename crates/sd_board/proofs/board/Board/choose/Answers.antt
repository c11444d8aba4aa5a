use Rattle.std.proofs.Common.{◌≡◌, ◌≢◌, ◌+◌, ◌≤◌, ℕ, refl, sym, subst, ◌∙◌, inl, inr, arith, List, length, slice_set}
use Rattle.std.proofs.lemmas.Option.{slice_get_read}
use Rattle.sd_base.proofs.ChoiceLemmas.{same_some}
use Rattle.sd_base.specs.Choice.{NoneOf}
use Rattle.sd_base.specs.Limits.{most_drives, most_number}
use Rattle.sd_board.specs.Board.{BoardIs}
use Rattle.sd_board.specs.Lines.{count_of}
use Rattle.sd_board.specs.Opening.{IsFirst, NoneTakes, ChoosesLane, ChoosesLater, ChoosesNone, views_of}
use Rattle.sd_board.specs.Slots.{DriveLanesIs, IsFree}
use Rattle.sd_board.proofs.BoardLemmas.{chooses, keeps_chosen}
use Rattle.sd_board.proofs.ViewLemmas.{reached}
use Rattle.sd_board.proofs.board.Board.choose.Goals as goal

pub returns-in_default-clause-why : goal.returns-in_default-clause-why
returns-in_default-clause-why g c =
    let b : BoardIs = record { names = c.self.inside.names; drives = c.self.inside.drives.items; lines = c.self.inside.lines } in
    subst (λ (old : BoardIs). ChoosesNone old c.args.seen.now c.args.pool.now c.args.media.now _) c.self.view_is
    (inl (c.in_default.ensures.none, refl))

pub choose-requires-after_bounds : goal.choose-requires-after_bounds
choose-requires-after_bounds g c κs within = subst (λ (ds : List DriveLanesIs). length ds ≤ most_drives) (sym c.deref.ensures.value) c.self.invariant.most

pub index-requires : goal.index-requires
index-requires g c =
    let r = reached c.deref.result.now c.args.seen.now c.args.pool.now c.args.media.now c.in-Ok.drive c.drive_place-place.result c.drive_place-place.ensures.number c.in-Ok.ensures.ok in
    omega (arith, r.within, c.deref.ensures.len)

pub returns-then-not-has_free-clause-later : goal.returns-then-not-has_free-clause-later
returns-then-not-has_free-clause-later g c =
    let b : BoardIs = record { names = c.self.inside.names; drives = c.self.inside.drives.items; lines = c.self.inside.lines } in
    let ds = b.drives in
    let place = c.drive_place-place.result in
    let r = reached ds c.args.seen.now c.args.pool.now c.args.media.now c.in-Ok.drive place c.drive_place-place.ensures.number
    (subst (λ (xs : List DriveLanesIs). (at : ℕ) × (c.in-Ok.drive ≡ at + 1) × IsFirst (views_of xs c.args.seen.now) c.args.pool.now c.args.media.now at) c.deref.ensures.value c.in-Ok.ensures.ok) in
    let there = slice_get_read ds (length ds) place c.index.result.now refl r.within c.index.ensures in
    let later : ChoosesLater b c.args.seen.now c.args.pool.now c.args.media.now = (place, r.first, c.index.result.now, there, c.if-not-has_free.ensures) in
    (subst (λ (old : BoardIs). ChoosesLater old c.args.seen.now c.args.pool.now c.args.media.now) c.self.view_is later, refl)

pub index_mut-lanes-requires : goal.index_mut-lanes-requires
index_mut-lanes-requires g c =
    let r = reached c.deref.result.now c.args.seen.now c.args.pool.now c.args.media.now c.in-Ok.drive c.drive_place-place.result c.drive_place-place.ensures.number c.in-Ok.ensures.ok in
    omega (arith, r.within, c.deref.ensures.len)

pub take_lowest-end-requires-after_bounds : goal.take_lowest-end-requires-after_bounds
take_lowest-end-requires-after_bounds g c κs within =
    let ds = c.self.inside.drives.items in
    let place = c.drive_place-place.result in
    let r = reached ds c.args.seen.now c.args.pool.now c.args.media.now c.in-Ok.drive place c.drive_place-place.ensures.number
    (subst (λ (xs : List DriveLanesIs). (at : ℕ) × (c.in-Ok.drive ≡ at + 1) × IsFirst (views_of xs c.args.seen.now) c.args.pool.now c.args.media.now at) c.deref.ensures.value c.in-Ok.ensures.ok) in
    let looked = slice_get_read ds (length ds) place c.index.result.now refl r.within c.index.ensures in
    let taken = slice_get_read ds (length ds) place c.index_mut-lanes.result.now refl r.within c.index_mut-lanes.ensures.value in
    subst (λ (d : DriveLanesIs). NoneOf IsFree d.slots → ⊥) (same_some (sym looked ∙ taken)) c.if-not-has_free.ensures

pub invariant_of-self-2 : goal.invariant_of-self-2
invariant_of-self-2 g c =
    let i = c.self.inside in
    let b : BoardIs = record { names = i.names; drives = i.drives.items; lines = i.lines } in
    let place = c.drive_place-place.result in
    let drive = c.in-Ok.drive in
    let read = c.index_mut-lanes.result.now in
    let r = reached b.drives c.args.seen.now c.args.pool.now c.args.media.now drive place c.drive_place-place.ensures.number
    (subst (λ (xs : List DriveLanesIs). (at : ℕ) × (drive ≡ at + 1) × IsFirst (views_of xs c.args.seen.now) c.args.pool.now c.args.media.now at) c.deref.ensures.value c.in-Ok.ensures.ok) in
    let there = slice_get_read b.drives (length b.drives) place read refl r.within c.index_mut-lanes.ensures.value in
    keeps_chosen b c.args.seen.now c.args.pool.now c.args.media.now c.in-Some.ticket drive place read c.take_lowest-end.new.self c.take_lowest-end.result c.promise.new.self
    c.self.invariant r there c.take_lowest-end.ensures

pub returns-clause-ok : goal.returns-clause-ok
returns-clause-ok g c =
    let i = c.self.inside in
    let b : BoardIs = record { names = i.names; drives = i.drives.items; lines = i.lines } in
    let place = c.drive_place-place.result in
    let drive = c.in-Ok.drive in
    let read = c.index_mut-lanes.result.now in
    let r = reached b.drives c.args.seen.now c.args.pool.now c.args.media.now drive place c.drive_place-place.ensures.number
    (subst (λ (xs : List DriveLanesIs). (at : ℕ) × (drive ≡ at + 1) × IsFirst (views_of xs c.args.seen.now) c.args.pool.now c.args.media.now at) c.deref.ensures.value c.in-Ok.ensures.ok) in
    let there = slice_get_read b.drives (length b.drives) place read refl r.within c.index_mut-lanes.ensures.value in
    let new : BoardIs = record b { drives = slice_set b.drives place c.take_lowest-end.new.self; lines = c.promise.new.self } in
    subst (λ (old : BoardIs). ChoosesLane old c.args.seen.now c.args.pool.now c.args.media.now c.in-Some.ticket drive c.take_lowest-end.result new) c.self.view_is
    (chooses b c.args.seen.now c.args.pool.now c.args.media.now c.in-Some.ticket drive place read c.take_lowest-end.new.self c.take_lowest-end.result c.promise.new.self
    c.self.invariant r there c.take_lowest-end.ensures c.in-Some.ensures.some c.in_default-promise.ensures.ok)

pub returns-clause-home : goal.returns-clause-home
returns-clause-home g c =
    let i = c.self.inside in
    let ds = i.drives.items in
    let place = c.drive_place-place.result in
    let drive = c.in-Ok.drive in
    let read = c.index_mut-lanes.result.now in
    let r = reached ds c.args.seen.now c.args.pool.now c.args.media.now drive place c.drive_place-place.ensures.number
    (subst (λ (xs : List DriveLanesIs). (at : ℕ) × (drive ≡ at + 1) × IsFirst (views_of xs c.args.seen.now) c.args.pool.now c.args.media.now at) c.deref.ensures.value c.in-Ok.ensures.ok) in
    let there = slice_get_read ds (length ds) place read refl r.within c.index_mut-lanes.ensures.value in
    let home = c.take_lowest-end.ensures.home in
    (home.drive_is ∙ c.self.invariant.numbered place read there ∙ sym r.number_is, home.over)

pub returns-in-Err-clause-why : goal.returns-in-Err-clause-why
returns-in-Err-clause-why g c =
    let b : BoardIs = record { names = c.self.inside.names; drives = c.self.inside.drives.items; lines = c.self.inside.lines } in
    let few = c.in-Some.ensures.left in
    let left : count_of b.lines ≢ most_number = λ is. omega (arith, few, is) in
    let none = subst (λ (ds : List DriveLanesIs). NoneTakes (views_of ds c.args.seen.now) c.args.pool.now c.args.media.now c.in-Err.why) c.deref.ensures.value c.in-Err.ensures.err in
    subst (λ (old : BoardIs). ChoosesNone old c.args.seen.now c.args.pool.now c.args.media.now c.in-Err.why) c.self.view_is (inr (inl (left, none)))
