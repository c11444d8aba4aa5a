use Rattle.std.proofs.Common.{None, refl, ap, arith}
use Rattle.sd_span.specs.declared.placement.Placement.{Placement}
use Rattle.sd_world.proofs.CallLemmas.{calls_are, drive_rests}
use Rattle.sd_volume.proofs.DeviceLemmas.{Counted-as}
use Rattle.sd_events.proofs.placing.place.Goals as goal

pub overflow_add-result : goal.overflow_add-result
overflow_add-result g c =
    let p = rw c.in-Ok-At.field-0-is at c.in-Ok-At.ensures.places in
    let start = ap (λ (x : Placement). x.start) p.on.1 in
    let count = ap (λ (x : Placement). x.length) p.on.1 in
    let within = p.on.0 in
    let limit = c.requires.limit in
    omega (arith, start, count, within, limit)

pub returns-in-Ok-At : goal.returns-in-Ok-At
returns-in-Ok-At g c = λ own queue desk.
    let places = rw c.in-Ok-At.field-0-is at c.in-Ok-At.ensures.places in
    let counted = rw c.in-Ok-At.field-0-is at c.in-Ok-At.ensures.counted in (
      None,
      (
        c.in-Ok-At.placement,
        refl,
        refl,
        refl,
        (
          places,
          calls_are (λ d. g.D.Driver.meaning d) ⊥ ⊥ _ _ (Counted-as _ _ _ _ _ _ (λ x. cc x) (λ x. absurd x) (λ x. (let y = x.0 in cc y)) (λ x. absurd x) counted) c.in-Ok-At.ensures.keeps c.in-Ok-At.ensures.later,
          refl,
        ),
      ),
    )

pub returns-in-Ok-NeedVolume : goal.returns-in-Ok-NeedVolume
returns-in-Ok-NeedVolume g c = λ own queue desk.
    let p = rw c.in-Ok-NeedVolume.field-0-is at c.in-Ok-NeedVolume.ensures.places in
    (None, ((p.0, p.1, refl), drive_rests _ _ queue desk p.2))

pub returns-in-Ok-VolumeFull : goal.returns-in-Ok-VolumeFull
returns-in-Ok-VolumeFull g c = λ own queue desk.
    let places = rw c.in-Ok-VolumeFull.field-0-is at c.in-Ok-VolumeFull.ensures.places in
    let counted = rw c.in-Ok-VolumeFull.field-0-is at c.in-Ok-VolumeFull.ensures.counted in (
      None,
      (
        places,
        calls_are (λ d. g.D.Driver.meaning d) ⊥ _ _ _ (Counted-as _ _ _ _ _ _ (λ x. cc x) (λ x. absurd x) (λ x. x.1) (λ x. (refl, x)) counted) c.in-Ok-VolumeFull.ensures.keeps c.in-Ok-VolumeFull.ensures.later,
        refl,
      ),
    )

pub returns-in-Ok-VolumeError : goal.returns-in-Ok-VolumeError
returns-in-Ok-VolumeError g c = λ own queue desk.
    let places = rw c.in-Ok-VolumeError.field-0-is at c.in-Ok-VolumeError.ensures.places in
    let counted = rw c.in-Ok-VolumeError.field-0-is at c.in-Ok-VolumeError.ensures.counted in (
      None,
      (
        places,
        calls_are (λ d. g.D.Driver.meaning d) _ ⊥ _ _ (Counted-as _ _ _ _ _ _ (λ x. tt) (λ x. refl) (λ x. (let y = x.0 in cc y)) (λ x. absurd x) counted) c.in-Ok-VolumeError.ensures.keeps c.in-Ok-VolumeError.ensures.later,
        refl,
      ),
    )

pub returns-in-Ok-Idle : goal.returns-in-Ok-Idle
returns-in-Ok-Idle g c = λ own queue desk.
    let p = rw c.in-Ok-Idle.field-0-is at c.in-Ok-Idle.ensures.places in
    (None, (p.0, drive_rests _ _ queue desk p.1))

pub returns-in-Err : goal.returns-in-Err
returns-in-Err g c = λ own queue desk.
    let p = c.in-Err.ensures.places in (
      None,
      (
        refl,
        (
          (record { piece = p.piece; at = p.at; volume = p.volume; after = p.after; ready = p.ready; on = p.on; room = p.room; becomes = p.becomes }, c.in-Err.ensures.unchanged.shelf),
          calls_are (λ d. g.D.Driver.meaning d) ⊥ ⊥ _ _ (Counted-as _ _ _ _ _ _ (λ x. cc x) (λ x. absurd x) (λ x. (let y = x.0 in cc y)) (λ x. absurd x) c.in-Err.ensures.counted) c.in-Err.ensures.keeps c.in-Err.ensures.later,
          refl,
        ),
      ),
    )
