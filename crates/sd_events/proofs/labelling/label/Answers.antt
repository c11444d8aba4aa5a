use Rattle.std.proofs.Common.{ℤ, w64, None, Err, refl, sym, ap, ◌∙◌, subst, inl, inr}
use Rattle.std.proofs.lemmas.Int.{to_z-of_z}
use Rattle.sd_drive.specs.Moves.{AddsVolume, label_of}
use Rattle.sd_volume.specs.Label.{Labels, new_volume}
use Rattle.sd_world.proofs.CallLemmas.{calls_are}
use Rattle.sd_volume.proofs.DeviceLemmas.{Counted-as}
use Rattle.sd_events.proofs.DeskLemmas.{no_volume, label_free, released}
use Rattle.sd_events.proofs.labelling.label.Goals as goal

pub returns-then-not-is_same : goal.returns-then-not-is_same
returns-then-not-is_same g c = λ queue.
    let other = c.if-not-is_same.true in
    (None, inl ((λ e. (let t = c.is_same.ensures.1 (e ∙ sym c.media.ensures) in cc (t, other))), refl, refl))

pub returns-in_default : goal.returns-in_default
returns-in_default g c = λ queue.
    let media = c.is_same.ensures.0 c.if-not-is_same.false ∙ c.media.ensures in
    (None, inr (inl (media, (λ e. c.in_default.not-None (c.loaded.ensures ∙ e)), refl, refl)))

pub returns-in_default-drive_of : goal.returns-in_default-drive_of
returns-in_default-drive_of g c = λ queue.
    let media = c.is_same.ensures.0 c.if-not-is_same.false ∙ c.media.ensures in
    let loaded = sym c.loaded.ensures ∙ c.in-None.is in
    (None, inr (inr (inl (media, loaded, (λ e. c.in_default-drive_of.not-None (c.drive_of.ensures ∙ e)), refl, refl))))

pub returns-in_default-claim : goal.returns-in_default-claim
returns-in_default-claim g c = λ queue.
    let media = c.is_same.ensures.0 c.if-not-is_same.false ∙ c.media.ensures in
    let loaded = sym c.loaded.ensures ∙ c.in-None.is in
    let unclaimed = sym c.drive_of.ensures ∙ c.in-None-drive_of.is in
    (None, inr (inr (inr (inl (media, loaded, unclaimed, refl, (record { claims = c.in_default-claim.ensures.err; requests = c.claim.ensures.requests }, refl))))))

pub returns-in-Ok-label : goal.returns-in-Ok-label
returns-in-Ok-label g c = λ queue.
    let e = c.in-Ok-label.ensures in (
      None,
      record {
        media_is = c.is_same.ensures.0 c.if-not-is_same.false ∙ c.media.ensures;
        none_loaded = sym c.loaded.ensures ∙ c.in-None.is;
        claims = record {
          unclaimed = sym c.drive_of.ensures ∙ c.in-None-drive_of.is;
          claimed = c.in-Ok.ensures.claimed;
          others = c.in-Ok.ensures.others;
          requests = c.claim.ensures.requests;
        };
        adds = subst (λ (z : ℤ). AddsVolume (new_volume (label_of c.args.at.now.limits.host c.args.name.now c.args.pool.now c.args.media.now z)) c.args.at.now c.label.new.self) (to_z-of_z w64 c.args.moment c.ranges.moment) e.ok;
        calls = calls_are (λ d. g.D.Driver.meaning d) ⊥ ⊥ _ _ (Counted-as _ _ _ _ _ _ (λ x. cc x) (λ x. absurd x) (λ x. cc x) (λ x. absurd x) e.counted) e.keeps e.later;
        labels = λ honest. subst (λ (z : ℤ). Labels (label_of c.args.at.now.limits.host c.args.name.now c.args.pool.now c.args.media.now z) (g.D.Driver.meaning c.args.at.now.device).shelf (g.D.Driver.meaning c.label.new.self.device).shelf) (to_z-of_z w64 c.args.moment c.ranges.moment) (e.labels honest);
        is = refl;
      },
    )

pub returns-in-Err : goal.returns-in-Err
returns-in-Err g c = λ queue.
    let e = c.in-Err.ensures in
    let media = c.is_same.ensures.0 c.if-not-is_same.false ∙ c.media.ensures in
    let loaded = sym c.loaded.ensures ∙ c.in-None.is in
    let unclaimed = sym c.drive_of.ensures ∙ c.in-None-drive_of.is in
    let due = label_free c.args.at.now c.args.name.now c.args.media.now media loaded
    (no_volume c.args.drive c.args.at.now c.args.desk.now c.args.name.now c.requires.claimed unclaimed) in
    let fault = e.faults due in (
      None,
      inr (inr (inr (inr (record {
        media_is = media;
        none_loaded = loaded;
        unclaimed = unclaimed;
        knows = released c.args.name.now c.args.desk.now c.claim.new.self c.release.new.self unclaimed c.in-Ok.ensures.others
            c.release.ensures.others c.release.ensures.released c.claim.ensures.requests c.release.ensures.requests;
        cause = fault.0;
        why_is = fault.1;
        adds_none = e.err;
        calls = calls_are (λ d. g.D.Driver.meaning d) _ _ _ _ (Counted-as _ _ _ _ _ _ (λ x. cc x) (λ x. ap Err x) (λ x. cc x) (λ x. ap Err x) e.counted) e.keeps e.later;
        on_shelf = λ honest is. e.already honest due (ap Err is);
        off_shelf = λ honest stands. e.taken honest stands;
        may_create = e.fails;
        is = refl;
      })))),
    )
