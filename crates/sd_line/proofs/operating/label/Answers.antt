use Rattle.std.proofs.Common.{◌≡◌, ℤ, w64, None, Err, refl, ap, subst, inl, inr}
use Rattle.std.proofs.lemmas.Int.{to_z-of_z}
use Rattle.sd_base.specs.declared.refusal.Refusal.TheVariants.{AlreadyLabelled, InUse, OtherPoolOrMedia}
use Rattle.sd_drive.specs.Moves.{AddsVolume, label_of}
use Rattle.sd_volume.proofs.DeviceLemmas.{Counted-as}
use Rattle.sd_volume.specs.Label.{Labels, new_volume}
use Rattle.sd_line.specs.Operates.{desk_of}
use Rattle.sd_line.proofs.AnswerLemmas.{other, loaded, there, none, label_dues}
use Rattle.sd_world.proofs.CallLemmas.{drive_rests}
use Rattle.sd_line.proofs.ClaimLemmas.{claims_more, is_claimed, same_desk, unclaimed, with_claim}
use Rattle.sd_line.proofs.operating.label.Goals as goal

pub returns-in-Ok : goal.returns-in-Ok
returns-in-Ok g c = λ own queue requests.
    let e = c.in-Ok.ensures in
    let d = c.args.drive.now in
    let name = c.args.name.now in
    let pool = c.args.pool.now in
    let media = c.args.media.now in
    let desk = desk_of own d requests in
    elim (label_dues d name media) [
      | other apart due ↦ absurd (let x = e.refused _ due in cc x)
      | loaded same in_ due ↦ absurd (let x = e.refused _ due in cc x)
      | there same out at found due ↦ absurd (let x = e.refused _ due in cc x)
      | none same out found due ↦ (
        with_claim own name desk,
        None,
        record {
          media_is = same;
          none_loaded = out;
          claims = claims_more own name desk (unclaimed own d requests name found);
          adds = subst (λ (z : ℤ). AddsVolume (new_volume (label_of d.limits.host name pool media z)) d c.label.new.self) (to_z-of_z w64 c.args.moment c.ranges.moment) e.ok;
          calls = record { counted = Counted-as _ _ _ _ _ _ (λ x. cc x) (λ x. absurd x) (λ x. cc x) (λ x. absurd x) e.counted; keeps = e.keeps; later = e.later };
          labels = λ honest. subst (λ (z : ℤ). Labels (label_of d.limits.host name pool media z) (g.D.Driver.meaning d.device).shelf (g.D.Driver.meaning c.label.new.self.device).shelf) (to_z-of_z w64 c.args.moment c.ranges.moment) (e.labels honest);
          is = refl;
        },
      )
    ]

pub returns-in-Err : goal.returns-in-Err
returns-in-Err g c = λ own queue requests.
    let e = c.in-Err.ensures in
    let d = c.args.drive.now in
    let name = c.args.name.now in
    let media = c.args.media.now in
    let after = c.label.new.self in
    let desk = desk_of own d requests in
    let why = c.in-Err.why in
    elim (label_dues d name media) [
      | other apart due ↦
          let is : why ≡ OtherPoolOrMedia = (let x = e.refused _ due in cc x) in
          (desk, None, inl (apart, is, drive_rests d after queue desk (e.unchanged (λ n. cc (n, due)))))
      | loaded same in_ due ↦
          let is : why ≡ InUse = (let x = e.refused _ due in cc x) in
          (desk, None, inr (inl (same, in_, is, drive_rests d after queue desk (e.unchanged (λ n. cc (n, due))))))
      | there same out at found due ↦
          let is : why ≡ AlreadyLabelled = (let x = e.refused _ due in cc x) in
          (desk, None, inr (inr (inl (same, out, is_claimed own d requests name at found, is, drive_rests d after queue desk (e.unchanged (λ n. cc (n, due)))))))
      | none same out found due ↦
          let fault = e.faults due in (
            desk,
            None,
            inr (inr (inr (inr (record {
              media_is = same;
              none_loaded = out;
              unclaimed = unclaimed own d requests name found;
              knows = same_desk desk;
              cause = fault.0;
              why_is = fault.1;
              adds_none = e.err;
              calls = record { counted = Counted-as _ _ _ _ _ _ (λ x. cc x) (λ x. ap Err x) (λ x. cc x) (λ x. ap Err x) e.counted; keeps = e.keeps; later = e.later };
              on_shelf = λ honest is. e.already honest due (ap Err is);
              off_shelf = λ honest stands. e.taken honest stands;
              may_create = e.fails;
              is = refl;
            })))),
          )
    ]
