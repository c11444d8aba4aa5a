use Rattle.std.proofs.Common.{◌≡◌, None, refl, inl, inr}
use Rattle.sd_base.specs.declared.refusal.Refusal.TheVariants.{AlreadyLabelled, InUse}
use Rattle.sd_line.specs.Operates.{desk_of}
use Rattle.sd_line.proofs.AnswerLemmas.{there, loaded, none, adopt_dues}
use Rattle.sd_world.proofs.CallLemmas.{counted_well, counted_refused, drive_rests}
use Rattle.sd_line.proofs.ClaimLemmas.{claims_more, is_claimed, same_desk, unclaimed, with_claim}
use Rattle.sd_line.proofs.operating.adopt.Goals as goal

pub returns-in-Ok : goal.returns-in-Ok
returns-in-Ok g c = λ own queue requests.
    let e = c.in-Ok.ensures in
    let d = c.args.drive.now in
    let name = c.args.name.now in
    let desk = desk_of own d requests in
    elim (adopt_dues d name) [
      | there at found due ↦ absurd (let x = e.refused _ due in cc x)
      | loaded found in_ due ↦ absurd (let x = e.refused _ due in cc x)
      | none found out due ↦ (
        with_claim own name desk,
        None,
        record {
          none_loaded = out;
          claims = claims_more own name desk (unclaimed own d requests name found);
          adopts = e.ok;
          calls = record { counted = counted_well _ _ _ e.counted; keeps = e.keeps; others = e.others_last; whole_blocks = e.whole_blocks };
          is = refl;
        },
      )
    ]

pub returns-in-Err : goal.returns-in-Err
returns-in-Err g c = λ own queue requests.
    let e = c.in-Err.ensures in
    let d = c.args.drive.now in
    let name = c.args.name.now in
    let after = c.adopt.new.self in
    let desk = desk_of own d requests in
    let why = c.in-Err.why in
    elim (adopt_dues d name) [
      | there at found due ↦
          let is : why ≡ AlreadyLabelled = (let x = e.refused _ due in cc x) in
          (desk, None, inl (is_claimed own d requests name at found, is, drive_rests d after queue desk (e.unchanged (λ n. cc (n, due)))))
      | loaded found in_ due ↦
          let is : why ≡ InUse = (let x = e.refused _ due in cc x) in
          (desk, None, inr (inl (unclaimed own d requests name found, in_, is, drive_rests d after queue desk (e.unchanged (λ n. cc (n, due))))))
      | none found out due ↦
          let fault = e.faults due in (
            desk,
            None,
            inr (inr (inr (record {
              none_loaded = out;
              unclaimed = unclaimed own d requests name found;
              knows = same_desk desk;
              cause = fault.0;
              why_is = fault.1;
              adds_none = e.err;
              calls = record { counted = counted_refused _ _ _ e.counted; keeps = e.keeps; others = e.others_last; whole_blocks = e.whole_blocks };
              due = λ honest not_device not_memory. e.due honest due not_device not_memory;
              same = e.same;
              lasts = e.refused_last;
              is = refl;
            }))),
          )
    ]
