use Rattle.std.proofs.Common.{None, refl, sym, ◌∙◌, inl, inr}
use Rattle.sd_world.proofs.CallLemmas.{counted_well, counted_refused}
use Rattle.sd_events.proofs.DeskLemmas.{no_volume, adopt_free, released}
use Rattle.sd_events.proofs.adopting.adopt_noted.Goals as goal

pub returns-in_default : goal.returns-in_default
returns-in_default g c = λ queue. (None, inl ((λ e. c.in_default.not-None (c.drive_of.ensures ∙ e)), refl, refl))

pub returns-in_default-loaded : goal.returns-in_default-loaded
returns-in_default-loaded g c = λ queue.
    let unclaimed = sym c.drive_of.ensures ∙ c.in-None.is in
    (None, inr (inl (unclaimed, (λ e. c.in_default-loaded.not-None (c.loaded.ensures ∙ e)), refl, refl)))

pub returns-in_default-claim : goal.returns-in_default-claim
returns-in_default-claim g c = λ queue.
    let unclaimed = sym c.drive_of.ensures ∙ c.in-None.is in
    let loaded = sym c.loaded.ensures ∙ c.in-None-loaded.is in
    (None, inr (inr (inl (unclaimed, loaded, refl, (record { claims = c.in_default-claim.ensures.err; requests = c.claim.ensures.requests }, refl)))))

pub returns-in-Ok-adopt_noted : goal.returns-in-Ok-adopt_noted
returns-in-Ok-adopt_noted g c = λ queue.
    let e = c.in-Ok-adopt_noted.ensures in (
      None,
      record {
        none_loaded = sym c.loaded.ensures ∙ c.in-None-loaded.is;
        claims = record {
          unclaimed = sym c.drive_of.ensures ∙ c.in-None.is;
          claimed = c.in-Ok.ensures.claimed;
          others = c.in-Ok.ensures.others;
          requests = c.claim.ensures.requests;
        };
        adopts = e.ok;
        calls = record { counted = counted_well _ _ _ e.counted; keeps = e.keeps; others = e.others_last; whole_blocks = e.whole_blocks };
        is = refl;
      },
    )

pub returns-in-Err : goal.returns-in-Err
returns-in-Err g c = λ queue.
    let e = c.in-Err.ensures in
    let loaded = sym c.loaded.ensures ∙ c.in-None-loaded.is in
    let unclaimed = sym c.drive_of.ensures ∙ c.in-None.is in
    let due = adopt_free c.args.at.now c.args.name.now loaded (no_volume c.args.drive c.args.at.now c.args.desk.now c.args.name.now c.requires.claimed unclaimed) in
    let fault = e.faults due in (
      None,
      inr (inr (inr (record {
        none_loaded = loaded;
        unclaimed = unclaimed;
        knows = released c.args.name.now c.args.desk.now c.claim.new.self c.release.new.self unclaimed c.in-Ok.ensures.others
            c.release.ensures.others c.release.ensures.released c.claim.ensures.requests c.release.ensures.requests;
        cause = fault.0;
        why_is = fault.1;
        adds_none = e.err;
        calls = record { counted = counted_refused _ _ _ e.counted; keeps = e.keeps; others = e.others_last; whole_blocks = e.whole_blocks };
        due = λ honest not_device not_memory. e.due honest due not_device not_memory;
        same = e.same;
        lasts = e.refused_last;
        is = refl;
      }))),
    )
