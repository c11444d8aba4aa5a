use Rattle.std.proofs.Common.{◌≡◌, ◌≤◌, inl, inr, ap, ◌∙◌, arith, length, take, drop, refl}
use Rattle.std.proofs.lemmas.List.{length-take-le}
use Rattle.sd_volume.proofs.ReaderLemmas.{moved_front, held_from}
use Rattle.sd_volume.proofs.reader.VolumeReader.turn_to.Goals as goal

pub returns-clause-shows : goal.returns-clause-shows
returns-clause-shows c = λ shelf shows held there.
    let r = c.self.inside in
    let kept = c.kept_from-kept.result in
    let fits = c.self.invariant in
    let shows' = rw (← c.self.view_is) at shows in
    let ensures = rw (← c.self.view_is) at c.kept_from-kept.ensures in
    let long : length (take r.held r.buffer.items) ≡ r.held = length-take-le r.held r.buffer.items (omega (arith, fits.length_is, fits.held_most)) in
    let most : kept ≤ r.held = omega (arith, ensures.most) in
    let moved = moved_front r.buffer.items c.copy_within.new.self.items r.held kept most (omega (arith, fits.length_is, fits.held_most)) c.copy_within.ensures.items in
    elim ensures.there [
      | inl none ↦ rw none refl
      | inr some ↦ held_from held.bytes (take r.held r.buffer.items) (take kept c.copy_within.new.self.items) r.from c.args.at (shows' held there) some.0 (omega (arith, some.1)) (moved ∙ ap (λ n. drop n (take r.held r.buffer.items)) (omega (arith, some.1)))
    ]
