use Rattle.std.proofs.Common.{◌≡◌, ap, ◌∙◌, arith, Some}
use Rattle.sd_label.specs.Label.{volume_label_bytes}
use Rattle.sd_volume.specs.Image.{no_session}
use Rattle.sd_volume.proofs.AdoptLemmas.{label_begins, shown_is_label, shown_within}
use Rattle.sd_volume.proofs.survey.read_label.Goals as goal

pub returns-in_default-clause-not_ours : goal.returns-in_default-clause-not_ours
returns-in_default-clause-not_ours g c = λ honest shows held there whole label ours.
    let none = rw c.in_default.is at (c.in_ok-head.ensures.none honest shows) in
    none held there no_session 0 (volume_label_bytes label) (label_begins c.args.name.now held.bytes label ours)

pub returns-then-first-size-clause-not_ours : goal.returns-then-first-size-clause-not_ours
returns-then-first-size-clause-not_ours g c = λ honest shows held there whole label ours.
    let ensures = c.in_ok-head.ensures in
    let volume = (g.D.Driver.meaning c.next_block.new.driver).shelf.volume in
    let there_still : volume c.next_block.new.reader.name ≡ Some held = ap volume ensures.name ∙ (ensures.device.same honest _ ∙ there) in
    let shown = (rw c.in-Some.is at (ensures.there honest shows)) held there_still in
    let within = shown_within held.bytes c.next_block.new.reader.shown 0 c.in-Some.head shown (rw c.in-Some.is at ensures.block) (omega arith) in
    absurd (omega (arith, within, c.if-first-size.true))

pub returns-in_default-label_of-clause-not_ours : goal.returns-in_default-label_of-clause-not_ours
returns-in_default-label_of-clause-not_ours g c = λ honest shows held there whole label ours.
    let ensures = c.in_ok-head.ensures in
    let volume = (g.D.Driver.meaning c.next_block.new.driver).shelf.volume in
    let there_still : volume c.next_block.new.reader.name ≡ Some held = ap volume ensures.name ∙ (ensures.device.same honest _ ∙ there) in
    let shown = (rw c.in-Some.is at (ensures.there honest shows)) held there_still in
    let is = shown_is_label c.args.name.now held.bytes c.next_block.new.reader.shown c.in-Some.head label shown (rw c.in-Some.is at ensures.block) ours in
    c.in_default-label_of.ensures.none label (record { label_is = ours.label_is; name_is = ours.name_is; block_is = c.shown.ensures.shown ∙ is })
