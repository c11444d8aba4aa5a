use Rattle.std.proofs.Common.{◌≡◌, Option, Some, None, refl, sym, ap, ◌∙◌, subst}
use Rattle.std.specs.Option.{option_copied, IsSome}
use Rattle.sd_lane.specs.declared.piece.Piece.{Piece}
use Rattle.sd_events.proofs.TakingLemmas.{queue_same, queue_rests, took}
use Rattle.sd_events.proofs.taking.take.Goals as goal

pub returns-in_default : goal.returns-in_default
returns-in_default g c = λ own desk.
    let full : Some c.in_default.field-0.now ≡ c.args.drive.now.hand = sym (ap option_copied c.in_default.is) ∙ c.hand.ensures in
    (None, (subst (λ (h : Option Piece). IsSome h) full refl, refl))

pub returns-in_default-try_take : goal.returns-in_default-try_take
returns-in_default-try_take g c = λ own desk.
    let t = c.in_default-try_take.ensures in
    let hand = sym c.hand.ensures ∙ ap option_copied c.in-None.is in
    (None, (hand, t.empty.0, queue_rests c.args.drive.now _ _ desk (queue_same _ _ _ _ _ _ t.lanes t.capacity (t.empty.1 ∙ sym t.empty.0))))

pub returns-in_default-new : goal.returns-in_default-new
returns-in_default-new g c = λ own desk.
    let t = c.in-Some.ensures.first in
    let some = c.in_default-new.ensures.within.1 (c.requires.first t.0 c.in-Some.piece _ t.1) in
    absurd (cc some)

pub returns : goal.returns
returns g c = λ own desk.
    let t = c.in-Some.ensures in (
      None,
      took c.args.drive.now c.give.new.self _ _ desk t.first.0 c.in-Some-new.ticket c.in-Some.piece _ (sym c.hand.ensures ∙ ap option_copied c.in-None.is)
          t.first.1 c.in-Some-new.ensures.value c.give.ensures (queue_same _ _ _ _ _ _ t.lanes t.capacity refl),
    )
