use Rattle.std.proofs.Common.{sym, ap, ◌∙◌, inl}
use Rattle.std.specs.Option.{option_copied}
use Rattle.sd_events.proofs.UsingLemmas.{only_first}
use Rattle.sd_events.proofs.retiring.is_used.Goals as goal

pub returns : goal.returns
returns g c = (
  λ told. inl (c.has_busy_lane.ensures.0 told),
  λ used. c.has_busy_lane.ensures.1 (only_first used
      (λ loaded. loaded (sym c.loaded.ensures ∙ c.in-None.is))
      (λ hand. hand (sym c.hand.ensures ∙ ap option_copied c.in-None-hand.is))
      (λ held. held (c.is_empty.ensures.0 c.if-not-is_empty.false))),
)
