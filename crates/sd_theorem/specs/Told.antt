-- What a world was asked and told, by its deeds alone.
use Rattle.std.specs.Prelude.{◌≡◌, ◌⊎◌, ℕ, All, List, ◌++◌}
use Rattle.sd_base.specs.declared.number.SessionKey.{SessionKey}
use Rattle.sd_machine.specs.Step.{IsAmong}
use Rattle.sd_machine.specs.declared.event.Event.{Event}
use Rattle.sd_machine.specs.declared.event.Event.TheVariants.{Close, Media, Adopt}
use Rattle.sd_machine.specs.declared.reply.Reply.{Reply}
use Rattle.sd_machine.specs.declared.reply.Reply.TheVariants.{Closed, Media as Spans, Adopted}
use Rattle.sd_span.specs.declared.span.Span.{Span}
use Rattle.sd_world.specs.Deeds.{Deed, Answered}

-- the event was given this reply in one of the deeds
abbrev pub WasGiven : Event → Reply → List Deed → Type 0
WasGiven event reply deeds = IsAmong deeds (Answered event reply)

-- the session of this key was closed, with these spans
abbrev pub WasClosedWith : SessionKey → List Span → List Deed → Type 0
WasClosedWith key spans deeds = (ticket : ℕ) × WasGiven (Close ticket) (Closed key spans) deeds

-- the spans of the session of this key were asked for, and these told
abbrev pub WereAsked : SessionKey → List Span → List Deed → Type 0
WereAsked key spans deeds = WasGiven (Media key.id) (Spans spans) deeds

-- The session of this key was closed, and these spans were told of it: with the close, or when they were asked for later.
abbrev pub WereToldClosed : SessionKey → List Span → List Deed → Type 0
WereToldClosed key spans deeds =
    WasClosedWith key spans deeds
    ⊎ ((first : List Deed) × (later : List Deed) × (others : List Span) × (deeds ≡ first ++ later)
    × WasClosedWith key others first × WereAsked key spans later)

-- this drive adopted the volume of each of the spans
abbrev pub WereAdopted : ℕ → List Span → List Deed → Type 0
WereAdopted drive spans deeds = All (λ (s : Span). (end : ℕ) × (next : ℕ) × WasGiven (Adopt drive s.volume) (Adopted end next) deeds) spans
