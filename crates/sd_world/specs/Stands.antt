-- What closed sessions keep: their spans, whatever happens afterwards.
use Rattle.std.specs.Prelude.{◌≡◌, ◌≢◌, ◌⊎◌, Some, List, []}
use Rattle.sd_base.specs.declared.number.SessionKey.{SessionKey}
use Rattle.sd_driver.specs.Meaning.{Meaning}
use Rattle.sd_machine.specs.Kept.{IsClosedOrPurged}
use Rattle.sd_machine.specs.declared.event.Event.{Event}
use Rattle.sd_machine.specs.declared.event.Event.TheVariants.{Media}
use Rattle.sd_machine.specs.declared.reply.Reply.{Reply}
use Rattle.sd_machine.specs.declared.reply.Reply.TheVariants.{Closed, Media as Spans}
use Rattle.sd_span.specs.declared.span.Span.{Span}
use Rattle.sd_world.specs.World.{WorldView, WorldSession, session_at}
use Rattle.sd_world.specs.Kept.{Stands, IsRetired}
use Rattle.sd_world.specs.Sessions.{SpansAt}
use Rattle.sd_world.specs.Stays.{AreClaimed}
use Rattle.sd_world.specs.Steps.{IsSound, IsStep}

-- The session of this key was closed with these spans, one at least, whose volumes are claimed for its drive; it is closed, or was
-- purged. Its drive's journal gives the spans, or the drive was retired.
abbrev pub StandsClosed : {D : Type 0} → WorldView D → SessionKey → List Span → Type 0
StandsClosed w key spans = Stands w key (λ e. IsClosedOrPurged e.session.status × (spans ≢ [])
    × AreClaimed w.desk e.drive spans × (SpansAt w e spans ⊎ IsRetired w e.drive))

-- who was closed with some spans stands closed with them
abbrev pub ClosedLast : {D : Type 0} → WorldView D → WorldView D → Type 0
ClosedLast old new = (key : SessionKey) (spans : List Span) → StandsClosed old key spans → StandsClosed new key spans

-- the session that a reply closed, if it closed one, stands closed with the spans of the reply
abbrev pub ReplyStands : {D : Type 0} → WorldView D → Reply → Type 0
ReplyStands w (Closed key spans) = StandsClosed w key spans
ReplyStands w reply = Unit {0}

-- the volumes of the spans that a reply tells of a session are claimed for its drive
abbrev pub ToldAreClaimed : {D : Type 0} → WorldView D → Event → Reply → Type 0
ToldAreClaimed w (Media ticket) (Spans spans) = (e : WorldSession) → session_at ticket w.sessions ≡ Some e → AreClaimed w.desk e.drive spans
ToldAreClaimed w event reply = Unit {0}

-- What a step keeps of spans: those of closed sessions stay, those of the session that it closed too, and the volumes
-- of spans that it tells are claimed.
pub record KeepsSpans {D : Type 0} (old : WorldView D) (event : Event) (reply : Reply) (new : WorldView D) : Type 0 where
  pub closed_last : ClosedLast old new
  pub stands : ReplyStands new reply
  pub told : ToldAreClaimed new event reply

-- Laws.

-- every step keeps so
abbrev pub StepsKeepSpans : Type 0 → Type 0
StepsKeepSpans D = (meaning : D → Meaning) (old new : WorldView D) (event : Event) (reply : Reply)
    → IsSound meaning old → IsStep meaning old event reply new → KeepsSpans old event reply new
