-- The stop theorem: what was closed comes back after any stop.
use Rattle.std.specs.Prelude.{◌≡◌, ℕ, Some, List, ◌∷◌, ◌++◌}
use Rattle.sd_base.specs.declared.number.SessionKey.{SessionKey}
use Rattle.sd_drive.specs.View.{DriveIs}
use Rattle.sd_machine.specs.Machine.{Machine, empty_machine}
use Rattle.sd_machine.specs.Step.{Run}
use Rattle.sd_machine.specs.declared.event.Event.TheVariants.{Close}
use Rattle.sd_machine.specs.declared.reply.Reply.TheVariants.{Closed}
use Rattle.sd_session.specs.declared.status.Status.TheVariants as status
use Rattle.sd_span.specs.declared.span.Span.{Span}
use Rattle.sd_world.specs.World.{WorldView, WorldSession, BayView, IsOnline, session_at}
use Rattle.sd_world.specs.Deeds.{Deed, Answered, LeadsTo, events_in, replies_in}
use Rattle.sd_world.specs.Steps.{IsStep}
use Rattle.sd_theorem.specs.ByDrive.{IsHonestFor}
use Rattle.sd_theorem.specs.Headline.{HasStatus}
use Rattle.sd_theorem.specs.Returns.{Returns}
use Rattle.sd_theorem.specs.Runs.{NonePurgesOf}
use Rattle.sd_theorem.specs.Start.{Meanings, Start, IsMadeOf, StartsHonest}

-- In a run a session was closed, with these spans; from there the world did one deed after another, none of which purged a volume
-- of the spans, and is this one now; the session's drive is still online.
pub record ClosedInRun {D Q S Z : Type 0} (is : Meanings D Q S) (start : Start D Q S Z) (key : SessionKey) (spans : List Span)
    (w : WorldView D) : Type 0 where
  pub first : WorldView D
  pub begins : IsMadeOf is start first
  pub before : List Deed
  pub asked : WorldView D
  pub leads : LeadsTo is.device first before asked
  pub ticket : ℕ
  pub at_close : WorldView D
  pub closes : IsStep is.device asked (Close ticket) (Closed key spans) at_close
  pub after : List Deed
  pub goes_on : LeadsTo is.device at_close after w
  pub unpurged : NonePurgesOf spans after
  pub e : WorldSession
  pub there : session_at key.id w.sessions ≡ Some e
  pub at : ℕ
  pub bay : BayView D
  pub d : DriveIs D
  pub online : IsOnline w e.drive at bay d

-- so it was in a run that began honest
pub record WasClosed {D Q S Z : Type 0} (is : Meanings D Q S) (start : Start D Q S Z) (key : SessionKey) (spans : List Span)
    (w : WorldView D) : Type 0 where
  pub closed : ClosedInRun is start key spans w
  pub honest : StartsHonest is start

-- all deeds of the run
abbrev pub deeds_of : {D Q S Z : Type 0} {is : Meanings D Q S} {start : Start D Q S Z} {key : SessionKey} {spans : List Span} {w : WorldView D}
    → ClosedInRun is start key spans w → List Deed
deeds_of {key = key} {spans = spans} c = c.before ++ Answered (Close c.ticket) (Closed key spans) ∷ c.after

-- The run is one of the list machine, in which the session is closed; its drive was online when it was closed, and from then on
-- its records return.
pub record ComesBack {D Q S Z : Type 0} (is : Meanings D Q S) (start : Start D Q S Z) (key : SessionKey) (spans : List Span)
    (w : WorldView D) (c : ClosedInRun is start key spans w) : Type 0 where
  pub m : Machine
  pub run : Run (empty_machine start.time) (events_in (deeds_of c)) (replies_in (deeds_of c)) m
  pub has : HasStatus m key status.Closed
  pub bay_then : BayView D
  pub d_then : DriveIs D
  pub online_then : IsOnline c.at_close c.e.drive c.at bay_then d_then
  pub returns : Returns Z is key spans has.s.records (is.device d_then.device).shelf (is.device c.d.device).shelf

-- Laws.

-- so it is of every session that was closed, at every later moment
abbrev pub StopTheorem : Type 0 → Type 0 → Type 0 → Type 0 → Type 0
StopTheorem D Q S Z = (is : Meanings D Q S) (start : Start D Q S Z) (key : SessionKey) (spans : List Span) (w : WorldView D)
    (c : WasClosed is start key spans w)
    → ComesBack is start key spans w c.closed

-- and so if, whatever the other drives are, that of the session was honest when it was closed, and is now
abbrev pub StopByDrive : Type 0 → Type 0 → Type 0 → Type 0 → Type 0
StopByDrive D Q S Z = (is : Meanings D Q S) (start : Start D Q S Z) (key : SessionKey) (spans : List Span) (w : WorldView D)
    (c : ClosedInRun is start key spans w)
    → IsHonestFor is.device c.at_close key
    → IsHonestFor is.device w key
    → ComesBack is start key spans w c
