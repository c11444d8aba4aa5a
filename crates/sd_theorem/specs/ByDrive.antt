-- The session theorem drive by drive, and with the cause of each strike.
use Rattle.std.specs.Prelude.{◌≡◌, ◌≢◌, ℕ, Some, Result, List, [], ◌∷◌, ◌++◌}
use Rattle.sd_base.specs.Record.{Record}
use Rattle.sd_base.specs.declared.number.SessionKey.{SessionKey}
use Rattle.sd_base.specs.declared.refusal.Refusal.{Refusal}
use Rattle.sd_driver.specs.Meaning.{Meaning}
use Rattle.sd_drive.specs.View.{DriveIs}
use Rattle.sd_machine.specs.Machine.{Machine, empty_machine}
use Rattle.sd_machine.specs.Step.{Run}
use Rattle.sd_machine.specs.declared.event.Event.{Event}
use Rattle.sd_machine.specs.declared.reply.Reply.{Reply}
use Rattle.sd_readback.specs.declared.read.ReadEnd.{ReadEnd}
use Rattle.sd_session.specs.declared.status.Status.TheVariants.{Cancelled}
use Rattle.sd_span.specs.declared.span.Span.{Span}
use Rattle.sd_world.specs.Deeds.{Deed, Answered, IsRead, LeadsTo, events_in, replies_in}
use Rattle.sd_world.specs.Fails.{FailByCause, PurgedByCause}
use Rattle.sd_world.specs.Matches.{IsHonestAt, Matches}
use Rattle.sd_world.specs.Steps.{IsStep}
use Rattle.sd_world.specs.World.{WorldView, WorldSession, BayView, IsOnline, session_at}
use Rattle.sd_theorem.specs.Headline.{HasStatus, ReadsCancelled, ReadsClosed}
use Rattle.sd_theorem.specs.Start.{IsMadeOf, Meanings, Start}
use Rattle.sd_theorem.specs.Told.{WereAsked, WereToldClosed}

-- The drive of the session of this key, if it is online, has an honest device, and honest stores: those in its lanes, and those that
-- its sessions have. Of other drives nothing is asked.
abbrev pub IsHonestFor : {D : Type 0} → (D → Meaning) → WorldView D → SessionKey → Type 0
IsHonestFor {D} meaning w key = (e : WorldSession) → session_at key.id w.sessions ≡ Some e
    → (at : ℕ) (bay : BayView D) (d : DriveIs D) → IsOnline w e.drive at bay d → IsHonestAt meaning w at bay d

-- Each of these deeds that answered an event struck just the sessions that had a cause: those failed whose own spool failed, or who
-- lost a block by a sync that failed; and those became purged who had a block on a volume that was purged.
abbrev pub StrikesByCause : {D : Type 0} → (D → Meaning) → WorldView D → List Deed → Type 0
StrikesByCause {D} meaning first deeds = (before after : List Deed) (event : Event) (reply : Reply) (old new : WorldView D)
    → deeds ≡ before ++ Answered event reply ∷ after
    → LeadsTo meaning first before old
    → IsStep meaning old event reply new
    → FailByCause old event reply new × PurgedByCause old event reply new

-- The events of these deeds and the replies to them are a run of the list machine, the world's sessions are those of the machine,
-- and each strike had its cause. A closed session is read to its records, and a cancelled one to the first of them, while its own
-- drive is honest.
pub record IsOfListsByDrive {D Q S Z : Type 0} (is : Meanings D Q S) (start : Start D Q S Z) (first : WorldView D) (deeds : List Deed)
    (w : WorldView D) : Type 0 where
  pub m : Machine
  pub run : Run (empty_machine start.time) (events_in deeds) (replies_in deeds) m
  pub matches : Matches is.device w m
  pub strikes : StrikesByCause is.device first deeds
  pub closed : (key : SessionKey) (spans : List Span) → WereToldClosed key spans deeds → IsHonestFor is.device w key
      → (after : WorldView D) (got got' : List Record) (result : Result ReadEnd Refusal)
      → IsRead is.device key spans got got' result w after
      → ReadsClosed is.device w m key spans got got' result
  pub cancelled : (key : SessionKey) (spans : List Span) → WereAsked key spans deeds → spans ≢ [] → HasStatus m key Cancelled
      → IsHonestFor is.device w key
      → (after : WorldView D) (got got' : List Record) (result : Result ReadEnd Refusal)
      → IsRead is.device key spans got got' result w after
      → ReadsCancelled is.device w m key spans got got' result

-- Law.

-- So it is at every moment, whatever events a world answered and whatever it read back, in any order.
abbrev pub HeadlineByDrive : Type 0 → Type 0 → Type 0 → Type 0 → Type 0
HeadlineByDrive D Q S Z = (is : Meanings D Q S) (start : Start D Q S Z) (first w : WorldView D) (deeds : List Deed)
    → IsMadeOf is start first
    → LeadsTo is.device first deeds w
    → IsOfListsByDrive is start first deeds w
