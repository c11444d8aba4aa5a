-- What a world did since it was made, one deed after another: it answered events and read sessions back.
use Rattle.std.specs.Prelude.{◌≡◌, ℕ, ◌<◌, ◌^◌, true, Some, Result, List, [], ◌∷◌, ◌++◌}
use Rattle.sd_base.specs.Record.{Record}
use Rattle.sd_base.specs.declared.number.SessionKey.{SessionKey}
use Rattle.sd_base.specs.declared.refusal.Refusal.{Refusal}
use Rattle.sd_desk.specs.Desk.{is_purged_at}
use Rattle.sd_driver.specs.Meaning.{Meaning}
use Rattle.sd_machine.specs.Machine.{Machine}
use Rattle.sd_machine.specs.Step.{Run}
use Rattle.sd_machine.specs.declared.event.Event.{Event}
use Rattle.sd_machine.specs.declared.reply.Reply.{Reply}
use Rattle.sd_readback.specs.declared.read.ReadEnd.{ReadEnd}
use Rattle.sd_span.specs.declared.span.Span.{Span}
use Rattle.sd_world.specs.Honest.{AreHonest}
use Rattle.sd_world.specs.Kept.{StatusesStay, ClaimsLast, PurgesName}
use Rattle.sd_world.specs.World.{WorldView, WorldSession, session_at}
use Rattle.sd_world.specs.Matches.{Matches}
use Rattle.sd_world.specs.Devices.{DevicesGoOn}
use Rattle.sd_world.specs.Grows.{AllGrow}
use Rattle.sd_world.specs.Reading.{ReadsWorld}
use Rattle.sd_world.specs.Seats.{SeatsStay}
use Rattle.sd_world.specs.Stands.{ClosedLast}
use Rattle.sd_world.specs.Steps.{IsSound, IsStep, StepsAlong}

-- What a world did at once: it gave an event this reply; or it read the session of a key back by these spans, where the
-- sink had got some records before and had got these then, with this answer.
pub data Deed : Type 0 where
  Answered : Event → Reply → Deed
  ReadBack : SessionKey → List Span → List Record → List Record → Result ReadEnd Refusal → Deed

-- the session's counts are 64 bits wide
abbrev pub CountsFit : List WorldSession → SessionKey → Type 0
CountsFit sessions key = (e : WorldSession) → session_at key.id sessions ≡ Some e
    → (e.session.count < 2 ^ 64) × (e.session.bytes < 2 ^ 64)

-- a session is read back, and the world is sound then; the session's counts are 64 bits wide
pub record IsRead {D : Type 0} (meaning : D → Meaning) (key : SessionKey) (spans : List Span) (got got' : List Record)
    (result : Result ReadEnd Refusal) (old new : WorldView D) : Type 0 where
  pub reads : ReadsWorld meaning key spans got got' result old new
  pub sound : IsSound meaning new
  pub fit : CountsFit old.sessions key

-- from the one world the deed leads to the other
abbrev pub IsDone : {D : Type 0} → (D → Meaning) → Deed → WorldView D → WorldView D → Type 0
IsDone meaning (Answered event reply) old new = IsStep meaning old event reply new
IsDone meaning (ReadBack key spans got got' result) old new = IsRead meaning key spans got got' result old new

-- from the one world these deeds lead to the other, one after another, and nothing else
abbrev pub LeadsTo : {D : Type 0} → (D → Meaning) → WorldView D → List Deed → WorldView D → Type 0
LeadsTo meaning old [] new = new ≡ old
LeadsTo {D} meaning old (deed ∷ deeds) new = (between : WorldView D) × IsDone meaning deed old between × LeadsTo meaning between deeds new

-- the events that were answered in these deeds
abbrev pub events_in : List Deed → List Event
events_in [] = []
events_in (Answered event reply ∷ deeds) = event ∷ events_in deeds
events_in (ReadBack key spans got got' result ∷ deeds) = events_in deeds

-- and the replies to them
abbrev pub replies_in : List Deed → List Reply
replies_in [] = []
replies_in (Answered event reply ∷ deeds) = reply ∷ replies_in deeds
replies_in (ReadBack key spans got got' result ∷ deeds) = replies_in deeds

-- no deed purged the volume of this name
abbrev pub NonePurges : List Deed → List ℕ → Type 0
NonePurges [] name = Unit {0}
NonePurges (Answered event reply ∷ deeds) name = (PurgesName event reply name → ⊥) × NonePurges deeds name
NonePurges (ReadBack key spans got got' result ∷ deeds) name = NonePurges deeds name

-- from this machine the events run, with these replies, to one that the new world matches
abbrev pub RunsTo : {D : Type 0} → (D → Meaning) → Machine → List Event → List Reply → WorldView D → Type 0
RunsTo meaning m events replies new = (m' : Machine) × Run m events replies m' × Matches meaning new m'

-- What a world keeps of an earlier one that did these deeds: closed sessions stay closed, or are purged, and keep their
-- spans; sessions keep their keys and drives, and journals their placements; what is claimed stays so, and none is noted as
-- purged that wasn't; the devices go on, and volumes that weren't purged keep their blocks; and what was honest is.
pub record StaysFrom {D : Type 0} (meaning : D → Meaning) (deeds : List Deed) (old new : WorldView D) : Type 0 where
  pub statuses : StatusesStay old new
  pub closed : ClosedLast old new
  pub seats : SeatsStay old new
  pub grow : AllGrow old new
  pub claims : ClaimsLast old new
  pub unpurged : (name : List ℕ) → NonePurges deeds name → is_purged_at new.desk name ≡ true → is_purged_at old.desk name ≡ true
  pub devices : DevicesGoOn meaning (NonePurges deeds) old new
  pub honest : AreHonest meaning old → AreHonest meaning new

-- these events were given these replies, one after another
abbrev pub answered : List Event → List Reply → List Deed
answered [] replies = []
answered (event ∷ events) [] = []
answered (event ∷ events) (reply ∷ replies) = Answered event reply ∷ answered events replies

-- Laws.

-- steps one after another are deeds, with the same events and replies
abbrev pub StepsLead : Type 0 → Type 0
StepsLead D = (meaning : D → Meaning) (old new : WorldView D) (events : List Event) (replies : List Reply)
    → StepsAlong meaning old events replies new
    → LeadsTo meaning old (answered events replies) new
    × (events_in (answered events replies) ≡ events) × (replies_in (answered events replies) ≡ replies)

-- what leads to a world, and on from there, leads all the way
abbrev pub LeadsJoin : Type 0 → Type 0
LeadsJoin D = (meaning : D → Meaning) (old middle new : WorldView D) (first second : List Deed)
    → LeadsTo meaning old first middle → LeadsTo meaning middle second new → LeadsTo meaning old (first ++ second) new

-- whatever a sound world did, it is sound, and keeps what a world keeps
abbrev pub LeadsKeep : Type 0 → Type 0
LeadsKeep D = (meaning : D → Meaning) (old new : WorldView D) (deeds : List Deed)
    → IsSound meaning old → LeadsTo meaning old deeds new → IsSound meaning new × StaysFrom meaning deeds old new

-- and its events, with their replies, are a run of each machine that it matched
abbrev pub LeadsRun : Type 0 → Type 0
LeadsRun D = (meaning : D → Meaning) (old new : WorldView D) (deeds : List Deed) (m : Machine)
    → IsSound meaning old → LeadsTo meaning old deeds new → Matches meaning old m
    → RunsTo meaning m (events_in deeds) (replies_in deeds) new
