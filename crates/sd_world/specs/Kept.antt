-- What a world keeps of closed sessions, whatever happens to it: that they are closed, or purged; and their spans, until their
-- drive is retired.
use Rattle.std.specs.Prelude.{◌≡◌, ◌⊎◌, ℕ, ◌+◌, true, Some, None, List, slice_get}
use Rattle.sd_base.specs.declared.number.SessionKey.{SessionKey}
use Rattle.sd_base.specs.declared.refusal.Refusal.TheVariants.{DeviceFault}
use Rattle.sd_desk.specs.Desk.{claimed_by, is_purged_at}
use Rattle.sd_driver.specs.Meaning.{Meaning}
use Rattle.sd_machine.specs.Kept.{IsClosedOrPurged}
use Rattle.sd_machine.specs.declared.event.Event.{Event}
use Rattle.sd_machine.specs.declared.event.Event.TheVariants.{Purge}
use Rattle.sd_machine.specs.declared.reply.Reply.{Reply}
use Rattle.sd_machine.specs.declared.reply.Reply.TheVariants.{Refused, Closed, Purged}
use Rattle.sd_session.specs.declared.status.Status.TheVariants.{Closed as IsClosed}
use Rattle.sd_span.specs.declared.span.Span.{Span}
use Rattle.sd_world.specs.World.{WorldView, WorldSession, BayView, session_at}
use Rattle.sd_world.specs.Sessions.{SpansAt}
use Rattle.sd_world.specs.Moves.{Moves}
use Rattle.sd_world.specs.Rules.{IsWorld}

-- the drive of this number was retired: it is offline for good
abbrev pub IsRetired : {D : Type 0} → WorldView D → ℕ → Type 0
IsRetired {D} w drive = (at : ℕ) × (bay : BayView D) × (drive ≡ at + 1) × (slice_get w.bays at ≡ Some bay) × (bay.drive ≡ None)

-- The session of this key is so, whatever happened to it since it was closed: this holds of it.
pub record Stands {D : Type 0} (w : WorldView D) (key : SessionKey) (so : WorldSession → Type 0) : Type 0 where
  pub e : WorldSession
  pub there : session_at key.id w.sessions ≡ Some e
  pub key_is : e.session.key ≡ key
  pub holds : so e

-- the session of this key is closed, its drive is online, and these are its spans
abbrev pub IsClosedAt : {D : Type 0} → WorldView D → SessionKey → List Span → Type 0
IsClosedAt w key spans = Stands w key (λ e. (e.session.status ≡ IsClosed) × SpansAt w e spans)

-- each session that was closed or purged is one of both
abbrev pub StatusesStay : {D : Type 0} → WorldView D → WorldView D → Type 0
StatusesStay old new = (key : SessionKey) → Stands old key (λ e. IsClosedOrPurged e.session.status)
    → Stands new key (λ e. IsClosedOrPurged e.session.status)

-- closed and purged sessions keep their spans, unless their drive is retired
abbrev pub SpansStay : {D : Type 0} → WorldView D → WorldView D → Type 0
SpansStay old new = (key : SessionKey) (spans : List Span) → Stands old key (λ e. IsClosedOrPurged e.session.status × SpansAt old e spans)
    → Stands new key (λ e. (IsClosedOrPurged e.session.status × SpansAt new e spans) ⊎ IsRetired new e.drive)

-- what is claimed stays claimed for its drive
abbrev pub ClaimsLast : {D : Type 0} → WorldView D → WorldView D → Type 0
ClaimsLast old new = (name : List ℕ) (drive : ℕ) → claimed_by old.desk name ≡ Some drive → claimed_by new.desk name ≡ Some drive

-- the event emptied the volume of this name: a purge of it, which was done, or failed by the device
abbrev pub PurgesName : Event → Reply → List ℕ → Type 0
PurgesName (Purge drive volume) Purged name = volume ≡ name
PurgesName (Purge drive volume) (Refused DeviceFault) name = volume ≡ name
PurgesName event reply name = ⊥

-- no volume is noted as purged that wasn't, but for one that the event purged
abbrev pub PurgedLast : {D : Type 0} → WorldView D → Event → Reply → WorldView D → Type 0
PurgedLast old event reply new = (name : List ℕ) → (PurgesName event reply name → ⊥)
    → is_purged_at new.desk name ≡ true → is_purged_at old.desk name ≡ true

-- the session that a reply closed is closed, and has the spans of the reply; no other reply closes one
abbrev pub ClosedStands : {D : Type 0} → WorldView D → Reply → Type 0
ClosedStands w (Closed key spans) = IsClosedAt w key spans
ClosedStands w reply = Unit {0}

-- Laws.

-- a move keeps the rules of worlds
abbrev pub MovesKeepRules : Type 0 → Type 0
MovesKeepRules D = (meaning : D → Meaning) (old new : WorldView D) (event : Event) (reply : Reply)
    → IsWorld old → Moves meaning old event reply new → IsWorld new

-- a move keeps what closed sessions have
pub record KeepsClosed {D : Type 0} (old : WorldView D) (reply : Reply) (new : WorldView D) : Type 0 where
  pub statuses : StatusesStay old new
  pub spans : SpansStay old new
  pub stands : ClosedStands new reply

-- every move keeps what closed sessions have
abbrev pub MovesKeepClosed : Type 0 → Type 0
MovesKeepClosed D = (meaning : D → Meaning) (old new : WorldView D) (event : Event) (reply : Reply)
    → IsWorld old → Moves meaning old event reply new → KeepsClosed old reply new

-- every move keeps what is claimed, and notes no volume as purged but one that it purged
abbrev pub MovesKeepClaims : Type 0 → Type 0
MovesKeepClaims D = (meaning : D → Meaning) (old new : WorldView D) (event : Event) (reply : Reply)
    → Moves meaning old event reply new → ClaimsLast old new × PurgedLast old event reply new
