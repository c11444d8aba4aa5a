-- Who fails by an event, and who is purged.
use Rattle.std.specs.Prelude.{◌≡◌, ◌≢◌, ◌⊎◌, ◌↔◌, ℕ, true, Some, List}
use Rattle.sd_base.specs.declared.refusal.Refusal.TheVariants.{SpoolFault, DeviceFault}
use Rattle.sd_driver.specs.Meaning.{Meaning}
use Rattle.sd_drive.specs.Moves.{FailsToSync}
use Rattle.sd_drive.specs.View.{DriveIs}
use Rattle.sd_journal.specs.Journal.{fails_with, has_on}
use Rattle.sd_machine.specs.declared.event.Event.{Event}
use Rattle.sd_machine.specs.declared.event.Event.TheVariants.{Spool, Despool, Sync, Mount, Unmount, Seek, Purge}
use Rattle.sd_machine.specs.declared.reply.Reply.{Reply}
use Rattle.sd_machine.specs.declared.reply.Reply.TheVariants.{Refused, Purged}
use Rattle.sd_session.specs.Session.{IsRunning}
use Rattle.sd_session.specs.declared.status.Status.TheVariants.{Failed, Purged as IsPurged}
use Rattle.sd_world.specs.World.{WorldView, WorldSession, BayView, IsOnline, session_at}
use Rattle.sd_world.specs.Moves.{Moves}
use Rattle.sd_world.specs.Rules.{IsWorld}

-- the event is a step of this session's own spool: into it, or out of it
abbrev pub IsOfSpool : Event → ℕ → Type 0
IsOfSpool (Spool ticket) own = ticket ≡ own
IsOfSpool (Despool ticket) own = ticket ≡ own
IsOfSpool event own = ⊥

-- the event may sync the loaded volume of this drive: it is a sync, or takes the volume out
abbrev pub IsOfSync : Event → ℕ → Type 0
IsOfSync (Sync drive) own = drive ≡ own
IsOfSync (Mount drive name) own = drive ≡ own
IsOfSync (Unmount drive) own = drive ≡ own
IsOfSync (Seek drive) own = drive ≡ own
IsOfSync event own = ⊥

-- the session's own spool failed: a step of it was answered with spool fault
abbrev pub SpoolFailed : Event → Reply → WorldSession → Type 0
SpoolFailed event reply e = IsOfSpool event e.session.key.id × (reply ≡ Refused SpoolFault)

-- a sync in the session's drive failed, which was answered with device fault, and a block of the session on that volume
-- wasn't synced
pub record SyncFailed {D : Type 0} (old : WorldView D) (event : Event) (reply : Reply) (new : WorldView D) (e : WorldSession) : Type 0 where
  pub of_sync : IsOfSync event e.drive
  pub fault : reply ≡ Refused DeviceFault
  pub at : ℕ
  pub bay : BayView D
  pub bay' : BayView D
  pub d : DriveIs D
  pub after : DriveIs D
  pub was : IsOnline old e.drive at bay d
  pub is : IsOnline new e.drive at bay' after
  pub sync : FailsToSync d after
  pub loses : fails_with e.session.key sync.volume.name d.journal ≡ true

-- Of the sessions exactly those fail that went on, and whose own spool failed or who lost a block by a sync: not failed
-- before, failed after.
abbrev pub FailByCause : {D : Type 0} → WorldView D → Event → Reply → WorldView D → Type 0
FailByCause old event reply new = (ticket : ℕ) (e e' : WorldSession)
    → session_at ticket old.sessions ≡ Some e → session_at ticket new.sessions ≡ Some e'
    → ((e.session.status ≢ Failed) × (e'.session.status ≡ Failed))
    ↔ (IsRunning e.session.status × (SpoolFailed event reply e ⊎ SyncFailed old event reply new e))

-- a volume of the session's drive on which a block of the session was placed was purged, or its device failed at that
pub record VolumeWasPurged {D : Type 0} (old : WorldView D) (event : Event) (reply : Reply) (e : WorldSession) : Type 0 where
  pub name : List ℕ
  pub of_purge : event ≡ Purge e.drive name
  pub answer : (reply ≡ Purged) ⊎ (reply ≡ Refused DeviceFault)
  pub at : ℕ
  pub bay : BayView D
  pub d : DriveIs D
  pub online : IsOnline old e.drive at bay d
  pub on : has_on e.session.key name d.journal ≡ true

-- Of the sessions exactly those become purged of whose blocks one was on such a volume.
abbrev pub PurgedByCause : {D : Type 0} → WorldView D → Event → Reply → WorldView D → Type 0
PurgedByCause old event reply new = (ticket : ℕ) (e e' : WorldSession)
    → session_at ticket old.sessions ≡ Some e → session_at ticket new.sessions ≡ Some e' → e.session.status ≢ IsPurged
    → (e'.session.status ≡ IsPurged) ↔ VolumeWasPurged old event reply e

-- Laws.

-- in every move exactly the sessions fail that have a cause
abbrev pub MovesFailByCause : Type 0 → Type 0
MovesFailByCause D = (meaning : D → Meaning) (old new : WorldView D) (event : Event) (reply : Reply)
    → IsWorld old → Moves meaning old event reply new → FailByCause old event reply new

-- in every move exactly the sessions are purged that have a cause
abbrev pub MovesPurgeByCause : Type 0 → Type 0
MovesPurgeByCause D = (meaning : D → Meaning) (old new : WorldView D) (event : Event) (reply : Reply)
    → IsWorld old → Moves meaning old event reply new → PurgedByCause old event reply new
