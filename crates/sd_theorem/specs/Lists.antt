-- What a caller has of the theorems, with queues in memory.
use Rattle.std.specs.Prelude.{◌≡◌, ◌⊎◌, ℕ, ◌≤◌, true, Some, Result, Err, List}
use Rattle.std.specs.Global.{Global}
use Rattle.sd_base.specs.Record.{Record}
use Rattle.sd_base.specs.declared.number.SessionKey.{SessionKey}
use Rattle.sd_base.specs.declared.refusal.Refusal.{Refusal}
use Rattle.sd_base.specs.declared.refusal.Refusal.TheVariants.{DriveOffline, VolumePurged}
use Rattle.sd_drive.specs.View.{DriveIs}
use Rattle.sd_driver.specs.Meaning.{Meaning}
use Rattle.sd_driver.specs.Shelf.{Shelf, AfterStop}
use Rattle.sd_lane.specs.Queue.{PlainView, lanes_view}
use Rattle.sd_machine.specs.Machine.{Machine, MachineSession, empty_machine, session_of}
use Rattle.sd_machine.specs.Step.{Run}
use Rattle.sd_memdrive.specs.Drive.{meaning_of}
use Rattle.sd_memdrive.specs.declared.drive.MemDrive.{MemDrive}
use Rattle.sd_world.specs.World.{WorldView, BayView, IsOnline}
use Rattle.sd_readback.specs.declared.read.ReadEnd.{ReadEnd}
use Rattle.sd_session.specs.declared.status.Status.TheVariants.{Closed, Purged}
use Rattle.sd_span.specs.declared.span.Span.{Span}
use Rattle.sd_spool.specs.Meaning.{Meaning as StoreMeaning}
use Rattle.sd_spool.specs.MemSpool.{meaning_of as store_of}
use Rattle.sd_spool.specs.declared.memory.MemSpool.{MemSpool}
use Rattle.sd_world.specs.Deeds.{events_in, replies_in}
use Rattle.sd_theorem.specs.Gives.{GivesAll}
use Rattle.sd_theorem.specs.Headline.{HasStatus}
use Rattle.sd_theorem.specs.Start.{Meanings, Start}
use Rattle.sd_theorem.specs.Stops.{WasClosed, deeds_of}

-- devices and stores of these kinds, with queues in memory
abbrev pub over : {D S : Type 0} → (D → Meaning) → (S → StoreMeaning) → Meanings D PlainView S
over device store = record { device = device; queue = λ q. lanes_view q; store = store }

-- devices, queues and stores in memory
abbrev pub in_memory : Meanings MemDrive PlainView MemSpool
in_memory = over (λ d. meaning_of d) (λ s. store_of s)

-- what a world over them is made of
abbrev pub MemoryStart : Type 0
MemoryStart = Start MemDrive PlainView MemSpool Global

-- The session is closed in the machine, and the read gave its list. Or its drive was retired, or a volume of it purged, which is
-- what it was answered.
pub record GivesList (m : Machine) (key : SessionKey) (got got' : List Record) (result : Result ReadEnd Refusal) : Type 0 where
  pub s : MachineSession
  pub there : session_of key.id m.sessions ≡ Some s
  pub key_is : s.key ≡ key
  pub gives : ((s.status ≡ Closed) × GivesAll s.records true got got' result)
      ⊎ (result ≡ Err DriveOffline)
      ⊎ ((s.status ≡ Purged) × (result ≡ Err VolumePurged))

-- this holds of what a device was when the session was closed on it
abbrev pub WhenClosed : {D Q S Z : Type 0} {is : Meanings D Q S} {start : Start D Q S Z} {key : SessionKey} {spans : List Span} {w : WorldView D}
    → WasClosed is start key spans w → (D → Type 0) → Type 0
WhenClosed {D} c holds = (bay : BayView D) (d : DriveIs D) → IsOnline c.closed.at_close c.closed.e.drive c.closed.at bay d → holds d.device

-- it had changed so often at most
abbrev pub ClosedBy : {D Q S Z : Type 0} {is : Meanings D Q S} {start : Start D Q S Z} {key : SessionKey} {spans : List Span} {w : WorldView D}
    → WasClosed is start key spans w → ℕ → Type 0
ClosedBy {is = is} c calls = WhenClosed c (λ device. (is.device device).shelf.moment ≤ calls)

-- a stop since then left this
abbrev pub LeftSince : {D Q S Z : Type 0} {is : Meanings D Q S} {start : Start D Q S Z} {key : SessionKey} {spans : List Span} {w : WorldView D}
    → WasClosed is start key spans w → Shelf → Type 0
LeftSince {is = is} c left = WhenClosed c (λ device. AfterStop (is.device device).shelf.moment (is.device c.closed.d.device).shelf left)

-- the run is one of the list machine, in which the session is closed; and this holds of its list
abbrev pub OfItsList : {D Q S Z : Type 0} {is : Meanings D Q S} {start : Start D Q S Z} {key : SessionKey} {spans : List Span} {w : WorldView D}
    → WasClosed is start key spans w → (List Record → Type 0) → Type 0
OfItsList {start = start} {key = key} c holds = (m : Machine)
    × Run (empty_machine start.time) (events_in (deeds_of c.closed)) (replies_in (deeds_of c.closed)) m
    × (has : HasStatus m key Closed) × holds has.s.records
