-- The session theorem: a daemon is a machine of lists to its clients, and gives back what it acknowledged.
use Rattle.std.specs.Prelude.{◌≡◌, ◌≢◌, ◌⊎◌, Bool, true, Some, Result, List, [], ◌++◌}
use Rattle.sd_base.specs.Record.{Record}
use Rattle.sd_base.specs.declared.number.SessionKey.{SessionKey}
use Rattle.sd_base.specs.declared.refusal.Refusal.{Refusal}
use Rattle.sd_driver.specs.Meaning.{Meaning}
use Rattle.sd_machine.specs.Machine.{Machine, MachineSession, empty_machine, session_of}
use Rattle.sd_machine.specs.Step.{Run}
use Rattle.sd_readback.specs.declared.read.ReadEnd.{ReadEnd}
use Rattle.sd_session.specs.declared.status.Status.{Status}
use Rattle.sd_session.specs.declared.status.Status.TheVariants.{Closed, Cancelled, Purged}
use Rattle.sd_span.specs.declared.span.Span.{Span}
use Rattle.sd_world.specs.World.{WorldView, WorldSession, session_at}
use Rattle.sd_world.specs.Matches.{Matches}
use Rattle.sd_world.specs.Deeds.{Deed, IsRead, LeadsTo, events_in, replies_in}
use Rattle.sd_theorem.specs.Gives.{ReadsOnline, IsAnsweredOffline, IsAnsweredPurged}
use Rattle.sd_theorem.specs.Start.{Meanings, Start, IsMadeOf, StartsHonest}
use Rattle.sd_theorem.specs.Told.{WereAsked, WereToldClosed}

-- the machine's session of this key has this status
pub record HasStatus (m : Machine) (key : SessionKey) (status : Status) : Type 0 where
  pub s : MachineSession
  pub there : session_of key.id m.sessions ≡ Some s
  pub key_is : s.key ≡ key
  pub status_is : s.status ≡ status

-- The session is closed in the machine, and the read gave exactly its records, once each and in order, with its end. Or its
-- drive was retired, or a volume of it purged, which is what the read was answered.
pub record ReadsClosed {D : Type 0} (meaning : D → Meaning) (w : WorldView D) (m : Machine) (key : SessionKey) (spans : List Span)
    (got got' : List Record) (result : Result ReadEnd Refusal) : Type 0 where
  pub s : MachineSession
  pub has : session_of key.id m.sessions ≡ Some s
  pub key_is : s.key ≡ key
  pub e : WorldSession
  pub there : session_at key.id w.sessions ≡ Some e
  pub reads : ((s.status ≡ Closed) × ReadsOnline meaning w e.drive key spans s.records true got got' result)
      ⊎ IsAnsweredOffline w e.drive got got' result
      ⊎ ((s.status ≡ Purged) × IsAnsweredPurged got got' result)

-- The read gave records that begin those of the machine's session: what is whole in its bodies in the spans.
pub record ReadsFront {D : Type 0} (meaning : D → Meaning) (w : WorldView D) (s : MachineSession) (e : WorldSession) (key : SessionKey)
    (spans : List Span) (got got' : List Record) (result : Result ReadEnd Refusal) : Type 0 where
  pub records : List Record
  pub others : List Record
  pub ended : Bool
  pub begin : s.records ≡ records ++ others
  pub reads : ReadsOnline meaning w e.drive key spans records ended got got' result

-- the session of this key was cancelled; the read gave records that begin its own; or its drive was retired, which is what
-- the read was answered
pub record ReadsCancelled {D : Type 0} (meaning : D → Meaning) (w : WorldView D) (m : Machine) (key : SessionKey) (spans : List Span)
    (got got' : List Record) (result : Result ReadEnd Refusal) : Type 0 where
  pub has : HasStatus m key Cancelled
  pub e : WorldSession
  pub there : session_at key.id w.sessions ≡ Some e
  pub reads : ReadsFront meaning w has.s e key spans got got' result ⊎ IsAnsweredOffline w e.drive got got' result

-- The events of these deeds and the replies to them are a run of the list machine, and the world's sessions are those of
-- the machine. While every device and every store is honest that the world was made of, a closed session is read to its
-- records, and a cancelled one to the first of them.
pub record IsOfLists {D Q S Z : Type 0} (is : Meanings D Q S) (start : Start D Q S Z) (deeds : List Deed) (w : WorldView D) : Type 0 where
  pub m : Machine
  pub run : Run (empty_machine start.time) (events_in deeds) (replies_in deeds) m
  pub matches : Matches is.device w m
  pub closed : StartsHonest is start → (key : SessionKey) (spans : List Span) → WereToldClosed key spans deeds
      → (after : WorldView D) (got got' : List Record) (result : Result ReadEnd Refusal)
      → IsRead is.device key spans got got' result w after
      → ReadsClosed is.device w m key spans got got' result
  pub cancelled : StartsHonest is start → (key : SessionKey) (spans : List Span) → WereAsked key spans deeds → spans ≢ []
      → HasStatus m key Cancelled
      → (after : WorldView D) (got got' : List Record) (result : Result ReadEnd Refusal)
      → IsRead is.device key spans got got' result w after
      → ReadsCancelled is.device w m key spans got got' result

-- Law.

-- So it is at every moment, whatever events a world answered and whatever it read back, in any order.
abbrev pub Headline : Type 0 → Type 0 → Type 0 → Type 0 → Type 0
Headline D Q S Z = (is : Meanings D Q S) (start : Start D Q S Z) (first w : WorldView D) (deeds : List Deed)
    → IsMadeOf is start first
    → LeadsTo is.device first deeds w
    → IsOfLists is start deeds w
