-- What a world does from some moment on, by the machine that it matched then.
use Rattle.std.specs.Prelude.{◌≡◌, ◌≢◌, ◌⊎◌, ℕ, Some, Result, List, [], slice_get}
use Rattle.sd_base.specs.Record.{Record}
use Rattle.sd_base.specs.declared.number.SessionKey.{SessionKey}
use Rattle.sd_base.specs.declared.refusal.Refusal.{Refusal}
use Rattle.sd_driver.specs.Meaning.{Meaning}
use Rattle.sd_drive.specs.Receipt.{ReceiptIs}
use Rattle.sd_machine.specs.Machine.{Machine, MachineSession, session_of}
use Rattle.sd_machine.specs.Step.{Run}
use Rattle.sd_readback.specs.declared.read.ReadEnd.{ReadEnd}
use Rattle.sd_session.specs.declared.status.Status.TheVariants.{Closed, Cancelled}
use Rattle.sd_span.specs.declared.span.Span.{Span}
use Rattle.sd_theorem.specs.Headline.{HasStatus, ReadsCancelled, ReadsClosed}
use Rattle.sd_theorem.specs.Told.{WereAsked, WereToldClosed}
use Rattle.sd_world.specs.Deeds.{Deed, IsRead, events_in, replies_in}
use Rattle.sd_world.specs.Honest.{AreHonest}
use Rattle.sd_world.specs.Matches.{Matches}
use Rattle.sd_world.specs.World.{WorldView}

-- one of these receipts is of the session of this key, and has these spans
abbrev pub HasReceipt : SessionKey → List Span → List ReceiptIs → Type 0
HasReceipt key spans receipts = (at : ℕ) × (r : ReceiptIs) × (slice_get receipts at ≡ Some r) × (r.key ≡ key) × (r.spans ≡ spans)

-- the machine has a session of this key
abbrev pub HasSession : Machine → SessionKey → Type 0
HasSession m key = (s : MachineSession) × (session_of key.id m.sessions ≡ Some s) × (s.key ≡ key)

-- The session of this key was closed, and these spans were told of it. It was closed before these deeds, in this machine, and a
-- receipt has them, or they were told when they were asked for in the deeds. Or it was closed in the deeds, and they were told
-- with the close, or when they were asked for later.
abbrev pub WereToldOfClosed : Machine → List ReceiptIs → SessionKey → List Span → List Deed → Type 0
WereToldOfClosed began receipts key spans deeds =
    (HasStatus began key Closed × (HasReceipt key spans receipts ⊎ WereAsked key spans deeds))
    ⊎ WereToldClosed key spans deeds

-- These spans were told of the session of this key, closed or not: when they were asked for in these deeds; or by a
-- receipt, if the machine had the session.
abbrev pub WereToldOf : Machine → List ReceiptIs → SessionKey → List Span → List Deed → Type 0
WereToldOf began receipts key spans deeds = WereAsked key spans deeds ⊎ (HasSession began key × HasReceipt key spans receipts)

-- The events of these deeds and the replies to them are a run of the list machine, from the one that the first world
-- matches to one that the world matches now. While every device and every store of the first world is honest, a closed
-- session is read to its records, and a cancelled one to the first of them. Of a new world, which matches the empty
-- machine, and with no receipts this is what `IsOfLists` says: there was no session before its deeds, and the world is
-- honest if all that it was made of is.
pub record IsOfListsSince {D : Type 0} (meaning : D → Meaning) (first : WorldView D) (began : Machine) (receipts : List ReceiptIs)
    (deeds : List Deed) (w : WorldView D) : Type 0 where
  pub m : Machine
  pub run : Run began (events_in deeds) (replies_in deeds) m
  pub matches : Matches meaning w m
  pub closed : AreHonest meaning first → (key : SessionKey) (spans : List Span) → WereToldOfClosed began receipts key spans deeds
      → (after : WorldView D) (got got' : List Record) (result : Result ReadEnd Refusal)
      → IsRead meaning key spans got got' result w after
      → ReadsClosed meaning w m key spans got got' result
  pub cancelled : AreHonest meaning first → (key : SessionKey) (spans : List Span) → WereToldOf began receipts key spans deeds → spans ≢ []
      → HasStatus m key Cancelled
      → (after : WorldView D) (got got' : List Record) (result : Result ReadEnd Refusal)
      → IsRead meaning key spans got got' result w after
      → ReadsCancelled meaning w m key spans got got' result
