-- The stop theorem for running threads: what was closed by then, or is closed later, comes back after any stop.
use Rattle.std.specs.Prelude.{◌≡◌, ◌⊎◌, ℕ, Some, List, [], ◌∷◌, ◌++◌}
use Rattle.atomic_table.specs.Seated.{TableId}
use Rattle.sd_base.specs.declared.number.SessionKey.{SessionKey}
use Rattle.sd_driver.specs.Meaning.{Meaning}
use Rattle.sd_drive.specs.Receipt.{ReceiptIs}
use Rattle.sd_drive.specs.View.{DriveIs}
use Rattle.sd_line.specs.Side.{LineIs}
use Rattle.sd_machine.specs.Machine.{Machine}
use Rattle.sd_machine.specs.Step.{Run}
use Rattle.sd_machine.specs.declared.event.Event.TheVariants.{Close}
use Rattle.sd_machine.specs.declared.reply.Reply.TheVariants.{Closed}
use Rattle.sd_line.specs.Ends.{EndIs}
use Rattle.sd_session.specs.declared.status.Status.TheVariants as status
use Rattle.sd_hub.specs.Worlds.{IsSettledFrom, machine_of}
use Rattle.sd_span.specs.declared.span.Span.{Span}
use Rattle.sd_theorem.specs.Headline.{HasStatus}
use Rattle.sd_theorem.specs.Returns.{Returns}
use Rattle.sd_theorem.specs.Runs.{NonePurgesOf}
use Rattle.sd_theorem.specs.Start.{Meanings}
use Rattle.sd_theorem.specs.Told.{WereAsked}
use Rattle.sd_theorem.specs.Since.{HasReceipt}
use Rattle.sd_world.specs.Deeds.{Deed, Answered, LeadsTo, events_in, replies_in}
use Rattle.sd_world.specs.Honest.{AreHonest}
use Rattle.sd_world.specs.Steps.{IsSound}
use Rattle.sd_world.specs.World.{WorldView, WorldSession, BayView, IsOnline, session_at}

-- Between the deeds before and those after them the session of this key is closed, with these spans. It was closed in the machine,
-- there is no deed before, and a receipt has the spans, or they were told when they were asked for in the deeds after; or the last
-- of the deeds before closed it with them.
abbrev pub IsClosedBetween : Machine → List ReceiptIs → SessionKey → List Span → List Deed → List Deed → Type 0
IsClosedBetween began receipts key spans before after =
    ((before ≡ []) × HasStatus began key status.Closed × (HasReceipt key spans receipts ⊎ WereAsked key spans after))
    ⊎ ((ticket : ℕ) × (earlier : List Deed) × (before ≡ earlier ++ Answered (Close ticket) (Closed key spans) ∷ []))

-- From a world that was honest, which matched this machine, deeds led to one in which a session is closed with these spans; from
-- there the world did one deed after another, none of which purged a volume of the spans, and is this one now; the session's
-- drive is still online.
pub record WasClosedSince {D : Type 0} (meaning : D → Meaning) (first : WorldView D) (began : Machine) (receipts : List ReceiptIs)
    (key : SessionKey) (spans : List Span) (w : WorldView D) : Type 0 where
  pub honest : AreHonest meaning first
  pub before : List Deed
  pub at_close : WorldView D
  pub leads : LeadsTo meaning first before at_close
  pub after : List Deed
  pub closed : IsClosedBetween began receipts key spans before after
  pub goes_on : LeadsTo meaning at_close after w
  pub unpurged : NonePurgesOf spans after
  pub e : WorldSession
  pub there : session_at key.id w.sessions ≡ Some e
  pub at : ℕ
  pub bay : BayView D
  pub d : DriveIs D
  pub online : IsOnline w e.drive at bay d

-- The deeds are a run of the list machine, from that of the first world, to one in which the session is closed; its
-- drive was online at the close, or, if it was closed before, in the first world, and from that moment on its records
-- return.
pub record ComesBackSince {D Q S : Type 0} (Z : Type 0) (is : Meanings D Q S) (first : WorldView D) (began : Machine) (receipts : List ReceiptIs)
    (key : SessionKey) (spans : List Span) (w : WorldView D) (c : WasClosedSince is.device first began receipts key spans w) : Type 0 where
  pub m : Machine
  pub run : Run began (events_in (c.before ++ c.after)) (replies_in (c.before ++ c.after)) m
  pub has : HasStatus m key status.Closed
  pub bay_then : BayView D
  pub d_then : DriveIs D
  pub online_then : IsOnline c.at_close c.e.drive c.at bay_then d_then
  pub returns : Returns Z is key spans has.s.records (is.device d_then.device).shelf (is.device c.d.device).shelf

-- Law.

-- so it is of every session that was closed when a line was settled, and of every one that its world closed since, at every later
-- moment
abbrev pub ThreadStopTheorem : Type 0 → Type 0 → Type 0 → Type 0 → Type 0
ThreadStopTheorem D Q S Z = (is : Meanings D Q S) (table : ℕ → TableId) (time : ℕ → ℕ) (line : LineIs) (ends : List EndIs) (receipts : List ReceiptIs) (first : WorldView D)
    (from : IsSettledFrom is.device table time line ends receipts first)
    → IsSound is.device first
    → (key : SessionKey) (spans : List Span) (w : WorldView D)
    (c : WasClosedSince is.device first (machine_of from.settled from.told) receipts key spans w)
    → ComesBackSince Z is first (machine_of from.settled from.told) receipts key spans w c
